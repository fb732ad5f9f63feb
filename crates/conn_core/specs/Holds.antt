-- That a connection stands for its talk: what its owner carries from its opening to its end.
use Rattle.std.specs.Prelude.{ℕ, List}
use Rattle.rack_types.specs.declared.body.Body.{Ghosts}
use Rattle.rack_outside.specs.Link.{Seen}
use Rattle.talk_core.specs.Lives.{AreLives}
use Rattle.talk_core.specs.Tail.{Voice}
use Rattle.talk_core.specs.Teller.{Stacks, Teller, tell}
use Rattle.conn_core.specs.declared.conn.Conn.{Conn}
use Rattle.conn_steps.specs.Holds.{HoldsBy}

-- the same of a connection, whose link shows this: it is carried by its owner, from `open` to `finish`
abbrev pub HoldsWith : {L B H : Type 0} {g : Ghosts B} → (L → Seen) → Voice H → Teller H → Conn L B H g → Type 0
HoldsWith {L} {B} {H} {g} seen V T c = HoldsBy V T (seen c.link) c.inside.value

-- the same over stacks
pub record Holds {L B H : Type 0} {g : Ghosts B} (seen : L → Seen) (V : Voice H) (S : Stacks H) (c : Conn L B H g) : Type 0 where
  pub lives_are : AreLives c.inside.value.lives.items c.inside.value.calls
  pub stands : HoldsWith seen V (tell S c.inside.value.lives.items c.inside.value.local c.inside.value.peer c.inside.value.ending.closing) c
