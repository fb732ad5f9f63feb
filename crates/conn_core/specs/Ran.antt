-- What an owner carries of a connection whatever its runner is.
use Rattle.std.specs.Prelude.{ℕ, ◌<◌}
use Rattle.rack_types.specs.declared.answer.Answer.{Answer}
use Rattle.rack_types.specs.declared.body.Body.{Ghosts}
use Rattle.rack_types.specs.Body.{Content}
use Rattle.rack_outside.specs.Link.{Seen}
use Rattle.talk_core.specs.Answered.{Answers, tell_by}
use Rattle.talk_core.specs.Lives.{AreLives}
use Rattle.talk_core.specs.Tail.{Voice}
use Rattle.conn_core.specs.declared.conn.Conn.{Conn}
use Rattle.conn_core.specs.Holds.{HoldsWith}
use Rattle.conn_core.specs.Shown.{shown}

-- what an owner carries of a connection from `open` to `finish`, whatever the runner is: it has its lives, and stands for
-- its talk over the replies by some answers, one to each request by its number, each of which is such an answer
pub record HoldsAny {L B H : Type 0} {g : Ghosts B} (seen : L → Seen) (V : Voice H) (IsFit : Answer Content H → Type 0) (c : Conn L B H g) : Type 0 where
  pub answers : Answers H
  pub fit : (k : ℕ) → k < (shown c).calls → IsFit (answers k)
  pub lives_are : AreLives (shown c).lives (shown c).calls
  pub stands : HoldsWith seen V (tell_by answers (shown c).local (shown c).peer (shown c).ending.closing) c
