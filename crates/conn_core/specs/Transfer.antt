-- What a connection is that goes from one owner to another: one that was told nothing of its end.
use Rattle.std.specs.Prelude.{◌≡◌, ℕ, Bool, true, Option, None, Some, ⊤}
use Rattle.rack_types.specs.declared.peer.Local.{Local}
use Rattle.talk_core.specs.declared.ended.Why.{Why}
use Rattle.talk_core.specs.declared.ended.Why.TheVariants as why
use Rattle.conn_steps.specs.Opened.{untold}
use Rattle.conn_steps.specs.Owner.{MayPlace}
use Rattle.conn_steps.specs.Shown.{Shown}
use Rattle.conn_core.specs.Within.{KeptFrom}

-- the why has no level, and no two moments: what ended the connection, if anything did, are its own bytes, its link or
-- want of memory
abbrev pub IsBareWhy : Option Why → Type 0
IsBareWhy None = ⊤
IsBareWhy (Some why.Closed) = ⊤
IsBareWhy (Some why.PeerEnd) = ⊤
IsBareWhy (Some (why.Idle by)) = ⊥
IsBareWhy (Some (why.TimedOut since now)) = ⊥
IsBareWhy (Some (why.Stalled since now)) = ⊥
IsBareWhy (Some (why.Unread level)) = ⊥
IsBareWhy (Some why.ReadFailed) = ⊤
IsBareWhy (Some why.WriteFailed) = ⊤
IsBareWhy (Some (why.Halted level)) = ⊥
IsBareWhy (Some why.NoMemory) = ⊤
IsBareWhy (Some why.Hijacked) = ⊤

-- a connection that may go through a lane: it has this local side, none of its moments is below the least one, nothing
-- was told of its end, its why is bare, and at a lane with the mark it may be placed anew
pub record Transfer (local : Local) (least : ℕ) (marked : Bool) (c : Shown) : Type 0 where
  pub local_is : c.local ≡ local
  pub moments : KeptFrom least c.moments
  pub untold_is : c.ending ≡ untold
  pub why : IsBareWhy c.why
  pub waits : marked ≡ true → MayPlace c

-- the same connection, had it been told no drain
abbrev pub as_untold : Shown → Shown
as_untold c = record c { ending = record c.ending { told = 0 } }
