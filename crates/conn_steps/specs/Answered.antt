-- A connection that may be placed anew has answered all that it was asked.
use Rattle.std.specs.Prelude.{◌≡◌, ℕ, Bool, List, length, None}
use Rattle.rack_types.specs.Request.{Parts}
use Rattle.rack_outside.specs.Link.{Seen}
use Rattle.message_framing.specs.Request.{Begun}
use Rattle.talk_core.specs.Ended.{Shows}
use Rattle.talk_core.specs.Talk.{Talk, wanting, text}
use Rattle.talk_core.specs.Teller.{Teller, fates_of}
use Rattle.conn_steps.specs.Shown.{Shown}

-- the talk on the bytes that came stopped where more is wanted, and nothing is begun in the rest; each request of it was
-- run, and its text was sent whole. No reply closed by draining
pub record HasAnswered {H : Type 0} (s : Seen) (T : Teller H) (c : Shown) : Type 0 where
  pub given : List ℕ
  pub sent : List ℕ
  pub over : Bool
  pub shows : Shows s c.peer given sent over
  pub asked : List Parts
  pub rest : List ℕ
  pub talk : Talk (fates_of T) given asked wanting rest
  pub calls_is : c.calls ≡ length asked
  pub sent_is : sent ≡ text T asked wanting
  pub unbegun : ¬ (Begun rest)
  pub unclosed : c.ending.closing ≡ None
