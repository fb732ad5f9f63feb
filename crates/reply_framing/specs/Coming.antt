-- What a framer still has to append, whatever it holds.
use Rattle.std.specs.Prelude.{◌≡◌, ℕ, Bool, List, ◌++◌, Option}
use Rattle.circular_buffer.specs.Buffer.{Buffer, buffer}
use Rattle.rack_types.specs.declared.rules.BodyRule.{BodyRule}
use Rattle.reply_framing.specs.declared.types.After.{After}
use Rattle.reply_framing.specs.declared.types.Form.{Form}

-- the rest of a reply
pub record Rest : Type 0 where
  -- the bytes that are still to be appended, to the end or to the break
  pub bytes : List ℕ
  -- the rule that the body breaks behind them, none where it ends well
  pub rule : Option BodyRule
  -- asking for the rest of the reply never wants memory: its body never does, or none is sent
  pub sure : Bool
  -- how the pieces are framed
  pub form : Form
  -- what is left of the length that was promised, none where none was
  pub left : Option ℕ
  -- the pieces that were not taken from the body, and whether it raises behind them
  pub waiting : List (List ℕ)
  pub raises : Bool

-- a framer: the rest of its reply, what it tells of the connection now, and who takes it over
pub record Coming (H : Type 0) : Type 0 where
  pub rest : Rest
  pub after : After
  pub hijacker : Option H

-- some first bytes of what was to come were appended to the ring, and the others are to come
pub record Appends (old new : List ℕ) (before after : Buffer ℕ) : Type 0 where
  pub sent : List ℕ
  pub bytes : old ≡ sent ++ new
  pub ring : after ≡ buffer (before.items ++ sent) before.capacity
