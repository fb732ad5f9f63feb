-- What one `fill` does to a framer and to the ring.
use Rattle.std.specs.Prelude.{◌≡◌, ◌<◌, ℕ, false, [], length, None, Some, Result, Ok, Err}
use Rattle.std.specs.declared.alloc.AllocError.{AllocError}
use Rattle.circular_buffer.specs.Buffer.{Buffer}
use Rattle.reply_framing.specs.declared.types.After.{After}
use Rattle.reply_framing.specs.declared.types.After.TheVariants.{Close}
use Rattle.reply_framing.specs.declared.types.Filled.{Filled}
use Rattle.reply_framing.specs.declared.types.Filled.TheVariants.{Full, Done, Broke}
use Rattle.reply_framing.specs.declared.types.Form.TheVariants.{Bare}
use Rattle.reply_framing.specs.Coming.{Rest, Appends}
use Rattle.reply_framing.specs.PullOrder.{Pulls}

-- the answer of a fill is right of the rest and the ring behind it: the ring is full and bytes remain, all was
-- appended, all before the break was appended, or the body wanted memory
abbrev pub IsFilled : Result Filled AllocError → Rest → Buffer ℕ → Type 0
IsFilled (Ok Full) rest ring = (0 < length rest.bytes) × (length ring.items ≡ ring.capacity)
IsFilled (Ok Done) rest ring = (rest.bytes ≡ []) × (rest.rule ≡ None)
IsFilled (Ok (Broke rule)) rest ring = (rest.bytes ≡ []) × (rest.rule ≡ Some rule)
IsFilled (Err e) rest ring = rest.sure ≡ false

-- behind a break the connection closes
abbrev pub after_then : Result Filled AllocError → After → After
after_then (Ok Full) after = after
after_then (Ok Done) after = after
after_then (Ok (Broke rule)) after = Close
after_then (Err e) after = after

-- one fill: what it appended, what it answers, in which order it asked the body, and what stays
pub record Fills (old : Rest) (result : Result Filled AllocError) (new : Rest) (before after : Buffer ℕ) : Type 0 where
  pub appends : Appends old.bytes new.bytes before after
  pub answer : IsFilled result new after
  pub pulls : Pulls old new
  -- a body that isn't sent is never asked
  pub bare : old.form ≡ Bare → new.waiting ≡ old.waiting
  pub rule : new.rule ≡ old.rule
  pub sure : new.sure ≡ old.sure
  pub form : new.form ≡ old.form
  pub raises : new.raises ≡ old.raises
