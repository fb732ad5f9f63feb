-- An order for which memory was refused before anything was done.
use Rattle.std.proofs.Common.{Option, None, Some, refl, inl}
use Rattle.puma_ctl.specs.declared.order.Outcome.TheVariants as outcome
use Rattle.puma_ctl.specs.Dial.{DialSeen}
use Rattle.puma_ctl.specs.Order.{Order, OutSeen}
use Rattle.puma_top.specs.Control.{ControlDid}
use Rattle.puma_top.specs.declared.status.Status.TheVariants.{NoMemory}

pub out_of_memory : (order : Option Order) (dial : DialSeen) (out : OutSeen) → ControlDid NoMemory order dial dial out out
out_of_memory None dial out = (tt, refl, refl)
out_of_memory (Some order) dial out = (outcome.NoMemory, refl, record { ended = inl refl; hands = inl refl })
