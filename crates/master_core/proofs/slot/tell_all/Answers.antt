use Rattle.std.proofs.Common.{arith}
use Rattle.std.proofs.lemmas.List.{get_or_default}
use Rattle.std.proofs.lemmas.List.Edits.{map_over_more}
use Rattle.master_core.specs.Slots.{told}
use Rattle.master_core.proofs.slot.tell_all.Goals as goal

pub loop-i-preserved : goal.loop-i-preserved
loop-i-preserved c =
    rw c.told.ensures (map_over_more told c.args.slots.now c.loop-i.slots c.loop-i.i _ (omega arith) c.loop-i.invariant (get_or_default c.loop-i.slots c.loop-i.i _ _ (omega arith)))
