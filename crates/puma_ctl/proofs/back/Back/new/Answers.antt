use Rattle.puma_ctl.proofs.FoundLemmas.{coming_first}
use Rattle.puma_ctl.proofs.back.Back.new.Goals as goal

pub invariant_of-result : goal.invariant_of-result
invariant_of-result c = coming_first c.in_ok-with_capacity.field-0.items c.in_ok-with_capacity.ensures.items
