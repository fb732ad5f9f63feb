use Rattle.master_core.proofs.CalmLemmas.{phases_are_near, draining_is_before}
use Rattle.master_core.proofs.laws.phases_are_one_apart.Goals as goal

pub returns : goal.returns
returns c = record { near = phases_are_near; draining = draining_is_before }
