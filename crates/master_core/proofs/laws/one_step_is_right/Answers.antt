use Rattle.master_core.proofs.StepLemmas.{steps_one, steps_some}
use Rattle.master_core.proofs.laws.one_step_is_right.Goals as goal

pub returns : goal.returns
returns c = record { total = steps_some; one = steps_one }
