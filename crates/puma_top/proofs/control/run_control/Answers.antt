use Rattle.puma_top.proofs.ControlLemmas.{out_of_memory}
use Rattle.puma_top.proofs.control.run_control.Goals as goal

pub returns-in-Err : goal.returns-in-Err
returns-in-Err g c = out_of_memory _ _ _
