use Rattle.master_core.proofs.EndLemmas.{halts_once}
use Rattle.master_core.proofs.laws.halt_is_carried_out_once.Goals as goal

pub returns : goal.returns
returns c = halts_once
