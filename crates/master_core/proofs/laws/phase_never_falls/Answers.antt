use Rattle.master_core.proofs.PhaseLemmas.{never_falls}
use Rattle.master_core.proofs.laws.phase_never_falls.Goals as goal

pub returns : goal.returns
returns c = never_falls
