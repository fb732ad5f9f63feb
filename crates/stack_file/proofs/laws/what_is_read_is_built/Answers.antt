use Rattle.stack_file.proofs.CallerLemmas.{reads_faults}
use Rattle.stack_file.proofs.laws.what_is_read_is_built.Goals as goal

pub returns : goal.returns
returns c = reads_faults
