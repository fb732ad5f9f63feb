use Rattle.stack_file.proofs.AgainLemmas.{read_again}
use Rattle.stack_file.proofs.MapLemmas.{map_again}
use Rattle.stack_file.proofs.RunLemmas.{run_again}
use Rattle.stack_file.proofs.UseLemmas.{use_again}
use Rattle.stack_file.proofs.laws.written_steps_are_read_again.Goals as goal

pub returns : goal.returns
returns c = read_again (record { use_again = use_again; run_again = run_again; map_again = map_again })
