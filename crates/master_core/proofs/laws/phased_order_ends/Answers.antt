use Rattle.master_core.proofs.StepLemmas.{draining_may_be_gone}
use Rattle.master_core.proofs.RestartLemmas.{goes_on, stays_pending, comes_to_its_end}
use Rattle.master_core.proofs.laws.phased_order_ends.Goals as goal

pub returns : goal.returns
returns c = record {
  may = draining_may_be_gone;
  goes = goes_on;
  pending = stays_pending;
  done = comes_to_its_end;
}
