use Rattle.master_core.proofs.EndLemmas.{stop_ends, halt_ends, never_starts}
use Rattle.master_core.proofs.laws.no_slot_starts_behind_an_end.Goals as goal

pub returns : goal.returns
returns c = record {
  halt = λ m n k l r gone i phase h leads. never_starts n k l gone i phase (halt_ends m n r h) leads;
  stop = λ m n k l r gone i phase h leads. never_starts n k l gone i phase (stop_ends m n r h) leads;
}
