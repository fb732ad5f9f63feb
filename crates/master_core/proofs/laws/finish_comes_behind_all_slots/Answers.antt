use Rattle.master_core.proofs.EndLemmas.{finishes}
use Rattle.master_core.proofs.laws.finish_comes_behind_all_slots.Goals as goal

pub returns : goal.returns
returns c = record {
  vacant = λ m n gone s. (finishes m n gone s).0;
  ordered = λ m n gone s. (finishes m n gone s).1;
}
