use Rattle.pool_core.proofs.RepeatLemmas.{SameElements-often, often-SameElements, SameElements-permutation, permutation-SameElements, SameElements-length}
use Rattle.pool_core.proofs.laws.lists_with_repeats.Goals as goal

pub returns : goal.returns
returns c = record {
  often = λ xs ys. (SameElements-often xs ys, often-SameElements xs ys);
  order = λ xs ys. (permutation-SameElements xs ys, SameElements-permutation xs ys);
  count = λ xs ys same. SameElements-length xs ys same;
}
