use Rattle.puma_top.proofs.StackLemmas.{one_stack}
use Rattle.puma_top.proofs.laws.one_stack_at_most.Goals as goal

pub returns : goal.returns
returns c = λ text stack other h k. one_stack text stack other h k
