use Rattle.puma_top.proofs.LawLemmas.{one_text}
use Rattle.puma_top.proofs.laws.one_answer_at_most.Goals as goal

pub returns : goal.returns
returns c = λ site bytes text other x y. one_text site bytes text other x y
