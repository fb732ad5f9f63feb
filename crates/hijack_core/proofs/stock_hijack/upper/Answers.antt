use Rattle.std.proofs.Common.{◌∙◌}
use Rattle.std.proofs.lemmas.Result.{IfOk-weaker}
use Rattle.hijack_core.proofs.StockLemmas.{upper-none, upper-some}
use Rattle.hijack_core.proofs.stock_hijack.upper.Goals as goal

pub returns-in-Some : goal.returns-in-Some
returns-in-Some c = IfOk-weaker c.capitals.result _ _ (λ said is. is ∙ upper-some c.args.piece.now c.in-Some.place c.in-Some.ensures) c.capitals.ensures

pub returns-in-None : goal.returns-in-None
returns-in-None c = IfOk-weaker c.capitals-in-None.result _ _ (λ said is. is ∙ upper-none c.args.piece.now c.in-None.ensures) c.capitals-in-None.ensures
