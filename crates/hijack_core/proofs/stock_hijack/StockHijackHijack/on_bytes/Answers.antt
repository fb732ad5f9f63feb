use Rattle.std.proofs.Common.{ap, ◌∙◌}
use Rattle.std.proofs.lemmas.Result.{IfOk-weaker}
use Rattle.hijack_core.specs.Stock.{stock_says}
use Rattle.hijack_core.proofs.StockLemmas.{goes_on-as}
use Rattle.hijack_core.proofs.stock_hijack.StockHijackHijack.on_bytes.Goals as goal

pub returns-clause-goes_on : goal.returns-clause-goes_on
returns-clause-goes_on c =
    let piece = c.args.piece.now in
    let same = ap (λ stock. stock_says stock piece) c.self.view_is in
    IfOk-weaker c.answer.result _ _ (λ said is. goes_on-as c.args.self.now piece said (is ∙ same)) c.answer.ensures
