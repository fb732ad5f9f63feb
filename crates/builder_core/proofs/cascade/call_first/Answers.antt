use Rattle.std.proofs.Common.{sym, ap, ◌∙◌}
use Rattle.builder_core.proofs.Trying.{kept_at}
use Rattle.builder_core.proofs.cascade.call_first.Goals as goal

pub returns-then-not-is_passed-clause-answers : goal.returns-then-not-is_passed-clause-answers
returns-then-not-is_passed-clause-answers g c =
    let answer = g.E.Endpoint.answer in
    let same = c.loop-app.invariant.same in
    let said =
    c.in_ok-answer.ensures.answers
    ∙ ap (λ ps. answer c.app-item.result ps c.loop-app.env.input.bytes) same.pairs
    ∙ ap (λ bytes. answer c.app-item.result c.args.env.now.pairs bytes) same.bytes in
    kept_at answer c.args.env.now.pairs c.args.env.now.input.bytes c.args.apps.now c.in-Some.front.now c.in-Some.last.now c.app-item.result c.loop-app.app-index _ c.loop-app-test.true c.app-item.is c.loop-app.invariant.left said (sym c.if-not-is_passed.ensures)
