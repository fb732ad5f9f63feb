use Rattle.std.proofs.Common.{rules, ◌≡◌, Some}
use Rattle.puma_top.proofs.ServeLemmas.{prefix_of}
use Rattle.puma_top.proofs.once.serve.Goals as goal

pub returns-clause-prefix : goal.returns-clause-prefix
returns-clause-prefix g c =
    λ before xs ys e f.
    let given : g.S.Source.given c.talk-link.result.source.now ≡ Some xs = search (rules, e) in
    let input : g.S.Source.input c.talk-link.result.source.now ≡ Some ys = search (rules, f) in
    prefix_of (g.S.Source.given c.talk-link.result.source.now) (g.S.Source.input c.talk-link.result.source.now) c.talk-link.result.front xs ys given input
