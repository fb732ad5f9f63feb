use Rattle.std.proofs.Common.{ap, ◌∙◌, rules}
use Rattle.pool_core.specs.declared.view.PassView.{PassView}
use Rattle.pool_core.proofs.RuleLemmas.{loads, opens}
use Rattle.pool_core.proofs.lane.LaneOver+Bench+T+R.new.Goals as goal

pub try_push_as-requires-clause-rule : goal.try_push_as-requires-clause-rule
try_push_as-requires-clause-rule g c = loads (λ x. (g.T.Numbered.number_of x, g.T.Numbered.tag x)) g.R.LaneRule.fits _ _ _ _ (search rules) (search rules)

pub try_pop_as-requires-clause-rule : goal.try_pop_as-requires-clause-rule
try_pop_as-requires-clause-rule g c =
    let r = c.in-Ok.ensures.rule in
    opens (λ x. (g.T.Numbered.number_of x, g.T.Numbered.tag x)) g.R.LaneRule.fits _ _ _
    (ap (λ (v : PassView g.row.R-Data.Denot). v.live) r.2 ∙ ap (λ (v : PassView g.row.R-Data.Denot). v.live) c.in_ok-queue.ensures.3)
    (ap (λ (v : PassView g.row.R-Data.Denot). v.stage) r.2)
