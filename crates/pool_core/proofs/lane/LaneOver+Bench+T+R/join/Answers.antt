use Rattle.std.proofs.Common.{ap, ◌∙◌}
use Rattle.pool_core.specs.declared.view.PassView.{PassView}
use Rattle.pool_core.proofs.RuleLemmas.{merges, agrees}
use Rattle.pool_core.proofs.lane.LaneOver+Bench+T+R.join.Goals as goal

pub absorb-requires-clause-rule : goal.absorb-requires-clause-rule
absorb-requires-clause-rule g c =
    merges (λ x. (g.T.Numbered.number_of x, g.T.Numbered.tag x)) g.R.LaneRule.fits _ _ _ _ c.requires.pass.live c.requires.first c.requires.other.live

pub learn_as-requires-clause-rule : goal.learn_as-requires-clause-rule
learn_as-requires-clause-rule g c =
    agrees (λ x. (g.T.Numbered.number_of x, g.T.Numbered.tag x)) g.R.LaneRule.fits _ _ (ap (λ (v : PassView g.row.R-Data.Denot). v.live) c.absorb.ensures.rule ∙ c.requires.pass.live)
