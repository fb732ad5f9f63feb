use Rattle.pool_core.proofs.RuleLemmas.{forks}
use Rattle.pool_core.proofs.lane.LaneOver+Bench+T+R.split.Goals as goal

pub another-requires-clause-rule : goal.another-requires-clause-rule
another-requires-clause-rule g c =
    let p = c.requires.pass in
    forks (λ x. (g.T.Numbered.number_of x, g.T.Numbered.tag x)) g.R.LaneRule.fits _ _ p.live c.requires.first p.opened
