use Rattle.pool_core.proofs.RuleLemmas.{puts, learns}
use Rattle.pool_core.proofs.lane.LaneOver+Bench+T+R.put.Goals as goal

pub push_as-requires-clause-rule : goal.push_as-requires-clause-rule
push_as-requires-clause-rule g c =
    let p = c.requires.pass in (
      puts (λ x. (g.T.Numbered.number_of x, g.T.Numbered.tag x)) g.R.LaneRule.fits _ _ _ _ p.live c.requires.fits,
      learns (λ x. (g.T.Numbered.number_of x, g.T.Numbered.tag x)) g.R.LaneRule.fits _ _ p.live p.opened,
    )
