use Rattle.std.proofs.Common.{true≢false}
use Rattle.pool_core.proofs.RuleLemmas.{takes, learns, left_differs}
use Rattle.pool_core.proofs.lane.LaneOver+Bench+T+R.take.Goals as goal

pub pop_as-requires-clause-rule : goal.pop_as-requires-clause-rule
pop_as-requires-clause-rule g c =
    let p = c.requires.pass in (
      takes (λ x. (g.T.Numbered.number_of x, g.T.Numbered.tag x)) g.R.LaneRule.fits _ _ p.live p.opened,
      learns (λ x. (g.T.Numbered.number_of x, g.T.Numbered.tag x)) g.R.LaneRule.fits _ _ p.live p.opened,
    )

pub returns-in-Some-Item-clause-whole : goal.returns-in-Some-Item-clause-whole
returns-in-Some-Item-clause-whole g c whole =
    let r = c.in-Some-Item.ensures.rule in (
      (λ z. absurd (true≢false z)),
      λ same. absurd (left_differs (λ x. (g.T.Numbered.number_of x, g.T.Numbered.tag x)) g.R.LaneRule.fits _ _ (record { rest = r.3.rest; left = r.3.knows.whole whole }) same),
    )
