use Rattle.stock_apps.proofs.RuleLemmas.{breaks_each, breaks_10}
use Rattle.stock_apps.proofs.laws.bad_breaks_its_rule.Goals as goal

pub returns-clause-first : goal.returns-clause-first
returns-clause-first c = breaks_each

pub returns-clause-last : goal.returns-clause-last
returns-clause-last c = breaks_10
