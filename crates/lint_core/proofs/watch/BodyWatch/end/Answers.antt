use Rattle.std.proofs.Common.{rules, Some, None}
use Rattle.rack_types.specs.BodyRules.{body_rule}
use Rattle.lint_core.proofs.WatchLemmas.{end_is}
use Rattle.lint_core.proofs.watch.BodyWatch.end.Goals as goal

pub returns-then-raised-clause-break_is : goal.returns-then-raised-clause-break_is
returns-then-raised-clause-break_is c =
    end_is c.args.self.now c.args.raised (Some (body_rule 3)) (search rules)

pub returns-in-Some-clause-break_is : goal.returns-in-Some-clause-break_is
returns-in-Some-clause-break_is c =
    end_is c.args.self.now c.args.raised (Some (body_rule 2)) (search rules)

pub returns-in_default-clause-break_is : goal.returns-in_default-clause-break_is
returns-in_default-clause-break_is c = end_is c.args.self.now c.args.raised None (search rules)

pub returns-in_default-2-clause-break_is : goal.returns-in_default-2-clause-break_is
returns-in_default-2-clause-break_is c = end_is c.args.self.now c.args.raised None (search rules)
