use Rattle.std.proofs.Common.{rules, Some, None, ◌-◌}
use Rattle.rack_types.specs.BodyRules.{body_rule}
use Rattle.lint_core.proofs.WatchLemmas.{piece_is}
use Rattle.lint_core.proofs.watch.BodyWatch.piece.Goals as goal

pub returns-in_default-clause-break_is : goal.returns-in_default-clause-break_is
returns-in_default-clause-break_is c = λ piece pieces raises as_long.
    piece_is c.args.self.now c.args.self.now None piece pieces raises c.args.len (search rules) (search rules) as_long

pub returns-then-left-len-clause-break_is : goal.returns-then-left-len-clause-break_is
returns-then-left-len-clause-break_is c = λ piece pieces raises as_long.
    piece_is c.args.self.now c.args.self.now (Some (body_rule 1)) piece pieces raises c.args.len (search rules) (search rules) as_long

pub returns-clause-break_is : goal.returns-clause-break_is
returns-clause-break_is c = λ piece pieces raises as_long.
    piece_is c.args.self.now (Some (c.in-Some.left - c.args.len)) None piece pieces raises c.args.len (search rules) (search rules) as_long
