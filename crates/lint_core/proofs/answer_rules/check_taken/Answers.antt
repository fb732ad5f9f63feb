use Rattle.std.proofs.Common.{refl}
use Rattle.lint_core.proofs.OrderLemmas.{taken_is}
use Rattle.lint_core.proofs.answer_rules.check_taken.Goals as goal

pub returns-then-is_hijack_wrong : goal.returns-then-is_hijack_wrong
returns-then-is_hijack_wrong c =
    rw (taken_is c.args.env.now.pairs, ← c.is_hijack_wrong.ensures, c.if-is_hijack_wrong.true) refl

pub returns : goal.returns
returns c =
    rw (taken_is c.args.env.now.pairs, ← c.is_hijack_wrong.ensures, c.if-is_hijack_wrong.false) refl
