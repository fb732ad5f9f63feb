use Rattle.std.proofs.Common.{sym, ◌∙◌}
use Rattle.puma_ctl.proofs.ScanLemmas.{empty_first, empty_second, empty_none}
use Rattle.puma_ctl.proofs.head.empty_line.Goals as goal

pub returns-then-starts_with-clause-value : goal.returns-then-starts_with-clause-value
returns-then-starts_with-clause-value c = sym (empty_first c.args.bytes.now (sym c.starts_with.ensures.value ∙ c.if-starts_with.true))

pub returns-then-starts_with-2-clause-value : goal.returns-then-starts_with-2-clause-value
returns-then-starts_with-2-clause-value c = sym (empty_second c.args.bytes.now (sym c.starts_with-else-starts_with.ensures.value ∙ c.if-starts_with-2.true))

pub returns-else-starts_with-2-clause-value : goal.returns-else-starts_with-2-clause-value
returns-else-starts_with-2-clause-value c =
    sym (empty_none c.args.bytes.now (sym c.starts_with.ensures.value ∙ c.if-starts_with.false)
    (sym c.starts_with-else-starts_with.ensures.value ∙ c.if-starts_with-2.false))
