use Rattle.std.proofs.Common.{sym, ◌∙◌}
use Rattle.puma_ctl.proofs.ScanLemmas.{end_is}
use Rattle.puma_ctl.proofs.head.head_end.Goals as goal

pub returns-in_err-end : goal.returns-in_err-end
returns-in_err-end c =
    c.from_residual.ensures ∙ end_is c.args.bytes.now c.suffix.result.now c.skip-start.result _ c.skip-start.ensures.value c.suffix.ensures c.in_err-end.ensures.value

pub returns : goal.returns
returns c = end_is c.args.bytes.now c.suffix.result.now c.skip-start.result _ c.skip-start.ensures.value c.suffix.ensures c.in_ok-end.ensures.value
