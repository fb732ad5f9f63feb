use Rattle.std.proofs.Common.{sym, ap, ◌∙◌, subst, ℕ, ◌≤◌, List, length, arith, length-drop}
use Rattle.message_framing.specs.HeadText.{empty_line}
use Rattle.puma_ctl.proofs.ScanLemmas.{skipped_first, skipped_on, skipped_over}
use Rattle.puma_ctl.proofs.head.skip.Goals as goal

pub loop-at-init : goal.loop-at-init
loop-at-init c = skipped_first c.args.bytes.now

pub returns-then-n-eq0-clause-value : goal.returns-then-n-eq0-clause-value
returns-then-n-eq0-clause-value c =
    skipped_over c.args.bytes.now c.loop-at.at c.empty_line-n.result c.loop-at.invariant (c.empty_line-n.ensures.value ∙ ap empty_line c.suffix.ensures)
    c.if-n-eq0.true

pub loop-at-preserved : goal.loop-at-preserved
loop-at-preserved c =
    skipped_on c.args.bytes.now c.loop-at.at c.empty_line-n.result c.loop-at.invariant (c.empty_line-n.ensures.value ∙ ap empty_line c.suffix.ensures)
    c.if-n-eq0.false (subst (λ (w : List ℕ). c.empty_line-n.result ≤ length w) c.suffix.ensures c.empty_line-n.ensures.within)

pub loop-at-smaller : goal.loop-at-smaller
loop-at-smaller c =
    let fits : c.empty_line-n.result ≤ length c.suffix.result.now = c.empty_line-n.ensures.within in
    omega (arith, fits, ap length c.suffix.ensures, length-drop c.loop-at.at c.args.bytes.now, c.if-n-eq0.false, c.loop-at.invariant.within)
