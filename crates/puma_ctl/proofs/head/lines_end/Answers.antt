use Rattle.std.proofs.Common.{sym, ap, ◌∙◌}
use Rattle.message_framing.specs.HeadText.{empty_line}
use Rattle.puma_ctl.proofs.ScanLemmas.{searched_first, searched_found, searched_none, searched_other, searched_out}
use Rattle.puma_ctl.proofs.head.lines_end.Goals as goal
use Rattle.puma_ctl.proofs.head.lines_end.Goals.{then-text-at-eq10+else-n-gt0, else-text-at-eq10}

pub loop-at-init : goal.loop-at-init
loop-at-init c = searched_first c.args.text.now

pub returns-then-n-gt0-clause-value : goal.returns-then-n-gt0-clause-value
returns-then-n-gt0-clause-value c =
    sym (searched_found c.args.text.now c.loop-at.at c.empty_line-n.result c.loop-at.invariant c.loop-at-test.true c.if-text-at-eq10.true
    (c.empty_line-n.ensures.value ∙ ap empty_line c.suffix.ensures) c.if-n-gt0.true)

pub loop-at-preserved : goal.loop-at-preserved
loop-at-preserved c = elim c.if-text-at-eq10.branch [
  | then-text-at-eq10+else-n-gt0 w ↦
      searched_none c.args.text.now c.loop-at.at w.empty_line-n.result c.loop-at.invariant c.loop-at-test.true
      (w.empty_line-n.ensures.value ∙ ap empty_line w.suffix.ensures) w.if-n-gt0.false
  | else-text-at-eq10 w ↦ searched_other c.args.text.now c.loop-at.at c.loop-at.invariant c.loop-at-test.true w.if-text-at-eq10.false
]

pub returns-clause-value : goal.returns-clause-value
returns-clause-value c = sym (searched_out c.args.text.now c.loop-at.at c.loop-at.invariant c.loop-at-test.false)
