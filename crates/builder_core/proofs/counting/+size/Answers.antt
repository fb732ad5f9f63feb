use Rattle.std.proofs.Common.{◌<◌, arith, rules}
use Rattle.builder_core.specs.Counts.{line_size, steps_in}
use Rattle.builder_core.proofs.Sums.{sum_left, sum_end}
use Rattle.builder_core.proofs.Folds.{steps_in-lines}
use Rattle.builder_core.proofs.counting.+size.Goals as goal

pub steps_left-returns-in_err-rest : goal.steps_left-returns-in_err-rest
steps_left-returns-in_err-rest g t c =
    let whole = steps_in-lines c.args.steps.now in
    let left = sum_left line_size c.args.steps.now.lines.items c.loop-line.line-index c.line-item.result (rw c.deref-line-items.ensures.value at c.loop-line-test.true) (rw c.deref-line-items.ensures.value at c.line-item.is) in
    let more : c.args.left < steps_in c.args.steps.now = omega (arith, c.in_err-rest.ensures, c.loop-line.invariant) in
    search rules

pub steps_left-loop-line-preserved : goal.steps_left-loop-line-preserved
steps_left-loop-line-preserved g t c =
    let left = sum_left line_size c.args.steps.now.lines.items c.loop-line.line-index c.line-item.result (rw c.deref-line-items.ensures.value at c.loop-line-test.true) (rw c.deref-line-items.ensures.value at c.line-item.is) in
    omega (arith, c.in_ok-rest.ensures, c.loop-line.invariant)

pub steps_left-returns : goal.steps_left-returns
steps_left-returns g t c =
    let whole = steps_in-lines c.args.steps.now in
    let past = rw c.deref-line-items.ensures.value at c.loop-line-test.false in
    let end = sum_end line_size c.args.steps.now.lines.items c.loop-line.line-index past in
    omega (arith, c.loop-line.invariant)
