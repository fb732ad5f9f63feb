use Rattle.std.proofs.Common.{arith, refl}
use Rattle.builder_core.specs.Counts.{line_height}
use Rattle.builder_core.proofs.Sums.{greatest_left, greatest_end}
use Rattle.builder_core.proofs.Folds.{height-lines}
use Rattle.builder_core.proofs.counting.+depth.Goals as goal

pub is_within-returns-then-not-line_within : goal.is_within-returns-then-not-line_within
is_within-returns-then-not-line_within g t c =
    let whole = height-lines c.args.steps.now in
    let part = c.loop-line.invariant.part in
    let left = greatest_left line_height c.args.steps.now.lines.items c.loop-line.line-index c.line-item.result (rw c.deref-line-items.ensures.value at c.loop-line-test.true) (rw c.deref-line-items.ensures.value at c.line-item.is) in
    (λ q. cc, λ h. c.if-not-line_within.ensures.1 (omega arith))

pub is_within-loop-line-preserved : goal.is_within-loop-line-preserved
is_within-loop-line-preserved g t c =
    let part = c.loop-line.invariant.part in
    let left = greatest_left line_height c.args.steps.now.lines.items c.loop-line.line-index c.line-item.result (rw c.deref-line-items.ensures.value at c.loop-line-test.true) (rw c.deref-line-items.ensures.value at c.line-item.is) in
    let low = c.if-not-line_within.ensures.0 refl in
    record { whole = λ h. c.loop-line.invariant.whole (omega arith); part = omega arith }

pub is_within-returns : goal.is_within-returns
is_within-returns g t c =
    let whole = height-lines c.args.steps.now in
    let past = rw c.deref-line-items.ensures.value at c.loop-line-test.false in
    let end = greatest_end line_height c.args.steps.now.lines.items c.loop-line.line-index past in
    let low = c.loop-line.invariant.whole (omega arith) in
    (λ q. omega arith, λ h. refl)
