use Rattle.std.proofs.Common.{ap, sym, ◌∙◌}
use Rattle.builder_core.specs.Counts.{part, line_size}
use Rattle.builder_core.proofs.Folds.{part-run, part-cascade, part-use, part-map, steps_in-lines}
use Rattle.builder_core.proofs.Sums.{sum-remove}
use Rattle.builder_core.proofs.LastEnd.{taken, never-wears, never-at}
use Rattle.builder_core.proofs.building.take_end.Goals as goal

pub returns-in-Run-clause-end : goal.returns-in-Run-clause-end
returns-in-Run-clause-end g c =
    let t = taken c.args.block.now.lines.items c.in_ok-at.at c.remove.result (rw (← c.deref.ensures.value) c.in_ok-at.ensures) c.remove.ensures.value in
    t.last _ (ap part c.in-Run.is ∙ part-run c.in-Run.app)

pub returns-in-Run-clause-left : goal.returns-in-Run-clause-left
returns-in-Run-clause-left g c =
    let t = taken c.args.block.now.lines.items c.in_ok-at.at c.remove.result (rw (← c.deref.ensures.value) c.in_ok-at.ensures) c.remove.ensures.value in
    rw c.remove.ensures.items t.left

pub returns-in-Cascade-clause-end : goal.returns-in-Cascade-clause-end
returns-in-Cascade-clause-end g c =
    let t = taken c.args.block.now.lines.items c.in_ok-at.at c.remove.result (rw (← c.deref.ensures.value) c.in_ok-at.ensures) c.remove.ensures.value in
    t.last _ (ap part c.in-Cascade.is ∙ part-cascade c.in-Cascade.apps)

pub returns-in-Cascade-clause-left : goal.returns-in-Cascade-clause-left
returns-in-Cascade-clause-left g c =
    let t = taken c.args.block.now.lines.items c.in_ok-at.at c.remove.result (rw (← c.deref.ensures.value) c.in_ok-at.ensures) c.remove.ensures.value in
    rw c.remove.ensures.items t.left

pub unreachable-requires : goal.unreachable-requires
unreachable-requires g c =
    let t = taken c.args.block.now.lines.items c.in_ok-at.at c.remove.result (rw (← c.deref.ensures.value) c.in_ok-at.ensures) c.remove.ensures.value in
    never-wears c.in-Use.field-0 t.is_end.0 (sym (ap part c.in-Use.is ∙ part-use c.in-Use.field-0) ∙ t.is_end.1)

pub unreachable-requires-in-Map : goal.unreachable-requires-in-Map
unreachable-requires-in-Map g c =
    let t = taken c.args.block.now.lines.items c.in_ok-at.at c.remove.result (rw (← c.deref.ensures.value) c.in_ok-at.ensures) c.remove.ensures.value in
    never-at c.in-Map.field-0 _ t.is_end.0 (sym (ap part c.in-Map.is ∙ part-map c.in-Map.field-0 c.in-Map.field-1) ∙ t.is_end.1)

pub returns-in-Run-clause-smaller : goal.returns-in-Run-clause-smaller
returns-in-Run-clause-smaller g c =
    rw (steps_in-lines, steps_in-lines c.args.block.now, c.remove.ensures.items) (sum-remove line_size c.args.block.now.lines.items c.in_ok-at.at)

pub returns-in-Cascade-clause-smaller : goal.returns-in-Cascade-clause-smaller
returns-in-Cascade-clause-smaller g c =
    rw (steps_in-lines, steps_in-lines c.args.block.now, c.remove.ensures.items) (sum-remove line_size c.args.block.now.lines.items c.in_ok-at.at)
