use Rattle.std.proofs.Common.{◌≡◌, ◌+◌, sum, map, drop}
use Rattle.builder_core.specs.Counts.{line_size}
use Rattle.builder_core.proofs.counting.+size.Given as goal

abbrev pub invariant-steps_left-loop-line : goal.invariant-steps_left-loop-line
invariant-steps_left-loop-line g l =
    l.rest + sum (map line_size l.steps.lines.items) ≡ l.left + sum (map line_size (drop l.line-index l.steps.lines.items))
