use Rattle.std.proofs.Common.{◌≤◌, map, drop}
use Rattle.builder_core.specs.Counts.{line_height, greatest}
use Rattle.builder_core.proofs.counting.+depth.Given as goal

abbrev pub invariant-is_within-loop-line : goal.invariant-is_within-loop-line
invariant-is_within-loop-line g l = record {
  whole : greatest (map line_height (drop l.line-index l.steps.lines.items)) ≤ l.depth → greatest (map line_height l.steps.lines.items) ≤ l.depth;
  part : greatest (map line_height (drop l.line-index l.steps.lines.items)) ≤ greatest (map line_height l.steps.lines.items);
}
