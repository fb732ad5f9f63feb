use Rattle.std.proofs.Common.{◌≡◌, ◌≤◌, ◌+◌, ◌*◌, map, sum, length, Some}
use Rattle.builder_core.specs.Counts.{steps_in, line_size}
use Rattle.builder_core.specs.Groups.{state, IsGroup}
use Rattle.builder_core.specs.Spread.{Grown, trees, parts, spread, spread_over}
use Rattle.builder_core.proofs.building.+build.Given as goal

abbrev pub decreases-add_line : goal.decreases-add_line
decreases-add_line g l = 2 * line_size l.line

abbrev pub decreases-add_block : goal.decreases-add_block
decreases-add_block g l = 2 * steps_in l.block + 1

abbrev pub invariant-add_block-loop-line : goal.invariant-add_block-loop-line
invariant-add_block-loop-line g l = record {
  grown : Grown l.initial.nodes.items l.nodes.items;
  group : IsGroup l.nodes.items l.group;
  built : spread_over (parts l.block.lines.items) (Some (state l.nodes.items l.group)) ≡ spread (trees l.initial.nodes.items l.initial.group.rest) (parts l.initial.block.lines.items);
  smaller : sum (map line_size l.block.lines.items) ≤ steps_in l.fn.block;
}

abbrev pub decreases-add_block-loop-line : goal.decreases-add_block-loop-line
decreases-add_block-loop-line g l = length l.block.lines.items
