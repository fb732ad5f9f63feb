use Rattle.std.proofs.Common.{rules, ◌≡◌, Some, None, length, ap, ◌∙◌, arith, sum, map}
use Rattle.builder_core.specs.Counts.{part, line_size}
use Rattle.builder_core.specs.Groups.{state}
use Rattle.builder_core.specs.Spread.{trees, parts, spread}
use Rattle.builder_core.proofs.Blocks.{group-hung, step-hung, turn, over, stopped, built-by}
use Rattle.builder_core.proofs.Sums.{sum-snoc}
use Rattle.builder_core.proofs.Folds.{part-map, steps_in-lines}
use Rattle.builder_core.proofs.Growing.{grown-refl, grown-trans}
use Rattle.builder_core.proofs.building.+build.Goals as goal

pub add_line-returns-in_ok-hang-in-Some-clause-groups :
    goal.add_line-returns-in_ok-hang-in-Some-clause-groups
add_line-returns-in_ok-hang-in-Some-clause-groups g t c =
    let low = rw c.in-Some.is at c.in_ok-add_block-in-Map.ensures.below in
    group-hung c.in_ok-add_block-in-Map.ensures.grown c.args.group c.in_ok-hang-in-Some.field-0 _ c.requires.is_group c.in_ok-hang-in-Some.ensures.rest c.in_ok-hang-in-Some.ensures.places low

pub add_line-returns-in_ok-hang-in-Some-clause-steps :
    goal.add_line-returns-in_ok-hang-in-Some-clause-steps
add_line-returns-in_ok-hang-in-Some-clause-steps g t c =
    let built = rw c.in-Some.is at c.in_ok-add_block-in-Map.ensures.builds in
    step-hung c.in_ok-add_block-in-Map.ensures.grown c.args.group c.in_ok-hang-in-Some.field-0 _ c.args.line c.in-Map.block c.requires.is_group c.in_ok-hang-in-Some.ensures.rest c.in_ok-hang-in-Some.ensures.places (ap part c.in-Map.is ∙ part-map c.in-Map.path c.in-Map.block) built

pub add_block-returns-in_default-2-clause-builds :
    goal.add_block-returns-in_default-2-clause-builds
add_block-returns-in_default-2-clause-builds g t c =
    let step = rw c.in_default-2.is at c.in_ok-next.ensures.steps in
    let r = trees c.begin.new.nodes.items c.in_ok-rest.rest in
    let ended = turn c.loop-line.block.lines.items c.pop.new.self.items c.in-Some.line (state c.loop-line.nodes.items c.loop-line.group) None (spread r (parts c.begin.new.block.lines.items)) c.in-Some.ensures.items step c.loop-line.invariant.built in
    built-by c.args.block (trees c.args.nodes.now.items c.args.default) r c.begin.new.block.lines.items None c.in_ok-rest.ensures.end c.in_ok-rest.ensures.left (stopped c.pop.new.self.items _ ended)

pub add_block-loop-line-preserved : goal.add_block-loop-line-preserved
add_block-loop-line-preserved g t c =
    let popped = c.in-Some.ensures.items in
    let step = rw c.in-Some-2.is at c.in_ok-next.ensures.steps in
    let less = ap (λ ls. sum (map line_size ls)) popped in
    let more = sum-snoc line_size c.pop.new.self.items c.in-Some.line in
    record {
      grown = grown-trans c.loop-line.invariant.grown c.in_ok-next.ensures.grown;
      group = rw c.in-Some-2.is at c.in_ok-next.ensures.groups;
      built = turn c.loop-line.block.lines.items c.pop.new.self.items c.in-Some.line (state c.loop-line.nodes.items c.loop-line.group) _ _ popped step c.loop-line.invariant.built;
      smaller = omega (arith, less, more, c.loop-line.invariant.smaller);
    }

pub add_block-returns-clause-builds : goal.add_block-returns-clause-builds
add_block-returns-clause-builds g t c =
    let none : length c.loop-line.block.lines.items ≡ 0 = omega (arith, c.in_default.ensures.cases.0, c.loop-line.block.lines.ok.0) in
    let now = state c.loop-line.nodes.items c.loop-line.group in
    let r = trees c.begin.new.nodes.items c.in_ok-rest.rest in
    let all = over c.loop-line.block.lines.items now (spread r (parts c.begin.new.block.lines.items)) none c.loop-line.invariant.built in
    let built = built-by c.args.block (trees c.args.nodes.now.items c.args.default) r c.begin.new.block.lines.items (Some now) c.in_ok-rest.ensures.end c.in_ok-rest.ensures.left all in
    rw (← built) c.close_group.ensures.trees

pub add_block-loop-line-init : goal.add_block-loop-line-init
add_block-loop-line-init g t c =
    let total = steps_in-lines c.begin.new.block in
    record {
      grown = grown-refl c.begin.new.nodes.items c.in_ok-rest.ensures.grown.falls;
      group = search rules;
      built = search rules;
      smaller = omega (arith, total, c.in_ok-rest.ensures.smaller);
    }

pub add_block-returns-in_default-2-clause-grown : goal.add_block-returns-in_default-2-clause-grown
add_block-returns-in_default-2-clause-grown g t c =
    grown-trans c.in_ok-rest.ensures.grown (grown-trans c.loop-line.invariant.grown c.in_ok-next.ensures.grown)
