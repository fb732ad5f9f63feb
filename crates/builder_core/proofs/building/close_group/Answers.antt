use Rattle.std.proofs.Common.{◌<◌, length, Some, sym, ap, ◌∙◌, rules}
use Rattle.builder_core.specs.Tree.{ByPlace}
use Rattle.builder_core.specs.Nodes.{row_at, tree_at}
use Rattle.builder_core.proofs.Grouping.{closed-group, below-group}
use Rattle.builder_core.proofs.building.close_group.Goals as goal

pub push_node-requires-clause-below : goal.push_node-requires-clause-below
push_node-requires-clause-below g c =
    rw c.in_ok-places.ensures (below-group _ _ _ c.requires.places_below c.requires.rest_below)

pub returns-clause-trees : goal.returns-clause-trees
returns-clause-trees g c =
    let some : 0 < length c.args.places.items = search rules in
    let at = tree_at c.args.nodes.now.items in
    ap (λ t. Some t) c.in_ok-push_node.ensures.tree
    ∙ ap (λ ps. Some (ByPlace (row_at at ps))) c.in_ok-places.ensures
    ∙ sym (closed-group at c.args.places.items c.args.rest some)
