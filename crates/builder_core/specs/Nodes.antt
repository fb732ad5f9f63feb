-- The list of nodes that a stack is kept as, and the tree that it stands for.
use Rattle.std.specs.Prelude.{◌≡◌, ℕ, zero, suc, ◌<◌, List, [], ◌∷◌, length, Option, Some, None, slice_get, ⊤, map, option_map}
use Rattle.builder_core.specs.Tree.{Tree, Calls, Wraps, ByPlace, Tries, Row, NoPlace, Place}
use Rattle.std.proofs.Common.{Bor}
use Rattle.builder_core.specs.declared.stack.Node.{Node}
use Rattle.builder_core.specs.declared.stack.Node.TheVariants as node
use Rattle.builder_core.specs.declared.places.Place as place

-- the row of places whose nodes stand for these trees
abbrev pub row_at : {E : Type 0} → (ℕ → Tree E) → List place.Place → Row E
row_at at [] = NoPlace
row_at at (p ∷ ps) = Place p.path (at p.node) (row_at at ps)

-- the tree of a node, where those of its children are known
abbrev pub tree_of_node : {E : Type 0} → (ℕ → Tree E) → Node E → Tree E
tree_of_node at (node.Run e) = Calls e
tree_of_node at (node.Use w n) = Wraps w (at n)
tree_of_node at (node.Map ps) = ByPlace (row_at at ps.items)
tree_of_node at (node.Cascade es) = Tries es.items

-- beyond the list there is an empty cascade
abbrev pub tree_of_found : {E : Type 0} → (ℕ → Tree E) → Option (Node E) → Tree E
tree_of_found at None = Tries []
tree_of_found at (Some n) = tree_of_node at n

-- the tree of node n, at most this many nodes deep
unfoldable pub tree_within : {E : Type 0} → ℕ → List (Node E) → ℕ → Tree E
tree_within zero nodes n = Tries []
tree_within (suc deep) nodes n = tree_of_found (tree_within deep nodes) (slice_get nodes n)

-- the tree of node n
unfoldable pub tree_at : {E : Type 0} → List (Node E) → ℕ → Tree E
tree_at nodes n = tree_within (suc n) nodes n

-- a stack as it is kept: its nodes, and the number of the one that is called first
abbrev pub Kept : Type 0 → Type 0
Kept E = List (Node E) × ℕ

-- the tree that it stands for, which is all that callers need of it
abbrev pub tree_of : {E : Type 0} → Kept E → Tree E
tree_of s = tree_at s.0 s.1

-- the children's numbers are below n
abbrev pub AreBelow : ℕ → List place.Place → Type 0
AreBelow n [] = ⊤
AreBelow n (p ∷ ps) = (p.node < n) × AreBelow n ps

abbrev pub HasBelow : {E : Type 0} → ℕ → Node E → Type 0
HasBelow n (node.Run e) = ⊤
HasBelow n (node.Use w k) = k < n
HasBelow n (node.Map ps) = AreBelow n ps.items
HasBelow n (node.Cascade es) = ⊤

-- each node's children have lower numbers
abbrev pub IsFalling : {E : Type 0} → List (Node E) → Type 0
IsFalling {E} nodes = (n : ℕ) (x : Node E) → slice_get nodes n ≡ Some x → HasBelow n x

-- what a stack keeps: the node at the top is there
pub record IsStack {E : Type 0} (nodes : List (Node E)) (top : ℕ) : Type 0 where
  pub falls : IsFalling nodes
  pub there : top < length nodes

-- places with the numbers of their nodes
abbrev pub numbered : List place.Place → List (List ℕ × ℕ)
numbered ps = map (λ p. (p.path, p.node)) ps

-- a place that was found
abbrev pub shown : Option (Bor place.Place) → Option (List ℕ × ℕ)
shown o = option_map (λ p. (p.now.path, p.now.node)) o
