-- The tree that a list of nodes stands for.
use Rattle.std.proofs.Common.{◌≡◌, ℕ, zero, suc, ◌<◌, List, [], ◌∷◌, Option, Some, None, refl, ap, ◌∙◌, arith, slice_get}
use Rattle.builder_core.specs.Tree.{Tree, Wraps, ByPlace, Place}
use Rattle.builder_core.specs.Nodes.{row_at, tree_of_node, tree_of_found, tree_within, tree_at, AreBelow, HasBelow, IsFalling}
use Rattle.builder_core.specs.declared.stack.Node.{Node}
use Rattle.builder_core.specs.declared.stack.Node.TheVariants as node
use Rattle.builder_core.specs.declared.places.Place as place

-- a row depends on its nodes' trees alone
row_same : {E : Type 0} (f g : ℕ → Tree E) (n : ℕ) (ps : List place.Place) → ((k : ℕ) → k < n → f k ≡ g k) → AreBelow n ps → row_at f ps ≡ row_at g ps
row_same f g n [] same below = refl
row_same f g n (p ∷ ps) same below =
    ap (λ t. Place p.path t (row_at f ps)) (same p.node below.0)
    ∙ ap (λ row. Place p.path (g p.node) row) (row_same f g n ps same below.1)

-- and so does a node
pub node_same : {E : Type 0} (f g : ℕ → Tree E) (n : ℕ) (x : Node E) → ((k : ℕ) → k < n → f k ≡ g k) → HasBelow n x → tree_of_node f x ≡ tree_of_node g x
node_same f g n (node.Run e) same below = refl
node_same f g n (node.Use w k) same below = ap (λ t. Wraps w t) (same k below)
node_same f g n (node.Map ps) same below = ap (λ row. ByPlace row) (row_same f g n ps.items same below)
node_same f g n (node.Cascade es) same below = refl

pub found_same : {E : Type 0} (f g : ℕ → Tree E) (n : ℕ) (o : Option (Node E)) → ((k : ℕ) → k < n → f k ≡ g k) → ((x : Node E) → o ≡ Some x → HasBelow n x) → tree_of_found f o ≡ tree_of_found g o
found_same f g n None same below = refl
found_same f g n (Some x) same below = node_same f g n x same (below x refl)

-- any depth above the node's number gives the same tree
within_same : {E : Type 0} (nodes : List (Node E)) (falls : IsFalling nodes) (a b : ℕ) (n : ℕ) → n < a → n < b → tree_within a nodes n ≡ tree_within b nodes n
unfolding tree_within
within_same nodes falls zero b n p q = absurd (omega arith)
within_same nodes falls (suc a) zero n p q = absurd (omega arith)
within_same nodes falls (suc a) (suc b) n p q =
    found_same (tree_within a nodes) (tree_within b nodes) n (slice_get nodes n) (λ k r. within_same nodes falls a b k (omega arith) (omega arith)) (λ x e. falls n x e)

-- the tree of a node is made of its children's
pub tree_at-node : {E : Type 0} (nodes : List (Node E)) (falls : IsFalling nodes) (n : ℕ) (x : Node E) → slice_get nodes n ≡ Some x → tree_at nodes n ≡ tree_of_node (tree_at nodes) x
unfolding tree_at tree_within
tree_at-node nodes falls n x e =
    ap (tree_of_found (tree_within n nodes)) e
    ∙ node_same (tree_within n nodes) (tree_at nodes) n x (λ k r. within_same nodes falls n (suc k) k r (omega arith)) (falls n x e)
