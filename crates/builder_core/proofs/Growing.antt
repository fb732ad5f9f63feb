-- Lists of nodes that grow.
use Rattle.std.proofs.Common.{◌≡◌, ℕ, zero, suc, ◌<◌, ◌≤◌, List, [], ◌∷◌, ◌++◌, length, Option, Some, None, refl, ap, subst, ◌∙◌, arith, slice_get, length-append}
use Rattle.std.proofs.lemmas.Option.{same_Some}
use Rattle.builder_core.specs.Tree.{Tree, Row, NoPlace, Place}
use Rattle.builder_core.specs.Nodes.{tree_of_node, tree_of_found, tree_within, tree_at, AreBelow, HasBelow, IsFalling}
use Rattle.builder_core.specs.Spread.{Grown, IsBelow, trees, onto}
use Rattle.builder_core.specs.declared.stack.Node.{Node}
use Rattle.builder_core.specs.declared.places.Place as place
use Rattle.builder_core.proofs.Trees.{found_same, node_same, tree_at-node}

slice_get-front : {A : Type 0} (xs ys : List A) (n : ℕ) → n < length xs → slice_get (xs ++ ys) n ≡ slice_get xs n
slice_get-front [] ys n h = absurd (omega arith)
slice_get-front (x ∷ xs) ys zero h = refl
slice_get-front (x ∷ xs) ys (suc n) h = slice_get-front xs ys n (omega arith)

slice_get-seam : {A : Type 0} (xs : List A) (y : A) → slice_get (xs ++ y ∷ []) (length xs) ≡ Some y
slice_get-seam [] y = refl
slice_get-seam (x ∷ xs) y = slice_get-seam xs y

-- what holds of each element and of one more
each_more : {A : Type 0} (P : ℕ → A → Type 0) (xs : List A) (y : A) → ((n : ℕ) (x : A) → slice_get xs n ≡ Some x → P n x) → P (length xs) y → (n : ℕ) (x : A) → slice_get (xs ++ y ∷ []) n ≡ Some x → P n x
each_more P [] y each last zero x e = subst (P 0) (same_Some y x e) last
each_more P [] y each last (suc n) x e = cc
each_more P (z ∷ xs) y each last zero x e = each zero x e
each_more P (z ∷ xs) y each last (suc n) x e =
    each_more (λ k. P (suc k)) xs y (λ k w q. each (suc k) w q) last n x e

pub falls-push : {E : Type 0} (nodes : List (Node E)) (x : Node E) → IsFalling nodes → HasBelow (length nodes) x → IsFalling (nodes ++ x ∷ [])
falls-push nodes x falls below = each_more (λ n y. HasBelow n y) nodes x falls below

within-push : {E : Type 0} (nodes more : List (Node E)) → IsFalling nodes → (a n : ℕ) → n < length nodes → tree_within a (nodes ++ more) n ≡ tree_within a nodes n
unfolding tree_within
within-push nodes more falls zero n h = refl
within-push nodes more falls (suc a) n h =
    ap (λ o. tree_of_found (tree_within a (nodes ++ more)) o) (slice_get-front nodes more n h)
    ∙ found_same (tree_within a (nodes ++ more)) (tree_within a nodes) n (slice_get nodes n) (λ k r. within-push nodes more falls a k (omega arith)) (λ x e. falls n x e)

keeps-push : {E : Type 0} (nodes more : List (Node E)) → IsFalling nodes → (n : ℕ) → n < length nodes → tree_at (nodes ++ more) n ≡ tree_at nodes n
unfolding tree_at
keeps-push nodes more falls n h = within-push nodes more falls (suc n) n h

pub grown-push : {E : Type 0} (nodes : List (Node E)) (x : Node E) → IsFalling nodes → HasBelow (length nodes) x → Grown nodes (nodes ++ x ∷ [])
grown-push nodes x falls below = record {
  falls = falls-push nodes x falls below;
  longer = omega (arith, length-append nodes (x ∷ []));
  keeps = keeps-push nodes (x ∷ []) falls;
}

pub tree-push : {E : Type 0} (nodes : List (Node E)) (x : Node E) → IsFalling nodes → HasBelow (length nodes) x → tree_at (nodes ++ x ∷ []) (length nodes) ≡ tree_of_node (tree_at nodes) x
tree-push nodes x falls below =
    tree_at-node (nodes ++ x ∷ []) (falls-push nodes x falls below) (length nodes) x (slice_get-seam nodes x)
    ∙ node_same (tree_at (nodes ++ x ∷ [])) (tree_at nodes) (length nodes) x (λ k h. keeps-push nodes (x ∷ []) falls k h) below

pub grown-refl : {E : Type 0} (nodes : List (Node E)) → IsFalling nodes → Grown nodes nodes
grown-refl nodes falls = record { falls = falls; longer = omega arith; keeps = λ n h. refl }

pub grown-trans : {E : Type 0} {a b c : List (Node E)} → Grown a b → Grown b c → Grown a c
grown-trans g h = record {
  falls = h.falls;
  longer = omega (arith, g.longer, h.longer);
  keeps = λ n l. h.keeps n (omega (arith, g.longer)) ∙ g.keeps n l;
}

-- what was there stands for the same
pub trees-grown : {E : Type 0} {a b : List (Node E)} → Grown a b → (o : Option ℕ) → IsBelow (length a) o → trees b o ≡ trees a o
trees-grown g None h = refl
trees-grown g (Some n) h = ap (λ t. Some t) (g.keeps n h)

pub onto-same : {E : Type 0} (f g : ℕ → Tree E) (n : ℕ) (ps : List place.Place) (row : Row E) → ((k : ℕ) → k < n → f k ≡ g k) → AreBelow n ps → onto f ps row ≡ onto g ps row
onto-same f g n [] row same below = refl
onto-same f g n (p ∷ ps) row same below =
    ap (λ t. onto f ps (Place p.path t row)) (same p.node below.0)
    ∙ onto-same f g n ps (Place p.path (g p.node) row) same below.1

pub onto-grown : {E : Type 0} {a b : List (Node E)} → Grown a b → (ps : List place.Place) → AreBelow (length a) ps → onto (tree_at b) ps NoPlace ≡ onto (tree_at a) ps NoPlace
onto-grown {E} {a} {b} g ps h = onto-same (tree_at b) (tree_at a) (length a) ps NoPlace g.keeps h

pub below-more : (m n : ℕ) (o : Option ℕ) → m ≤ n → IsBelow m o → IsBelow n o
below-more m n None h p = tt
below-more m n (Some k) h p = omega arith

pub are_below-more : (m n : ℕ) (ps : List place.Place) → m ≤ n → AreBelow m ps → AreBelow n ps
are_below-more m n [] h p = tt
are_below-more m n (x ∷ ps) h p = (omega (arith, p.0), are_below-more m n ps h p.1)

-- one place more
pub onto-snoc : {E : Type 0} (at : ℕ → Tree E) (ps : List place.Place) (p : place.Place) (row : Row E) → onto at (ps ++ p ∷ []) row ≡ Place p.path (at p.node) (onto at ps row)
onto-snoc at [] p row = refl
onto-snoc at (q ∷ ps) p row = onto-snoc at ps p (Place q.path (at q.node) row)

pub are_below-snoc : (n : ℕ) (ps : List place.Place) (p : place.Place) → AreBelow n ps → p.node < n → AreBelow n (ps ++ p ∷ [])
are_below-snoc n [] p h k = (k, tt)
are_below-snoc n (q ∷ ps) p h k = (h.0, are_below-snoc n ps p h.1 k)
