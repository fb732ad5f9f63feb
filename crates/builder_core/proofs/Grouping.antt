-- A group of places with its default.
use Rattle.std.proofs.Common.{◌≡◌, ℕ, ◌<◌, List, [], ◌∷◌, ◌++◌, reverse, length, Option, Some, None, option_map, refl, ap, subst, ◌∙◌, arith}
use mathlib.Core.List.{reverse_aux, reverse_aux-eq}
use Rattle.builder_core.specs.Tree.{Tree, Row, NoPlace, Place, ByPlace}
use Rattle.builder_core.specs.Build.{default_row}
use Rattle.builder_core.specs.Nodes.{row_at, AreBelow}
use Rattle.builder_core.specs.Spread.{IsBelow, onto, ending, closed, default_places}
use Rattle.builder_core.specs.declared.places.Place as place

ending-onto : {E : Type 0} (at : ℕ → Tree E) (ps : List place.Place) (row : Row E) (d : Option (Tree E)) → ending (onto at ps row) d ≡ onto at ps (ending row d)
ending-onto at [] row d = refl
ending-onto at (p ∷ ps) row d = ending-onto at ps (Place p.path (at p.node) row) d

row_at-onto : {E : Type 0} (at : ℕ → Tree E) (ps qs : List place.Place) → onto at ps (row_at at qs) ≡ row_at at (reverse_aux ps qs)
row_at-onto at [] qs = refl
row_at-onto at (p ∷ ps) qs = row_at-onto at ps (p ∷ qs)

default-row : {E : Type 0} (at : ℕ → Tree E) (o : Option ℕ) → default_row (option_map at o) ≡ row_at at (default_places o)
default-row at None = refl
default-row at (Some n) = refl

closed-onto : {E : Type 0} (at : ℕ → Tree E) (d : Option (Tree E)) (ps : List place.Place) (p : List ℕ) (t : Tree E) (row : Row E) → closed (d, onto at ps (Place p t row)) ≡ Some (ByPlace (ending (onto at ps (Place p t row)) d))
closed-onto at d [] p t row = refl
closed-onto at d (q ∷ ps) p t row = closed-onto at d ps q.path (at q.node) (Place p t row)

-- the node of a group that isn't empty
pub closed-group : {E : Type 0} (at : ℕ → Tree E) (ps : List place.Place) (o : Option ℕ) → 0 < length ps → closed (option_map at o, onto at ps NoPlace) ≡ Some (ByPlace (row_at at (reverse ps ++ default_places o)))
closed-group at [] o h = absurd (omega arith)
closed-group at (p ∷ ps) o h =
    closed-onto at (option_map at o) ps p.path (at p.node) NoPlace
    ∙ ap (λ row. Some (ByPlace row)) (
    ending-onto at (p ∷ ps) NoPlace (option_map at o)
    ∙ ap (onto at (p ∷ ps)) (default-row at o)
    ∙ row_at-onto at (p ∷ ps) (default_places o)
    ∙ ap (row_at at) (reverse_aux-eq (p ∷ ps) (default_places o))
    )

below-aux : (n : ℕ) (ps qs : List place.Place) → AreBelow n ps → AreBelow n qs → AreBelow n (reverse_aux ps qs)
below-aux n [] qs h k = k
below-aux n (p ∷ ps) qs h k = below-aux n ps (p ∷ qs) h.1 (h.0, k)

below-default : (n : ℕ) (o : Option ℕ) → IsBelow n o → AreBelow n (default_places o)
below-default n None h = tt
below-default n (Some k) h = (h, tt)

-- and its places' nodes are below
pub below-group : (n : ℕ) (ps : List place.Place) (o : Option ℕ) → AreBelow n ps → IsBelow n o → AreBelow n (reverse ps ++ default_places o)
below-group n ps o h k =
    subst (AreBelow n) (reverse_aux-eq ps (default_places o)) (below-aux n ps (default_places o) h (below-default n o k))
