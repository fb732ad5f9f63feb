-- The longest place that fits.
use Rattle.std.proofs.Common.{◌≡◌, ℕ, ◌<◌, ◌≤◌, Bool, true, false, cond, ltb, List, [], ◌∷◌, ◌++◌, length, map, Option, Some, None, IfSome, option_map, refl, ap, ◌∙◌, arith, drop, length-append, nat_eq, ◌&&◌}
use Rattle.std.specs.List.{starts_with}
use Rattle.std.proofs.lemmas.Bool.Decides.{nat_tests, Decides-eqb}
use Rattle.std.proofs.lemmas.Slice.Eq.{starts_is}
use Rattle.builder_core.specs.Places.{fits, ends_segment, longer, best}
use Rattle.builder_core.specs.Tree.{Tree}
use Rattle.builder_core.specs.Meaning.{Answering, meaning, meanings}
use Rattle.builder_core.specs.Nodes.{row_at, numbered, AreBelow}
use Rattle.builder_core.specs.declared.places.Place as place

-- another thing at the same place
abbrev pub second : {A B : Type 0} → (A → B) → List ℕ × A → List ℕ × B
second f q = (q.0, f q.1)

longer-map : {A B : Type 0} (f : A → B) (a b : Option (List ℕ × A)) → longer (option_map (second f) a) (option_map (second f) b) ≡ option_map (second f) (longer a b)
longer-map f None b = refl
longer-map f (Some a) None = refl
longer-map f (Some a) (Some b) = by (ltb (length a.0) (length b.0))
  where
    by : (t : Bool) → cond t (Some (second f b)) (Some (second f a)) ≡ option_map (second f) (cond t (Some b) (Some a))
    by true = refl
    by false = refl

-- which place is found doesn't hang on what stands there
pub best-map : {A B : Type 0} (f : A → B) (path : List ℕ) (qs : List (List ℕ × A)) → best path (map (second f) qs) ≡ option_map (second f) (best path qs)
best-map f path [] = refl
best-map f path (q ∷ qs) =
    ap (λ o. longer (cond (fits path q.0) (Some (second f q)) None) o) (best-map f path qs)
    ∙ ap (λ o. longer o (option_map (second f) (best path qs))) (by (fits path q.0))
    ∙ longer-map f (cond (fits path q.0) (Some q) None) (best path qs)
  where
    by : (t : Bool) → cond t (Some (second f q)) None ≡ option_map (second f) (cond t (Some q) None)
    by true = refl
    by false = refl

pub longer-assoc : {A : Type 0} (a b c : Option (List ℕ × A)) → longer (longer a b) c ≡ longer a (longer b c)
longer-assoc None b c = refl
longer-assoc (Some a) None c = refl
longer-assoc (Some a) (Some b) None = by (ltb (length a.0) (length b.0))
  where
    by : (t : Bool) → longer (cond t (Some b) (Some a)) None ≡ cond t (Some b) (Some a)
    by true = refl
    by false = refl
longer-assoc (Some a) (Some b) (Some c) = grind (arith, nat_tests)

-- what a row of nodes answers, place by place
pub meanings-row : {E H : Type 0} (answer : E → Answering H) (at : ℕ → Tree E) (ps : List place.Place) → meanings answer (row_at at ps) ≡ map (second (λ k. meaning answer (at k))) (numbered ps)
meanings-row answer at [] = refl
meanings-row answer at (p ∷ ps) =
    ap (λ qs. (p.path, meaning answer (at p.node)) ∷ qs) (meanings-row answer at ps)

IfSome-longer : {A : Type 0} (P : List ℕ × A → Type 0) (a b : Option (List ℕ × A)) → IfSome a P → IfSome b P → IfSome (longer a b) P
IfSome-longer P None b p q = q
IfSome-longer P (Some a) None p q = p
IfSome-longer P (Some a) (Some b) p q = by (ltb (length a.0) (length b.0))
  where
    by : (t : Bool) → IfSome (cond t (Some b) (Some a)) P
    by true = q
    by false = p

-- a place that fits, whose node is below n
abbrev pub IsFit : List ℕ → ℕ → List ℕ × ℕ → Type 0
IsFit path n q = (fits path q.0 ≡ true) × (q.1 < n)

-- the place that is found is one
pub best_is : (path : List ℕ) (n : ℕ) (ps : List place.Place) → AreBelow n ps → IfSome (best path (numbered ps)) (IsFit path n)
best_is path n [] below = tt
best_is path n (p ∷ ps) below =
    IfSome-longer (IsFit path n) (cond (fits path p.path) (Some (p.path, p.node)) None) (best path (numbered ps)) (by (fits path p.path) refl) (best_is path n ps below.1)
  where
    by : (t : Bool) → fits path p.path ≡ t → IfSome (cond t (Some (p.path, p.node)) None) (IsFit path n)
    by true e = (e, below.0)
    by false e = tt

and_first : (a b : Bool) → (a && b) ≡ true → a ≡ true
and_first true b e = refl
and_first false b e = e

-- a place that fits is no longer than the path
pub fits_within : (path place : List ℕ) → fits path place ≡ true → length place ≤ length path
fits_within path place e =
    let is : path ≡ place ++ drop (length place) path = (starts_is Decides-eqb path place (starts_with nat_eq path place) refl).0 (and_first (starts_with nat_eq path place) (ends_segment (drop (length place) path)) e) in
    omega (arith, length-append place (drop (length place) path), ap length is)
