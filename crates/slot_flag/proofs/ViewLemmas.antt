-- Lists of what seats show: one element changed, one more, and the greatest level raised.
use Rattle.std.proofs.Common.{◌≡◌, ◌≢◌, ℕ, zero, suc, ◌+◌, ◌≤◌, max, List, [], ◌∷◌, ◌++◌, set, sym, refl, ap, ◌∙◌, subst, ⊎_elim, arith}
use Rattle.std.specs.Prelude.{sum_by}
use Rattle.std.proofs.lemmas.List.Sums.{sum_by-cons}
use mathlib.Core.Option.{some, some-injective, some-ne-none}
use lib.ListN.{get_elem?}
use Rattle.atomic_table.proofs.Lists.{at_set, set_else}
use Rattle.slot_flag.specs.declared.view.SeatView.{SeatView}
use Rattle.slot_flag.specs.Rule.{highest}

module _ {A : Type 0} where
  pub sum_by-set_at : (f : A → ℕ) (xs : List A) (i : ℕ) (v w : A) → get_elem? xs i ≡ some v
      → sum_by f (set xs i w) + f v ≡ sum_by f xs + f w
  sum_by-set_at f [] i v w e = absurd (some-ne-none v (sym e))
  sum_by-set_at f (x ∷ xs) zero v w e =
      let k : f x ≡ f v = ap f (some-injective x v e) in omega (arith, sum_by-cons f w xs, sum_by-cons f x xs)
  sum_by-set_at f (x ∷ xs) (suc i) v w e =
      omega (arith, sum_by-cons f x (set xs i w), sum_by-cons f x xs, sum_by-set_at f xs i v w e)

  pub le-sum_by : (f : A → ℕ) (xs : List A) (i : ℕ) (v : A) → get_elem? xs i ≡ some v → f v ≤ sum_by f xs
  le-sum_by f [] i v e = absurd (some-ne-none v (sym e))
  le-sum_by f (x ∷ xs) zero v e =
      let k : f x ≡ f v = ap f (some-injective x v e) in omega (arith, sum_by-cons f x xs)
  le-sum_by f (x ∷ xs) (suc i) v e = omega (arith, sum_by-cons f x xs, le-sum_by f xs i v e)

  pub get_elem-set : (xs : List A) (i : ℕ) (v w : A) → get_elem? xs i ≡ some v → get_elem? (set xs i w) i ≡ some w
  get_elem-set [] i v w e = absurd (some-ne-none v (sym e))
  get_elem-set (x ∷ xs) zero v w e = refl
  get_elem-set (x ∷ xs) (suc i) v w e = get_elem-set xs i v w e

  -- what holds of the new element and of each other one at its place holds of all
  pub each-set : (F : ℕ → A → Type 0) (xs : List A) (i : ℕ) (w : A) → F i w
      → ((j : ℕ) (u : A) → j ≢ i → get_elem? xs j ≡ some u → F j u)
      → (j : ℕ) (u : A) → get_elem? (set xs i w) j ≡ some u → F j u
  each-set F xs i w mine others j u e =
      ⊎_elim
      (λ (x : (j ≡ i) × (w ≡ u)). subst (λ (y : ℕ × A). F y.0 y.1) (λ k. (sym x.0 k, x.1 k)) mine)
      (λ (x : (j ≢ i) × (get_elem? xs j ≡ some u)). others j u x.0 x.1) (at_set xs i j w u e)

pub le-highest : (xs : List SeatView) (i : ℕ) (v : SeatView) → get_elem? xs i ≡ some v → v.raised ≤ highest xs
le-highest [] i v e = absurd (some-ne-none v (sym e))
le-highest (x ∷ xs) zero v e =
    let k : x.raised ≡ v.raised = ap (λ (y : SeatView). y.raised) (some-injective x v e) in omega arith
le-highest (x ∷ xs) (suc i) v e = omega (arith, le-highest xs i v e)

pub highest-le : (n : ℕ) (xs : List SeatView) → ((j : ℕ) (u : SeatView) → get_elem? xs j ≡ some u → u.raised ≤ n)
    → highest xs ≤ n
highest-le n [] each = omega arith
highest-le n (x ∷ xs) each = omega (arith, each 0 x refl, highest-le n xs (λ j u. each (suc j) u))

pub highest-set : (xs : List SeatView) (i k : ℕ) (v w : SeatView) → get_elem? xs i ≡ some v → w.raised ≡ max v.raised k
    → highest (set xs i w) ≡ max (highest xs) k
highest-set [] i k v w e m = absurd (some-ne-none v (sym e))
highest-set (x ∷ xs) zero k v w e m =
    let h : x.raised ≡ v.raised = ap (λ (y : SeatView). y.raised) (some-injective x v e) in omega arith
highest-set (x ∷ xs) (suc i) k v w e m = omega (arith, highest-set xs i k v w e m)

pub highest-append : (xs : List SeatView) (w : SeatView) → highest (xs ++ w ∷ []) ≡ max (highest xs) w.raised
highest-append [] w = omega arith
highest-append (x ∷ xs) w = omega (arith, highest-append xs w)

-- one that becomes 0 takes away at most its own
lowered : (xs : List SeatView) (j : ℕ) (u g : SeatView) → get_elem? xs j ≡ some u → g.raised ≡ 0
    → (highest xs ≤ max (highest (set xs j g)) u.raised) × (highest (set xs j g) ≤ highest xs)
lowered [] j u g e z = absurd (some-ne-none u (sym e))
lowered (x ∷ xs) zero u g e z =
    let h : x.raised ≡ u.raised = ap (λ (y : SeatView). y.raised) (some-injective x u e) in (omega arith, omega arith)
lowered (x ∷ xs) (suc j) u g e z = let r = lowered xs j u g e z in (omega arith, omega arith)

-- where another shows at least as much, nothing is lost with it
pub highest-without : (xs : List SeatView) (i j : ℕ) (b u g : SeatView) → get_elem? xs i ≡ some b → get_elem? xs j ≡ some u
    → j ≢ i → u.raised ≤ b.raised → g.raised ≡ 0 → highest (set xs j g) ≡ highest xs
highest-without xs i j b u g at at' apart le z =
    let r = lowered xs j u g at' z in
    let k = le-highest (set xs j g) i b (set_else xs j i g (λ e. apart (sym e)) ∙ at) in
    omega arith

none_raised : (f : SeatView → ℕ) (xs : List SeatView) → sum_by f xs ≡ 0
    → ((j : ℕ) (u : SeatView) → get_elem? xs j ≡ some u → f u ≡ 0 → u.raised ≡ 0) → highest xs ≡ 0
none_raised f [] e z = refl
none_raised f (x ∷ xs) e z =
    let c = sum_by-cons f x xs in
    let h : f x ≡ 0 = omega arith in
    omega (arith, z 0 x refl h, none_raised f xs (omega arith) (λ j u. z (suc j) u))

-- where one has all that is counted, and what counts nothing raised nothing, the greatest is its own
pub highest-alone : (f : SeatView → ℕ) (xs : List SeatView) (i : ℕ) (v : SeatView) → get_elem? xs i ≡ some v → sum_by f xs ≡ f v
    → ((j : ℕ) (u : SeatView) → get_elem? xs j ≡ some u → f u ≡ 0 → u.raised ≡ 0) → highest xs ≡ v.raised
highest-alone f [] i v a e z = absurd (some-ne-none v (sym a))
highest-alone f (x ∷ xs) zero v a e z =
    let c = sum_by-cons f x xs in
    let k : f x ≡ f v = ap f (some-injective x v a) in
    let l : x.raised ≡ v.raised = ap (λ (y : SeatView). y.raised) (some-injective x v a) in
    omega (arith, none_raised f xs (omega arith) (λ j u. z (suc j) u))
highest-alone f (x ∷ xs) (suc i) v a e z =
    let c = sum_by-cons f x xs in
    let b = le-sum_by f xs i v a in
    let h : f x ≡ 0 = omega arith in
    let t : sum_by f xs ≡ f v = omega arith in
    omega (arith, z 0 x refl h, highest-alone f xs i v a t (λ j u. z (suc j) u))
