-- Lists of what passes know: one element changed, and one that has the whole of a sum.
use Rattle.std.proofs.Common.{◌≡◌, ◌≢◌, ℕ, zero, suc, ◌+◌, ◌≤◌, List, [], ◌∷◌, set, sym, refl, ap, subst, ⊎_elim, arith}
use Rattle.std.specs.Prelude.{sum_by}
use Rattle.std.proofs.lemmas.List.Sums.{sum_by-cons}
use mathlib.Core.Option.{some, some-injective, some-ne-none}
use lib.ListN.{get_elem?}
use Rattle.atomic_table.proofs.Lists.{at_set}

module _ {A : Type 0} where
  pub sum_by-set_at : (f : A → ℕ) (xs : List A) (i : ℕ) (v w : A) → get_elem? xs i ≡ some v
      → sum_by f (set xs i w) + f v ≡ sum_by f xs + f w
  sum_by-set_at f [] i v w e = absurd (some-ne-none v (sym e))
  sum_by-set_at f (x ∷ xs) zero v w e =
      let k : f x ≡ f v = ap f (some-injective x v e) in omega (arith, sum_by-cons f w xs, sum_by-cons f x xs)
  sum_by-set_at f (x ∷ xs) (suc i) v w e =
      omega (arith, sum_by-cons f x (set xs i w), sum_by-cons f x xs, sum_by-set_at f xs i v w e)

  pub le-sum_by : (f : A → ℕ) (xs : List A) (i : ℕ) (v : A) → get_elem? xs i ≡ some v → f v ≤ sum_by f xs
  le-sum_by f [] i v e = absurd (some-ne-none v (sym e))
  le-sum_by f (x ∷ xs) zero v e =
      let k : f x ≡ f v = ap f (some-injective x v e) in omega (arith, sum_by-cons f x xs)
  le-sum_by f (x ∷ xs) (suc i) v e = omega (arith, sum_by-cons f x xs, le-sum_by f xs i v e)

  pub get_elem-set : (xs : List A) (i : ℕ) (v w : A) → get_elem? xs i ≡ some v → get_elem? (set xs i w) i ≡ some w
  get_elem-set [] i v w e = absurd (some-ne-none v (sym e))
  get_elem-set (x ∷ xs) zero v w e = refl
  get_elem-set (x ∷ xs) (suc i) v w e = get_elem-set xs i v w e

  -- what holds of the new element and of each other one at its place holds of all
  pub each-set : (F : ℕ → A → Type 0) (xs : List A) (i : ℕ) (w : A) → F i w
      → ((j : ℕ) (u : A) → j ≢ i → get_elem? xs j ≡ some u → F j u)
      → (j : ℕ) (u : A) → get_elem? (set xs i w) j ≡ some u → F j u
  each-set F xs i w mine others j u e =
      ⊎_elim
      (λ (x : (j ≡ i) × (w ≡ u)). subst (λ (y : ℕ × A). F y.0 y.1) (λ k. (sym x.0 k, x.1 k)) mine)
      (λ (x : (j ≢ i) × (get_elem? xs j ≡ some u)). others j u x.0 x.1) (at_set xs i j w u e)

  -- where one has the whole sum, each other has nothing of it
  pub others_have_none : (f : A → ℕ) (xs : List A) (i j : ℕ) (v u : A) → get_elem? xs i ≡ some v → get_elem? xs j ≡ some u
      → j ≢ i → sum_by f xs ≡ f v → f u ≡ 0
  others_have_none f [] i j v u a b n e = absurd (some-ne-none v (sym a))
  others_have_none f (x ∷ xs) zero zero v u a b n e = absurd (n refl)
  others_have_none f (x ∷ xs) zero (suc j) v u a b n e =
      let k : f x ≡ f v = ap f (some-injective x v a) in omega (arith, sum_by-cons f x xs, le-sum_by f xs j u b)
  others_have_none f (x ∷ xs) (suc i) zero v u a b n e =
      let k : f x ≡ f u = ap f (some-injective x u b) in omega (arith, sum_by-cons f x xs, le-sum_by f xs i v a)
  others_have_none f (x ∷ xs) (suc i) (suc j) v u a b n e =
      others_have_none f xs i j v u a b (λ h. n (ap suc h))
      (omega (arith, sum_by-cons f x xs, le-sum_by f xs i v a, le-sum_by f xs j u b))

  none_have_any : (f g : A → ℕ) (xs : List A) → sum_by f xs ≡ 0
      → ((j : ℕ) (u : A) → get_elem? xs j ≡ some u → f u ≡ 0 → g u ≡ 0) → sum_by g xs ≡ 0
  none_have_any f g [] e z = refl
  none_have_any f g (x ∷ xs) e z =
      let c = sum_by-cons f x xs in
      let h : f x ≡ 0 = omega arith in
      omega (arith, sum_by-cons g x xs, z 0 x refl h, none_have_any f g xs (omega arith) (λ j u. z (suc j) u))

  -- then of what is nothing wherever that is nothing it has the whole sum too
  pub sum_by-alone : (f g : A → ℕ) (xs : List A) (i : ℕ) (v : A) → get_elem? xs i ≡ some v → sum_by f xs ≡ f v
      → ((j : ℕ) (u : A) → get_elem? xs j ≡ some u → f u ≡ 0 → g u ≡ 0) → sum_by g xs ≡ g v
  sum_by-alone f g [] i v a e z = absurd (some-ne-none v (sym a))
  sum_by-alone f g (x ∷ xs) zero v a e z =
      let c = sum_by-cons f x xs in
      let k : f x ≡ f v = ap f (some-injective x v a) in
      let l : g x ≡ g v = ap g (some-injective x v a) in
      omega (arith, sum_by-cons g x xs, none_have_any f g xs (omega arith) (λ j u. z (suc j) u))
  sum_by-alone f g (x ∷ xs) (suc i) v a e z =
      let c = sum_by-cons f x xs in
      let b = le-sum_by f xs i v a in
      let h : f x ≡ 0 = omega arith in
      let t : sum_by f xs ≡ f v = omega arith in
      omega (arith, sum_by-cons g x xs, z 0 x refl h, sum_by-alone f g xs i v a t (λ j u. z (suc j) u))
