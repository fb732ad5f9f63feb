-- Lists with repeats: the laws, and that they are the lists whose order differs.
use Rattle.std.proofs.Common.{◌≡◌, ℕ, suc, ◌<◌, Bool, true, false, true≢false, List, [], ◌∷◌, ◌++◌, length, map, sym, refl, ◌∙◌, arith}
use Rattle.std.specs.Prelude.{sum_by, IsPermutation, ◌&&◌, ◌==◌}
use Rattle.std.proofs.lemmas.Bool.{and_parts, and_from, eqb-true, eq-eqb}
use Rattle.std.specs.List.{remove}
use Rattle.std.proofs.lemmas.List.Sums.{sum_by-cons, sum_by-append}
use Rattle.std.proofs.lemmas.List.Sorted.{IsPermutation-refl, IsPermutation-sym, IsPermutation-trans, IsPermutation-cons, IsPermutation-remove, sum_by-IsPermutation}
use lib.ListN.{get_or}
use mathlib.Core.Bool.{cond}
use Rattle.pool_core.specs.Repeats.{SameElements, times}

module _ {X : Type 0} where
  pub SameElements-refl : (xs : List X) → SameElements xs xs
  SameElements-refl xs weight = refl

  pub SameElements-sym : (xs ys : List X) → SameElements xs ys → SameElements ys xs
  SameElements-sym xs ys same weight = sym (same weight)

  pub SameElements-trans : (xs ys zs : List X) → SameElements xs ys → SameElements ys zs → SameElements xs zs
  SameElements-trans xs ys zs a b weight = a weight ∙ b weight

  pub SameElements-append : (xs ys us vs : List X) → SameElements xs ys → SameElements us vs → SameElements (xs ++ us) (ys ++ vs)
  SameElements-append xs ys us vs a b weight =
      omega (arith, a weight, b weight, sum_by-append weight xs us, sum_by-append weight ys vs)

  pub SameElements-append_comm : (xs ys : List X) → SameElements (xs ++ ys) (ys ++ xs)
  SameElements-append_comm xs ys weight = omega (arith, sum_by-append weight xs ys, sum_by-append weight ys xs)

  -- what both have too may be left out
  pub SameElements-cancel : (xs ys us vs : List X) → SameElements us vs → SameElements (xs ++ us) (ys ++ vs) → SameElements xs ys
  SameElements-cancel xs ys us vs a b weight =
      omega (arith, a weight, b weight, sum_by-append weight xs us, sum_by-append weight ys vs)

  pub SameElements-map : {Y : Type 0} (f : X → Y) (xs ys : List X) → SameElements xs ys → SameElements (map f xs) (map f ys)
  SameElements-map f xs ys same weight =
      sum_by-map xs ∙ (same (λ x. weight (f x)) ∙ sym (sum_by-map ys)) where
        sum_by-map : (zs : List X) → sum_by weight (map f zs) ≡ sum_by (λ x. weight (f x)) zs
        sum_by-map [] = refl
        sum_by-map (z ∷ zs) = omega (arith, sum_by-cons weight (f z) (map f zs), sum_by-cons (λ x. weight (f x)) z zs, sum_by-map zs)

  sum_by-ones : (xs : List X) → sum_by (λ _. 1) xs ≡ length xs
  sum_by-ones [] = refl
  sum_by-ones (x ∷ xs) = omega (arith, sum_by-cons (λ _. 1) x xs, sum_by-ones xs)

  pub SameElements-length : (xs ys : List X) → SameElements xs ys → length xs ≡ length ys
  SameElements-length xs ys same = sym (sum_by-ones xs) ∙ (same (λ _. 1) ∙ sum_by-ones ys)

  pub SameElements-nil : (xs : List X) → SameElements xs [] → xs ≡ []
  SameElements-nil [] same = refl
  SameElements-nil (x ∷ xs) same = absurd (let n = SameElements-length (x ∷ xs) [] same in omega arith)

  pub SameElements-permutation : (xs ys : List X) → IsPermutation xs ys → SameElements xs ys
  SameElements-permutation xs ys p weight = sym (sum_by-IsPermutation weight xs ys p)

pair_is : (y x : ℕ × ℕ) → ((y.0 == x.0) && (y.1 == x.1)) ≡ true → x ≡ y
pair_is y x e =
    let parts = and_parts (y.0 == x.0) (y.1 == x.1) e in
    let a : y.0 ≡ x.0 = eqb-true y.0 x.0 parts.0 in
    let b : y.1 ≡ x.1 = eqb-true y.1 x.1 parts.1 in
    λ k. (sym a k, sym b k)

one_where : (b : Bool) → b ≡ true → cond {A = ℕ} b 1 0 ≡ 1
one_where true e = refl
one_where false e = absurd (true≢false (sym e))

none_where : (b : Bool) → b ≡ false → cond {A = ℕ} b 1 0 ≡ 0
none_where true e = absurd (true≢false e)
none_where false e = refl

times-self : (x : ℕ × ℕ) (xs : List (ℕ × ℕ)) → times x (x ∷ xs) ≡ suc (times x xs)
times-self x xs =
    let both : ((x.0 == x.0) && (x.1 == x.1)) ≡ true = and_from (x.0 == x.0) (x.1 == x.1) (eq-eqb x.0 x.0 refl) (eq-eqb x.1 x.1 refl) in
    let one = one_where ((x.0 == x.0) && (x.1 == x.1)) both in
    omega (arith, sum_by-cons (λ (y : ℕ × ℕ). cond ((y.0 == x.0) && (y.1 == x.1)) 1 0) x xs)

-- what stands in a list stands at some place of it
found : (x : ℕ × ℕ) (ys : List (ℕ × ℕ)) → 0 < times x ys → (i : ℕ) × (i < length ys) × (x ≡ get_or ys i x)
found x [] lt = absurd (omega arith)
found x (y ∷ ys) lt = by_test (found x ys) ((y.0 == x.0) && (y.1 == x.1)) refl where
  by_test : (0 < times x ys → (i : ℕ) × (i < length ys) × (x ≡ get_or ys i x)) → (b : Bool) → ((y.0 == x.0) && (y.1 == x.1)) ≡ b
      → (i : ℕ) × (i < length (y ∷ ys)) × (x ≡ get_or (y ∷ ys) i x)
  by_test later true e = (0, omega arith, pair_is y x e)
  by_test later false e =
      let none = none_where ((y.0 == x.0) && (y.1 == x.1)) e in
      let rest = later (omega (arith, sum_by-cons (λ (z : ℕ × ℕ). cond ((z.0 == x.0) && (z.1 == x.1)) 1 0) y ys)) in
      (suc rest.0, omega (arith, rest.1), rest.2)

-- lists in which each pair stands equally often differ in their order alone
pub often-permutation : (xs ys : List (ℕ × ℕ)) → ((x : ℕ × ℕ) → times x xs ≡ times x ys) → IsPermutation xs ys
often-permutation [] [] often = IsPermutation-refl []
often-permutation [] (y ∷ ys) often = absurd (let n : 0 ≡ times y (y ∷ ys) = often y in omega (arith, times-self y ys))
often-permutation (x ∷ xs) ys often =
    let at = found x ys (omega (arith, often x, times-self x xs)) in
    let left = remove ys at.0 in
    let moved : IsPermutation ys (x ∷ left) = IsPermutation-remove ys at.0 x at.1 at.2 in
    let rest : (z : ℕ × ℕ) → times z xs ≡ times z left = λ z.
    let w : ℕ × ℕ → ℕ = λ (y : ℕ × ℕ). cond ((y.0 == z.0) && (y.1 == z.1)) 1 0 in
    let n : sum_by w (x ∷ xs) ≡ sum_by w ys = often z in
    omega (arith, sum_by-cons w x xs, sum_by-cons w x left, sum_by-IsPermutation w ys (x ∷ left) moved) in
    IsPermutation-trans (x ∷ xs) (x ∷ left) ys (IsPermutation-cons x xs left (often-permutation xs left rest)) (IsPermutation-sym ys (x ∷ left) moved)

pub SameElements-often : (xs ys : List (ℕ × ℕ)) → SameElements xs ys → (x : ℕ × ℕ) → times x xs ≡ times x ys
SameElements-often xs ys same x = same (λ (y : ℕ × ℕ). cond ((y.0 == x.0) && (y.1 == x.1)) 1 0)

pub often-SameElements : (xs ys : List (ℕ × ℕ)) → ((x : ℕ × ℕ) → times x xs ≡ times x ys) → SameElements xs ys
often-SameElements xs ys often = SameElements-permutation xs ys (often-permutation xs ys often)

pub permutation-SameElements : (xs ys : List (ℕ × ℕ)) → SameElements xs ys → IsPermutation xs ys
permutation-SameElements xs ys same = often-permutation xs ys (SameElements-often xs ys same)
