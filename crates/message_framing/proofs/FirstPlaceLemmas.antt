-- The first place that an iterator over places gives is the first that passes.
use mathlib.Core.Bool.{cond}
use Rattle.std.proofs.Common.{◌≡◌, ℕ, zero, suc, ◌+◌, ◌-◌, Bool, true, false, List, [], ◌∷◌, length, Option, None, Some, slice_index, inl, inr, refl, ap, sym, ◌∙◌, subst, arith}
use Rattle.std.proofs.lemmas.Bool.{cases_lt}
use Rattle.memchr.specs.Find.{TakesFirst, Passes, Nowhere, NoneBefore, IsFirst, places_from, places}

module _ (test : ℕ → Bool) (hay : List ℕ) where
  -- a place that fails, and none behind it
  none_from : (i j : ℕ) → test (slice_index hay i) ≡ false → Nowhere (Passes test hay) (i + 1) j → Nowhere (Passes test hay) i j
  none_from i j fails later = λ k low high passes. elim (cases_lt i k) [
    | inl above ↦ later k (omega (arith, above)) high passes
    | inr below ↦
        (let here : k ≡ i = omega (arith, low, below) in
        let clash : false ≡ true = sym fails ∙ ap (λ n. test (slice_index hay n)) (sym here) ∙ passes in cc)
  ]

  -- no place passes
  from_nil : (i n : ℕ) → places_from test hay i n ≡ [] → Nowhere (Passes test hay) i (i + n)
  unfolding places_from
  from_nil i zero is = λ k low high passes. omega (arith, low, high)
  from_nil i (suc n) is = go (test (slice_index hay i)) refl is (from_nil (i + 1) n)
    where
      go : (b : Bool) → test (slice_index hay i) ≡ b → cond b (i ∷ places_from test hay (i + 1) n) (places_from test hay (i + 1) n) ≡ []
          → (places_from test hay (i + 1) n ≡ [] → Nowhere (Passes test hay) (i + 1) (i + 1 + n)) → Nowhere (Passes test hay) i (i + suc n)
      go true e is rest = absurd (let clash : i ∷ places_from test hay (i + 1) n ≡ [] = is in cc)
      go false e is rest =
          let same : i + 1 + n ≡ i + suc n = omega arith in
          none_from i (i + suc n) e (subst (λ (j : ℕ). Nowhere (Passes test hay) (i + 1) j) same (rest is))

  -- the first one
  from_cons : (i n k : ℕ) (t : List ℕ) → places_from test hay i n ≡ k ∷ t → NoneBefore (Passes test hay) i (i + n) k × Passes test hay k
  unfolding places_from
  from_cons i zero k t is = absurd (let clash : [] ≡ k ∷ t = is in cc)
  from_cons i (suc n) k t is = go (test (slice_index hay i)) refl is (from_cons (i + 1) n k t)
    where
      go : (b : Bool) → test (slice_index hay i) ≡ b → cond b (i ∷ places_from test hay (i + 1) n) (places_from test hay (i + 1) n) ≡ k ∷ t
          → (places_from test hay (i + 1) n ≡ k ∷ t → NoneBefore (Passes test hay) (i + 1) (i + 1 + n) k × Passes test hay k)
          → NoneBefore (Passes test hay) i (i + suc n) k × Passes test hay k
      go true e is rest =
          let whole : i ∷ places_from test hay (i + 1) n ≡ k ∷ t = is in
          let here : i ≡ k = cc in (
            record { low = omega (arith, here); high = omega (arith, here); before = λ j low high passes. omega (arith, here, low, high) },
            ap (λ m. test (slice_index hay m)) (sym here) ∙ e,
          )
      go false e is rest =
          let later = rest is in (
            record {
              low = omega (arith, later.0.low);
              high = omega (arith, later.0.high);
              before = none_from i k e later.0.before;
            },
            later.1,
          )

  pub first_place : (r : Option ℕ) (t : List ℕ) → TakesFirst (places test hay) r t → IsFirst (Passes test hay) 0 (length hay) r
  first_place None t taken =
      let all : 0 + (length hay - 0) ≡ length hay = omega arith in
      subst (λ (j : ℕ). Nowhere (Passes test hay) 0 j) all (from_nil 0 (length hay - 0) taken.0)
  first_place (Some k) t taken =
      let all : 0 + (length hay - 0) ≡ length hay = omega arith in
      subst (λ (j : ℕ). NoneBefore (Passes test hay) 0 j k × Passes test hay k) all (from_cons 0 (length hay - 0) k t taken)
