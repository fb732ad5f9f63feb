-- The pieces of a stock body, and the sum of their lengths.
use Rattle.std.proofs.Common.{◌≡◌, ◌≢◌, ℕ, ◌+◌, ◌-◌, ◌<◌, ◌≤◌, ◌^◌, List, [], ◌∷◌, length, drop, get_or, refl, ap, arith, add-one, drop-cons, length-append, suc, zero, None, Some}
use Rattle.std.specs.List.{concat}
use Rattle.std.proofs.lemmas.Bool.{lt-ltb, le-ltb}
use Rattle.rack_types.specs.Plain.{piece_before, sum_within}

-- the piece at a place is the one before the next
pub taken_piece : (xs : List (List ℕ)) (i : ℕ) → i < length xs → drop i xs ≡ piece_before xs (i + 1) ∷ drop (i + 1) xs
taken_piece xs i h = rw (add-one, drop-cons xs i []) refl

pub before_is : (xs : List (List ℕ)) (n : ℕ) → n ≢ 0 → piece_before xs n ≡ get_or xs (n - 1) []
before_is xs zero h = absurd (h refl)
before_is xs (suc n) h = let e : suc n - 1 ≡ n = omega arith in rw e refl

-- the length of what is left falls by the next piece's
pub length_rest : (xs : List (List ℕ)) (i : ℕ) → i < length xs
    → length (concat (drop i xs)) ≡ length (get_or xs i []) + length (concat (drop (i + 1) xs))
length_rest xs i h = rw (add-one, drop-cons xs i []) (length-append (get_or xs i []) (concat (drop (suc i) xs)))

-- a sum that fits
pub sum_fits : (n m : ℕ) → m ≡ n → m < 2 ^ 64 → Some m ≡ sum_within n
sum_fits n m e h = let lt : n < 2 ^ 64 = omega arith in rw (lt-ltb n (2 ^ 64) lt) (ap Some e)

-- a sum that is too large
pub sum_passes : (n : ℕ) → 2 ^ 64 ≤ n → None ≡ sum_within n
sum_passes n h = rw (le-ltb n (2 ^ 64) h) refl
