-- Lists that are gone through place by place.
use Rattle.std.proofs.Common.{◌≡◌, ℕ, ◌+◌, ◌≤◌, Bool, true, false, ◌||◌, zero, suc, List, [], ◌∷◌, ◌++◌, length, drop, slice_get, Some, ap, sym, ◌∙◌, append_assoc, add-one}
use Rattle.std.specs.List.{flat_map, list_any}
use Rattle.std.proofs.lemmas.List.{append-nil, drop_all}
use Rattle.rack_types.specs.Headers.{HeaderList, header_names, values_at}

-- the item at a place, and those behind it
pub drop_at : {X : Type 0} (xs : List X) (i : ℕ) (x : X) → slice_get xs i ≡ Some x → drop i xs ≡ x ∷ drop (suc i) xs
drop_at [] i x at = cc
drop_at (y ∷ xs) zero x at = let e : y ≡ x = cc in ap (λ w. w ∷ xs) e
drop_at (y ∷ xs) (suc i) x at = drop_at xs i x at

-- the header at a place, which was read by its name and by its values
pub header_at : (headers : HeaderList) (i : ℕ) (name : List ℕ) → slice_get (header_names headers) i ≡ Some name
    → drop i headers ≡ (name, values_at i headers) ∷ drop (suc i) headers
header_at [] i name at = cc
header_at (h ∷ headers) zero name at = let e : h.0 ≡ name = cc in ap (λ n. (n, h.1) ∷ headers) e
header_at (h ∷ headers) (suc i) name at = header_at headers i name at

-- text goes on with what one item makes
pub text_more : {X : Type 0} (f : X → List ℕ) (xs : List X) (i : ℕ) (x : X) (out out' all : List ℕ) → drop i xs ≡ x ∷ drop (suc i) xs → out' ≡ out ++ f x
    → out ++ flat_map f (drop i xs) ≡ all → out' ++ flat_map f (drop (i + 1) xs) ≡ all
text_more f xs i x out out' all at more so_far =
    ap (λ k. out' ++ flat_map f (drop k xs)) (add-one i)
    ∙ ap (λ w. w ++ flat_map f (drop (suc i) xs)) more ∙ append_assoc out (f x) (flat_map f (drop (suc i) xs))
    ∙ ap (λ w. out ++ flat_map f w) (sym at) ∙ so_far

pub text_whole : {X : Type 0} (f : X → List ℕ) (xs : List X) (i : ℕ) (out all : List ℕ) → length xs ≤ i → out ++ flat_map f (drop i xs) ≡ all → out ≡ all
text_whole f xs i out all past so_far = sym (ap (λ w. out ++ flat_map f w) (drop_all i xs past) ∙ append-nil out) ∙ so_far

-- no item up to the place passes the test
pub any_more : {X : Type 0} (test : X → Bool) (xs : List X) (i : ℕ) (x : X) → slice_get xs i ≡ Some x → test x ≡ false
    → list_any test (drop i xs) ≡ list_any test xs → list_any test (drop (i + 1) xs) ≡ list_any test xs
any_more test xs i x at fails so_far =
    ap (λ k. list_any test (drop k xs)) (add-one i) ∙ sym (ap (λ b. b || list_any test (drop (suc i) xs)) fails)
    ∙ sym (ap (list_any test) (drop_at xs i x at)) ∙ so_far

pub any_here : {X : Type 0} (test : X → Bool) (xs : List X) (i : ℕ) (x : X) → slice_get xs i ≡ Some x → test x ≡ true
    → list_any test (drop i xs) ≡ list_any test xs → true ≡ list_any test xs
any_here test xs i x at passes so_far =
    sym (ap (λ b. b || list_any test (drop (suc i) xs)) passes) ∙ sym (ap (list_any test) (drop_at xs i x at)) ∙ so_far

pub any_none : {X : Type 0} (test : X → Bool) (xs : List X) (i : ℕ) → length xs ≤ i → list_any test (drop i xs) ≡ list_any test xs → false ≡ list_any test xs
any_none test xs i past so_far = sym (ap (list_any test) (drop_all i xs past)) ∙ so_far
