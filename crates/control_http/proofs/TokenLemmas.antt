-- How a token is compared and found.
use Rattle.std.proofs.Common.{◌≡◌, ℕ, suc, ◌+◌, ◌<◌, ◌≤◌, nat_eq, Bool, true, false, ◌&&◌, List, ◌∷◌, map, length, get_or, drop, Some, bytes_eq, codes, refl, add-one, drop-cons}
use Rattle.std.proofs.lemmas.List.{drop_all}
use Rattle.form_urlencoded.specs.Form.{decode}
use Rattle.rack_types.specs.Env.{get_pair}

and-assoc : (a b c : Bool) → (a && (b && c)) ≡ ((a && b) && c)
and-assoc true b c = refl
and-assoc false b c = refl

and-true : (a : Bool) → (a && true) ≡ a
and-true true = refl
and-true false = refl

-- one byte more
pub same-next : (i : ℕ) (xs ys : List ℕ) (same : Bool) → i < length xs → i < length ys
    → (same && bytes_eq (drop i xs) (drop i ys)) ≡ ((same && nat_eq (get_or xs i 0) (get_or ys i 0)) && bytes_eq (drop (i + 1) xs) (drop (i + 1) ys))
same-next i xs ys same few less =
    rw (add-one, drop-cons xs i 0 few, drop-cons ys i 0 less) (and-assoc same (nat_eq (get_or xs i 0) (get_or ys i 0)) (bytes_eq (drop (suc i) xs) (drop (suc i) ys)))

-- no byte more
pub same-end : (i : ℕ) (xs ys : List ℕ) (same : Bool) → length xs ≤ i → length ys ≤ i → (same && bytes_eq (drop i xs) (drop i ys)) ≡ same
same-end i xs ys same none nothing = rw (drop_all i xs none, drop_all i ys nothing) (and-true same)

-- the pairs, decoded
abbrev pub decoded : List (List ℕ × List ℕ) → List (List ℕ × List ℕ)
decoded pairs = map (λ (name, value). (decode name, decode value)) pairs

-- the first pair is no token, or it is one
pub passed : (pairs rest : List (List ℕ × List ℕ)) (name value : List ℕ) → pairs ≡ (name, value) ∷ rest → bytes_eq (codes "token") (decode name) ≡ false
    → get_pair (codes "token") (decoded pairs) ≡ get_pair (codes "token") (decoded rest)
passed pairs rest name value is other = rw (is, other) refl

pub found : (pairs rest : List (List ℕ × List ℕ)) (name value : List ℕ) → pairs ≡ (name, value) ∷ rest → bytes_eq (codes "token") (decode name) ≡ true
    → get_pair (codes "token") (decoded pairs) ≡ Some (decode value)
found pairs rest name value is same = rw (is, same) refl
