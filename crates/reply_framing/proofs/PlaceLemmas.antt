-- A header by its place, and a length by its digits.
use Rattle.std.proofs.Common.{◌≡◌, ℕ, ◌+◌, ◌<◌, ◌≤◌, ◌^◌, Bool, true, false, not, cond, ◌&&◌, suc, List, [], ◌∷◌, length, slice_get, nat_lt, bytes_eq, Some, None, arith, ap, sym, ◌∙◌, refl, subst, inl, inr}
use Rattle.std.specs.Prelude.{if◌then◌else◌}
use Rattle.std.specs.List.{prefix_len}
use Rattle.std.proofs.lemmas.Bool.{and_parts, and_cases, and_left, and_right, lt-ltb, le-ltb, ltb-true, ltb-false}
use Rattle.rack_types.specs.AnswerRules.{one_length}
use Rattle.rack_types.specs.Headers.{HeaderList, header_names, header_values, header_place, values_at}

-- how many names stand before this one
abbrev run : List ℕ → HeaderList → ℕ
run name headers = prefix_len (λ n. not (bytes_eq name n)) (header_names headers)

names_as_headers : (headers : HeaderList) → length (header_names headers) ≡ length headers
names_as_headers [] = refl
names_as_headers (h ∷ headers) = ap suc (names_as_headers headers)

values_by : (name : List ℕ) (h : List ℕ × List (List ℕ)) (headers : HeaderList) (same : Bool)
    → (run name headers < length (header_names headers) → header_values name headers ≡ Some (values_at (run name headers) headers))
    → cond (not same) (1 + run name headers) 0 < suc (length (header_names headers))
    → cond same (Some h.1) (header_values name headers) ≡ Some (values_at (cond (not same) (1 + run name headers) 0) (h ∷ headers))
values_by name h headers true later below = refl
values_by name h headers false later below =
    let next : suc (run name headers) ≡ 1 + run name headers = omega arith in
    later (omega (arith, below)) ∙ ap (λ k. Some (values_at k (h ∷ headers))) next

run_values : (name : List ℕ) (headers : HeaderList) → run name headers < length (header_names headers) → header_values name headers ≡ Some (values_at (run name headers) headers)
run_values name [] below = absurd (omega (arith, below))
run_values name (h ∷ headers) below = values_by name h headers (bytes_eq name h.0) (λ b. run_values name headers b) below

none_by : (name : List ℕ) (h : List ℕ × List (List ℕ)) (headers : HeaderList) (same : Bool)
    → (length (header_names headers) ≤ run name headers → header_values name headers ≡ None)
    → suc (length (header_names headers)) ≤ cond (not same) (1 + run name headers) 0
    → cond same (Some h.1) (header_values name headers) ≡ None
none_by name h headers true later past = absurd (omega (arith, past))
none_by name h headers false later past = later (omega (arith, past))

run_none : (name : List ℕ) (headers : HeaderList) → length (header_names headers) ≤ run name headers → header_values name headers ≡ None
run_none name [] past = refl
run_none name (h ∷ headers) past = none_by name h headers (bytes_eq name h.0) (λ b. run_none name headers b) past

-- a number that is there under a test
is_there : (t : Bool) (n m : ℕ) → Some m ≡ (if t then Some n else None) → (t ≡ true) × (m ≡ n)
is_there true n m e = (refl, cc)
is_there false n m e = cc

is_absent : (t : Bool) (n : ℕ) → None ≡ (if t then Some n else None) → t ≡ false
is_absent true n e = cc
is_absent false n e = refl

pub place_values : (name : List ℕ) (headers : HeaderList) (i : ℕ) → Some i ≡ header_place name headers → header_values name headers ≡ Some (values_at i headers)
place_values name headers i e =
    let k = run name headers in
    let at = is_there (nat_lt k (length (header_names headers))) k i e in
    run_values name headers (ltb-true k (length (header_names headers)) at.0) ∙ ap (λ w. Some (values_at w headers)) (sym at.1)

pub place_within : (name : List ℕ) (headers : HeaderList) (i : ℕ) → Some i ≡ header_place name headers → i < length headers
place_within name headers i e =
    let k = run name headers in
    let at = is_there (nat_lt k (length (header_names headers))) k i e in
    omega (arith, ltb-true k (length (header_names headers)) at.0, at.1, names_as_headers headers)

pub place_none : (name : List ℕ) (headers : HeaderList) → None ≡ header_place name headers → header_values name headers ≡ None
place_none name headers e =
    let k = run name headers in
    run_none name headers (ltb-false k (length (header_names headers)) (is_absent (nat_lt k (length (header_names headers))) k e))

-- a list of one value, and one of another number
pub one_value : (values : List (List ℕ)) (value : List ℕ) → length values ≡ 1 → slice_get values 0 ≡ Some value → values ≡ value ∷ []
one_value [] value one at = cc
one_value (v ∷ []) value one at = let e : v ≡ value = cc in ap (λ w. w ∷ []) e
one_value (v ∷ w ∷ values) value one at = absurd (omega (arith, one))

pub not_one_value : (values : List (List ℕ)) → ¬ (length values ≡ 1) → None ≡ one_length values
not_one_value [] other = refl
not_one_value (v ∷ []) other = absurd (other refl)
not_one_value (v ∷ w ∷ values) other = refl

-- a number that is read up to 2^128, and held below 2^64
pub number_small : (digits : Bool) (n m : ℕ) → Some m ≡ (if digits && nat_lt n (2 ^ 128) then Some n else None) → m < 2 ^ 64
    → Some m ≡ (if digits && nat_lt n (2 ^ 64) then Some n else None)
number_small digits n m e small =
    let there = is_there (digits && nat_lt n (2 ^ 128)) n m e in
    let parts = and_parts digits (nat_lt n (2 ^ 128)) there.0 in
    let below : n < 2 ^ 64 = subst (λ (k : ℕ). k < 2 ^ 64) there.1 small in
    rw (parts.0, lt-ltb n (2 ^ 64) below) (ap Some there.1)

pub number_large : (digits : Bool) (n m : ℕ) → Some m ≡ (if digits && nat_lt n (2 ^ 128) then Some n else None) → 2 ^ 64 ≤ m
    → None ≡ (if digits && nat_lt n (2 ^ 64) then Some n else None)
number_large digits n m e large =
    let there = is_there (digits && nat_lt n (2 ^ 128)) n m e in
    let above : 2 ^ 64 ≤ n = subst (λ (k : ℕ). 2 ^ 64 ≤ k) there.1 large in
    rw (and_right digits (nat_lt n (2 ^ 64)) (le-ltb n (2 ^ 64) above)) refl

pub number_none : (digits : Bool) (n : ℕ) → None ≡ (if digits && nat_lt n (2 ^ 128) then Some n else None)
    → None ≡ (if digits && nat_lt n (2 ^ 64) then Some n else None)
number_none digits n e =
    elim (and_cases digits (nat_lt n (2 ^ 128)) (is_absent (digits && nat_lt n (2 ^ 128)) n e)) [
      | inl no_digits ↦ rw (and_left digits (nat_lt n (2 ^ 64)) no_digits) refl
      | inr over ↦ let above : 2 ^ 64 ≤ n = omega (arith, ltb-false n (2 ^ 128) over) in rw (and_right digits (nat_lt n (2 ^ 64)) (le-ltb n (2 ^ 64) above)) refl
    ]
