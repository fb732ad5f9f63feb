-- How the names and values of a form are decoded, from the first byte on.
use Rattle.std.proofs.Common.{◌≡◌, ◌≢◌, ℕ, ◌+◌, ◌*◌, ◌<◌, ◌≤◌, ◌-◌, Bool, true, false, cond, nat_eq, List, [], ◌∷◌, length, map, get_or, take, drop, take_all, ◌++◌, ◌&&◌, Bor, reverse, Option, Some, codes, bytes_eq, refl, ap, sym, ◌∙◌, subst, arith}
use Rattle.std.specs.Char.{digit_value}
use Rattle.std.proofs.lemmas.Bool.Decides.{nat_tests}
use Rattle.std.proofs.lemmas.List.{map-append, reverse-append}
use Rattle.percent_encoding.proofs.PercentLemmas.{percent_decode-nil, percent_decode_escape, percent_decode_not_percent, KeepsFirst_from_no_escape}
use Rattle.form_urlencoded.specs.Form.{decode, pair_text, plus_to_space}
use Rattle.rack_types.specs.Env.{get_pair}

-- a byte other than `+` stands for itself
kept_byte : (b : ℕ) → b ≢ 43 → plus_to_space b ≡ b
kept_byte b other = grind (arith, nat_tests)

-- a hexadecimal digit is no `+`, and no space comes of one
no_plus : (b : ℕ) → digit_value b < 16 → b ≢ 43
no_plus b small = λ e. let large : digit_value 43 < 16 = subst (λ (n : ℕ). digit_value n < 16) e small in omega arith

no_space : (b : ℕ) → digit_value (plus_to_space b) < 16 → digit_value b < 16
no_space b small = by (nat_eq b 43) small
  where
    by : (t : Bool) → digit_value (cond t 32 b) < 16 → digit_value b < 16
    by true small = absurd (omega (arith, small))
    by false small = small

pub decode-nil : decode [] ≡ []
decode-nil = percent_decode-nil

pub decode_plus : (rest : List ℕ) → decode (43 ∷ rest) ≡ 32 ∷ decode rest
decode_plus rest = percent_decode_not_percent 32 (map plus_to_space rest) (λ e. omega (arith, e))

pub decode_plain : (b : ℕ) (rest : List ℕ) → b ≢ 43 → b ≢ 37 → decode (b ∷ rest) ≡ b ∷ decode rest
decode_plain b rest no_plus no_percent =
    rw (kept_byte b no_plus) (percent_decode_not_percent b (map plus_to_space rest) no_percent)

escape_is : (high low : ℕ) (rest : List ℕ) → digit_value high < 16 → digit_value low < 16 → decode (37 ∷ high ∷ low ∷ rest) ≡ (16 * digit_value high + digit_value low) ∷ decode rest
escape_is high low rest hex_high hex_low =
    rw (kept_byte high (no_plus high hex_high), kept_byte low (no_plus low hex_low)) (percent_decode_escape 37 high low (map plus_to_space rest) refl hex_high hex_low)

-- a `%` with two hexadecimal digits behind it stands for the byte that they write
pub decode_escape : (behind : List ℕ) → 2 ≤ length behind → digit_value (get_or behind 0 0) < 16 → digit_value (get_or behind 1 0) < 16
    → decode (37 ∷ behind) ≡ (16 * digit_value (get_or behind 0 0) + digit_value (get_or behind 1 0)) ∷ decode (take (length behind - 2) (drop 2 behind))
decode_escape [] long hex_high hex_low = absurd (omega arith)
decode_escape (high ∷ []) long hex_high hex_low = absurd (omega arith)
decode_escape (high ∷ low ∷ rest) long hex_high hex_low =
    let all : take (length (high ∷ low ∷ rest) - 2) rest ≡ rest = take_all (length (high ∷ low ∷ rest) - 2) rest (omega arith) in
    escape_is high low rest hex_high hex_low ∙ ap (λ (bytes : List ℕ). (16 * digit_value high + digit_value low) ∷ decode bytes) (sym all)

-- a `%` without two hexadecimal digits behind it stands for itself
pub decode_percent_short : (behind : List ℕ) → length behind < 2 → decode (37 ∷ behind) ≡ 37 ∷ decode behind
decode_percent_short [] short = KeepsFirst_from_no_escape (37 ∷ []) (λ long _ _ _. omega (arith, long))
decode_percent_short (b ∷ []) short = KeepsFirst_from_no_escape (37 ∷ plus_to_space b ∷ []) (λ long _ _ _. omega (arith, long))
decode_percent_short (b ∷ c ∷ behind) short = absurd (omega arith)

pub decode_percent : (behind : List ℕ) → 2 ≤ length behind → ¬ ((digit_value (get_or behind 0 0) < 16) × (digit_value (get_or behind 1 0) < 16))
    → decode (37 ∷ behind) ≡ 37 ∷ decode behind
decode_percent [] long no_digits = absurd (omega arith)
decode_percent (high ∷ []) long no_digits = absurd (omega arith)
decode_percent (high ∷ low ∷ rest) long no_digits =
    KeepsFirst_from_no_escape (37 ∷ plus_to_space high ∷ plus_to_space low ∷ map plus_to_space rest) (λ long percent hex_high hex_low. no_digits (no_space high hex_high, no_space low hex_low))

-- a pair of a form, decoded
abbrev pub decoded_pair : List ℕ × List ℕ → List ℕ × List ℕ
decoded_pair (name, value) = (decode name, decode value)

-- what the last pair `_method` of these asks for
abbrev pub asked_among : List (List ℕ × List ℕ) → Option (List ℕ)
asked_among pairs = get_pair (codes "_method") (reverse (map decoded_pair pairs))

-- one pair more
pub asked_among-snoc : (pairs : List (List ℕ × List ℕ)) (p : List ℕ × List ℕ)
    → asked_among (pairs ++ p ∷ []) ≡ cond (bytes_eq (codes "_method") (decode p.0)) (Some (decode p.1)) (asked_among pairs)
asked_among-snoc pairs p =
    ap (λ (ps : List (List ℕ × List ℕ)). get_pair (codes "_method") (reverse ps)) (map-append decoded_pair pairs (p ∷ []))
    ∙ ap (λ (ps : List (List ℕ × List ℕ)). get_pair (codes "_method") ps) (reverse-append (map decoded_pair pairs) (decoded_pair p ∷ []))

asked_among-next : (ys : List (Bor (List ℕ) × Bor (List ℕ))) (y : Bor (List ℕ) × Bor (List ℕ))
    → asked_among (map pair_text (ys ++ y ∷ [])) ≡ cond (bytes_eq (codes "_method") (decode y.0.now)) (Some (decode y.1.now)) (asked_among (map pair_text ys))
asked_among-next ys y =
    ap asked_among (map-append pair_text ys (y ∷ [])) ∙ asked_among-snoc (map pair_text ys) (pair_text y)

nat_eq-comm : (a b : ℕ) → nat_eq a b ≡ nat_eq b a
nat_eq-comm a b = grind (arith, nat_tests)

bytes_eq-comm : (xs ys : List ℕ) → bytes_eq xs ys ≡ bytes_eq ys xs
bytes_eq-comm [] [] = refl
bytes_eq-comm [] (y ∷ ys) = refl
bytes_eq-comm (x ∷ xs) [] = refl
bytes_eq-comm (x ∷ xs) (y ∷ ys) = rw (nat_eq-comm x y, bytes_eq-comm xs ys) refl

-- the next pair is one, or it is none
pub asked_here : (ys : List (Bor (List ℕ) × Bor (List ℕ))) (name value : Bor (List ℕ)) → bytes_eq (decode name.now) (codes "_method") ≡ true
    → Some (decode value.now) ≡ asked_among (map pair_text (ys ++ (name, value) ∷ []))
asked_here ys name value same =
    sym (asked_among-next ys (name, value) ∙ ap (λ t. cond t (Some (decode value.now)) (asked_among (map pair_text ys))) (bytes_eq-comm (codes "_method") (decode name.now) ∙ same))

pub asked_elsewhere : (ys : List (Bor (List ℕ) × Bor (List ℕ))) (name value : Bor (List ℕ)) → bytes_eq (decode name.now) (codes "_method") ≡ false
    → asked_among (map pair_text ys) ≡ asked_among (map pair_text (ys ++ (name, value) ∷ []))
asked_elsewhere ys name value other =
    sym (asked_among-next ys (name, value) ∙ ap (λ t. cond t (Some (decode value.now)) (asked_among (map pair_text ys))) (bytes_eq-comm (codes "_method") (decode name.now) ∙ other))
