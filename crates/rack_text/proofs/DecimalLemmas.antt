-- The laws of decimal numbers.
use Rattle.std.proofs.Common.{◌≡◌, ℕ, ◌+◌, ◌*◌, ◌^◌, ◌<◌, ◌≤◌, true, false, List, [], ◌∷◌, length, Some, None, SomeIff, IsTrue, decimal, Option, inl, inr, get_or, drop, refl, sym, ap, ◌∙◌, arith}
use Rattle.std.specs.Char.{is_ascii_digit, digit_value}
use Rattle.std.specs.List.{list_all}
use Rattle.std.specs.Str.Parse.{AllDigits, digits_value_after}
use Rattle.std.proofs.lemmas.Bool.{cond-true, cond-false, lt-ltb, le-ltb, and_from, and_left, and_right, cases_Bool, le-leb}
use Rattle.std.proofs.lemmas.Bool.{cases_lt}
use Rattle.std.proofs.lemmas.List.{drop_more, drop_all}
use Rattle.std.proofs.lemmas.Fmt.{decimal_is_IsNumeral_wide}
use Rattle.std.proofs.lemmas.Str.Parse.{digit_from_value}
use Rattle.rack_text.specs.Decimal.{is_decimal, IsDecimal, decimal_value, decimal_number}

-- more digits make no smaller number
pub digits_value_after-ge : (n : ℕ) (ds : List ℕ) → n ≤ digits_value_after 10 n ds
digits_value_after-ge n [] = omega arith
digits_value_after-ge n (c ∷ cs) = omega (arith, digits_value_after-ge (n * 10 + digit_value c) cs)

pub decimal_number_read : (text : List ℕ) → is_decimal text ≡ true → decimal_value text < 2 ^ 128 → decimal_number text ≡ Some (decimal_value text)
decimal_number_read text form fits = cond-true _ _ _ (and_from _ _ form (lt-ltb _ _ fits))

pub decimal_number_other : (text : List ℕ) → is_decimal text ≡ false → decimal_number text ≡ None
decimal_number_other text other = cond-false _ _ _ (and_left _ _ other)

pub decimal_number_large : (text : List ℕ) → 2 ^ 128 ≤ decimal_value text → decimal_number text ≡ None
decimal_number_large text large = cond-false _ _ _ (and_right _ _ (le-ltb _ _ large))

-- the number says when the text is read
pub decimal_number_exactly : (text : List ℕ) (r : Option ℕ) → r ≡ decimal_number text → SomeIff r (IsDecimal text × (decimal_value text < 2 ^ 128)) (decimal_value text)
decimal_number_exactly text r is =
    elim (cases_Bool (is_decimal text)) [
      | inl form ↦ elim (cases_lt (decimal_value text) (2 ^ 128)) [
        | inl fits ↦ rw (is, decimal_number_read text form fits) ((form, fits), refl)
        | inr large ↦ rw (is, decimal_number_large text large) (λ both. omega (arith, both.1))
      ]
      | inr other ↦ rw (is, decimal_number_other text other) (λ both. cc)
    ]

-- the digits from i on follow those of n, and the digits before i are digits
pub record ReadsOn (text : List ℕ) (i n : ℕ) : Type 0 where
  pub fits : n < 2 ^ 128
  pub value : digits_value_after 10 n (drop i text) ≡ decimal_value text
  pub digits : list_all is_ascii_digit (drop i text) ≡ list_all is_ascii_digit text

-- a byte that is no digit, or makes the number too large, refuses the text
pub decimal_number_refused : (text : List ℕ) (i n b : ℕ) → ReadsOn text i n → i < length text → b ≡ get_or text i 0
    → (IsTrue (is_ascii_digit b) × (n * 10 + digit_value b < 2 ^ 128) → ⊥) → decimal_number text ≡ None
decimal_number_refused text i n b so_far more is refused =
    let rest = drop (i + 1) text in
    let first : drop i text ≡ b ∷ rest = drop_more text i 0 more ∙ ap (λ x. x ∷ rest) (sym is) in
    elim (cases_Bool (is_ascii_digit b)) [
      | inl digit ↦ elim (cases_lt (n * 10 + digit_value b) (2 ^ 128)) [
        | inl fits ↦ absurd (refused (digit, fits))
        | inr large ↦
            let value : digits_value_after 10 (n * 10 + digit_value b) rest ≡ decimal_value text = rw first at so_far.value in
            decimal_number_large text (omega (arith, digits_value_after-ge (n * 10 + digit_value b) rest, value, large))
      ]
      | inr other ↦
          let stops : list_all is_ascii_digit (b ∷ rest) ≡ false = and_left _ _ other in
          decimal_number_other text (and_right _ _ (sym so_far.digits ∙ ap (list_all is_ascii_digit) first ∙ stops))
    ]

-- at the end of a text that is not empty, its number is read
pub decimal_number_done : (text : List ℕ) (i n : ℕ) → ReadsOn text i n → length text ≤ i → 0 < length text → decimal_number text ≡ Some n
decimal_number_done text i n so_far none some =
    let ended : drop i text ≡ [] = drop_all i text none in
    let value : n ≡ decimal_value text = rw ended at so_far.value in
    let digits : true ≡ list_all is_ascii_digit text = rw ended at so_far.digits in
    decimal_number_read text (and_from _ _ (lt-ltb _ _ some) (sym digits)) (omega (arith, so_far.fits, value)) ∙ ap Some (sym value)

all_digits : (ds : List ℕ) → AllDigits 10 ds → list_all is_ascii_digit ds ≡ true
all_digits [] digits = refl
all_digits (c ∷ cs) digits =
    let range = digit_from_value c digits.0 in
    and_from _ _ (and_from _ _ (le-leb 48 c range.0) (le-leb c 57 range.1)) (all_digits cs digits.1)

-- what std writes of a number is read as that number
pub decimal_number-decimal : (n : ℕ) → n < 2 ^ 128 → decimal_number (decimal n) ≡ Some n
decimal_number-decimal n fits =
    let written = decimal_is_IsNumeral_wide n (omega arith) in
    let form : is_decimal (decimal n) ≡ true = and_from _ _ (lt-ltb _ _ written.0.0) (all_digits (decimal n) written.0.1) in
    decimal_number_read (decimal n) form (omega (arith, fits, written.1)) ∙ ap Some written.1
