-- The laws of lists with commas.
use Rattle.std.proofs.Common.{◌≡◌, ℕ, ◌+◌, ◌<◌, ◌≤◌, ◌||◌, inl, inr, Bool, true, false, List, [], ◌∷◌, ◌++◌, length, map, filter, cond, All, refl, sym, ap, ◌∙◌, arith}
use Rattle.std.specs.List.{slice_split, onto_first, position_or_len, before_first, after_first, join_with_byte, flat_map}
use Rattle.std.proofs.lemmas.Bool.{cond-true, cond-false, lt-ltb, le-ltb, cases_Bool, cases_lt}
use Rattle.std.proofs.lemmas.List.{append-nil, map-append, take_all, drop_all}
use Rattle.std.proofs.lemmas.List.Elements.{filter-append, filter_passes, All-weaker}
use Rattle.std.proofs.lemmas.List.Folds.{list_any-append, list_any_none}
use Rattle.std.proofs.lemmas.List.Splits.{slice_split-cons_yes, slice_split-cons_no, slice_split_none, slice_split_first, length-slice_split}
use Rattle.std.proofs.lemmas.List.Sums.{fails_before_first}
use Rattle.httparse.specs.Ascii.{comma}
use Rattle.httparse.specs.Grammar.{trim_ows}
use Rattle.rack_text.specs.Case.{same_ignoring_case}
use Rattle.rack_text.specs.Lists.{is_comma, is_nonempty, elements, list_has}

onto_first-append : (x : ℕ) (parts more : List (List ℕ)) → 0 < length parts → onto_first x (parts ++ more) ≡ onto_first x parts ++ more
onto_first-append x [] more some = absurd (omega arith)
onto_first-append x (part ∷ parts) more some = refl

-- a separator between two lists of bytes ends the last part of the first
slice_split-append : (p : ℕ → Bool) (xs : List ℕ) (y : ℕ) (ys : List ℕ) → p y ≡ true → slice_split p (xs ++ y ∷ ys) ≡ slice_split p xs ++ slice_split p ys
slice_split-append p [] y ys ends = slice_split-cons_yes p y ys ends
slice_split-append p (x ∷ xs) y ys ends =
    let later = slice_split-append p xs y ys ends in
    elim (cases_Bool (p x)) [
      | inl here ↦ slice_split-cons_yes p x _ here ∙ ap (λ parts. [] ∷ parts) later ∙ sym (ap (λ parts. parts ++ slice_split p ys) (slice_split-cons_yes p x xs here))
      | inr there ↦
          slice_split-cons_no p x _ there ∙ ap (onto_first x) later
          ∙ onto_first-append x (slice_split p xs) (slice_split p ys) (omega (arith, length-slice_split p xs))
          ∙ sym (ap (λ parts. parts ++ slice_split p ys) (slice_split-cons_no p x xs there))
    ]

pub elements-nil : elements [] ≡ []
unfolding elements trim_ows
elements-nil = refl

-- the elements of two values joined by a comma are those of the first, and then those of the second
pub elements-append : (a b : List ℕ) → elements (a ++ comma ∷ b) ≡ elements a ++ elements b
unfolding elements
elements-append a b = rw (slice_split-append is_comma a comma b refl, map-append, filter-append)

-- the elements of values joined by commas are those of each value in turn
pub elements-join : (values : List (List ℕ)) → elements (join_with_byte comma values) ≡ flat_map elements values
elements-join [] = elements-nil
elements-join (a ∷ []) = sym (append-nil (elements a))
elements-join (a ∷ b ∷ values) = elements-append a (join_with_byte comma (b ∷ values)) ∙ ap (λ others. elements a ++ others) (elements-join (b ∷ values))

-- what stands before the first comma is the first part, and the elements behind it come from what stands after it
abbrev SplitsFirst : List ℕ → Type 0
SplitsFirst bs =
    (rest : List (List ℕ)) × (slice_split is_comma bs ≡ before_first is_comma bs ∷ rest)
    × (filter is_nonempty (map trim_ows rest) ≡ elements (after_first is_comma bs))

split_first : (bs : List ℕ) → SplitsFirst bs
unfolding elements
split_first bs = elim (cases_lt (position_or_len is_comma bs) (length bs)) [
  | inl found ↦ (slice_split is_comma (after_first is_comma bs), slice_split_first is_comma bs 0 found, refl)
  | inr none ↦ (
    [],
    slice_split_none is_comma bs (λ k d h. fails_before_first is_comma bs k d (omega arith)) ∙ ap (λ part. part ∷ []) (sym (take_all (position_or_len is_comma bs) bs none)),
    sym elements-nil ∙ sym (ap elements (drop_all (position_or_len is_comma bs + 1) bs (omega arith))),
  )
]

-- where nothing is left of the first part, the elements are those behind the first comma
pub elements_skip : (bs : List ℕ) → length (trim_ows (before_first is_comma bs)) ≡ 0 → elements bs ≡ elements (after_first is_comma bs)
unfolding elements
elements_skip bs empty =
    let first = split_first bs in
    ap (λ parts. filter is_nonempty (map trim_ows parts)) first.1 ∙ cond-false _ _ _ (le-ltb 0 (length (trim_ows (before_first is_comma bs))) (omega arith)) ∙ first.2

-- otherwise that is the first element
pub elements_first : (bs : List ℕ) → 0 < length (trim_ows (before_first is_comma bs)) → elements bs ≡ trim_ows (before_first is_comma bs) ∷ elements (after_first is_comma bs)
unfolding elements
elements_first bs some =
    let first = split_first bs in
    ap (λ parts. filter is_nonempty (map trim_ows parts)) first.1 ∙ cond-true _ _ _ (lt-ltb 0 (length (trim_ows (before_first is_comma bs))) some) ∙ ap (λ others. trim_ows (before_first is_comma bs) ∷ others) first.2

-- no element is empty
pub elements_nonempty : (value : List ℕ) → All (λ element. is_nonempty element ≡ true) (elements value)
unfolding elements
elements_nonempty value = filter_passes is_nonempty (map trim_ows (slice_split is_comma value))

-- a word is in two values joined by a comma where it is in one of them
pub list_has-append : (a b word : List ℕ) → list_has (a ++ comma ∷ b) word ≡ (list_has a word || list_has b word)
list_has-append a b word = rw (elements-append a b) (list_any-append _ (elements a) (elements b))

-- the empty word is in no list
pub list_has-empty : (value : List ℕ) → list_has value [] ≡ false
list_has-empty value = list_any_none _ (elements value) (All-weaker (λ element. is_nonempty element ≡ true) _ other (elements value) (elements_nonempty value))
  where
    other : (element : List ℕ) → is_nonempty element ≡ true → same_ignoring_case element [] ≡ false
    other [] some = cc
    other (b ∷ bytes) some = refl

trim_ows-nil : trim_ows [] ≡ []
unfolding trim_ows
trim_ows-nil = refl

kept_of : List (List ℕ) → List (List ℕ)
kept_of parts = filter is_nonempty (map trim_ows parts)

kept-cons : (part : List ℕ) (parts : List (List ℕ)) → (length (kept_of parts) ≤ length (kept_of (part ∷ parts))) × (length (kept_of (part ∷ parts)) ≤ length (kept_of parts) + 1)
unfolding kept_of
kept-cons part parts =
    elim (is_nonempty (trim_ows part)) as (λ t. (length (kept_of parts) ≤ length (cond t (trim_ows part ∷ kept_of parts) (kept_of parts))) × (length (cond t (trim_ows part ∷ kept_of parts) (kept_of parts)) ≤ length (kept_of parts) + 1)) [
      | true ↦ (omega arith, omega arith)
      | false ↦ (omega arith, omega arith)
    ]

kept-onto_first : (b : ℕ) (parts : List (List ℕ)) → length (kept_of (onto_first b parts)) ≤ length (kept_of parts) + 1
kept-onto_first b [] = (kept-cons (b ∷ []) []).1
kept-onto_first b (part ∷ parts) = omega (arith, (kept-cons part parts).0, (kept-cons (b ∷ part) parts).1)

-- no value has more elements than bytes
pub length-elements : (value : List ℕ) → length (elements value) ≤ length value
unfolding elements kept_of
length-elements [] = omega (arith, ap length elements-nil)
length-elements (b ∷ bytes) =
    let later : length (kept_of (slice_split is_comma bytes)) ≤ length bytes = length-elements bytes in
    elim (cases_Bool (is_comma b)) [
      | inl here ↦ rw (slice_split-cons_yes is_comma b bytes here, trim_ows-nil) (omega (arith, later))
      | inr there ↦ rw (slice_split-cons_no is_comma b bytes there) (omega (arith, later, kept-onto_first b (slice_split is_comma bytes)))
    ]
