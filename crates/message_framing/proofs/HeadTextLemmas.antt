-- The scan finds the end of the head text as it is defined over whole lists.
use Rattle.std.proofs.Common.{◌≡◌, ◌≢◌, ℕ, suc, ◌+◌, Bool, true, false, ◌==◌, nat_lt, List, [], ◌∷◌, Option, None, Some, option_map, if◌then◌else◌, refl, ap, sym, ◌∙◌, arith, ◌⊎◌, inl, inr}
use Rattle.std.proofs.lemmas.Bool.Decides.{eqb_tells}
use Rattle.message_framing.specs.HeadText.{empty_line, skipped, lines_end, head_len}
use Rattle.message_framing.specs.Scan.{one_more, ends}
use Rattle.message_framing.specs.declared.scan.Line.{Line}
use Rattle.message_framing.specs.declared.scan.Line.TheVariants.{Skipping, SkippingReturn, Text, Start, Return, Ended}

-- what is added to a sum
pub add_more : (i : ℕ) (o : Option ℕ) → option_map (λ n. i + n) (option_map suc o) ≡ option_map (λ n. i + 1 + n) o
add_more i None = refl
add_more i (Some n) = ap Some (omega arith)

pub add_twice : (i k : ℕ) (o : Option ℕ) → option_map (λ n. i + n) (option_map (λ n. k + n) o) ≡ option_map (λ n. i + k + n) o
add_twice i k None = refl
add_twice i k (Some n) = ap Some (omega arith)

-- a byte that does not end the head text leaves it to the rest
pub one_more_suc : (l : Line) (o : Option ℕ) → l ≢ Ended → one_more l o ≡ option_map suc o
one_more_suc Skipping o goes = refl
one_more_suc SkippingReturn o goes = refl
one_more_suc Text o goes = refl
one_more_suc Start o goes = refl
one_more_suc Return o goes = refl
one_more_suc Ended o goes = absurd (goes refl)

-- what a byte is to the scan
pub data Kind (b : ℕ) : Type 0 where
  feed : (b == 10) ≡ true → Kind b
  return : (b == 10) ≡ false → (b == 13) ≡ true → Kind b
  letter : (b == 10) ≡ false → (b == 13) ≡ false → Kind b

pub bool_cases : (b : Bool) → (b ≡ true) ⊎ (b ≡ false)
bool_cases true = inl refl
bool_cases false = inr refl

pub kind_of : (b : ℕ) → Kind b
kind_of b = elim (bool_cases (b == 10)) [
  | inl here ↦ feed here
  | inr not_feed ↦ elim (bool_cases (b == 13)) [ inl here ↦ return not_feed here | inr never ↦ letter not_feed never ]
]

-- the first byte is a line feed
abbrev pub begins_line_feed : List ℕ → Bool
begins_line_feed [] = false
begins_line_feed (b ∷ rest) = b == 10

-- what the scan finds from inside the head, in terms of the definition
pub record InHead (b : List ℕ) : Type 0 where
  pub text : ends Text b ≡ lines_end b
  pub start : ends Start b ≡ (if nat_lt 0 (empty_line b) then Some (empty_line b) else lines_end b)
  pub return : ends Return b ≡ (if begins_line_feed b then Some 1 else lines_end b)

suc_if : (test : Bool) (n : ℕ) (o : Option ℕ)
    → option_map suc (if test then Some n else o) ≡ (if test then Some (suc n) else option_map suc o)
suc_if true n o = refl
suc_if false n o = refl

-- behind a line feed
in_head_feed : (x : ℕ) (r : List ℕ) → (x == 10) ≡ true → InHead r → InHead (x ∷ r)
unfolding ends lines_end empty_line
in_head_feed x [] is h = record { text = rw is refl; start = rw is refl; return = rw is refl }
in_head_feed x (c ∷ r) is h = record {
  text = rw is (ap (option_map suc) h.start ∙ suc_if _ _ _);
  start = rw is refl;
  return = rw is refl;
}

-- behind a carriage return
in_head_return : (x : ℕ) (r : List ℕ) → (x == 10) ≡ false → (x == 13) ≡ true → InHead r → InHead (x ∷ r)
unfolding ends lines_end empty_line
in_head_return x [] nofeed is h = record { text = rw (nofeed, is) refl; start = rw (nofeed, is) refl; return = rw (nofeed, is) refl }
in_head_return x (c ∷ r) nofeed is h = record {
  text = rw (nofeed, is) (ap (option_map suc) h.text);
  start = rw (nofeed, is) (ap (option_map suc) h.return ∙ two_if (c == 10) _);
  return = rw (nofeed, is) (ap (option_map suc) h.text);
}
  where
    two_if : (test : Bool) (o : Option ℕ) → option_map suc (if test then Some 1 else o)
        ≡ (if nat_lt 0 (if test then 2 else 0) then Some (if test then 2 else 0) else option_map suc o)
    two_if true o = refl
    two_if false o = refl

-- behind any other byte
in_head_letter : (x : ℕ) (r : List ℕ) → (x == 10) ≡ false → (x == 13) ≡ false → InHead r → InHead (x ∷ r)
unfolding ends lines_end empty_line
in_head_letter x [] nofeed noreturn h = record { text = rw (nofeed, noreturn) refl; start = rw (nofeed, noreturn) refl; return = rw (nofeed, noreturn) refl }
in_head_letter x (c ∷ r) nofeed noreturn h = record {
  text = rw (nofeed, noreturn) (ap (option_map suc) h.text);
  start = rw (nofeed, noreturn) (ap (option_map suc) h.text);
  return = rw (nofeed, noreturn) (ap (option_map suc) h.text);
}

pub in_head : (b : List ℕ) → InHead b
unfolding ends lines_end empty_line
in_head [] = record { text = refl; start = refl; return = refl }
in_head (x ∷ r) = elim (kind_of x) [
  | feed is ↦ in_head_feed x r is (in_head r)
  | return nofeed is ↦ in_head_return x r nofeed is (in_head r)
  | letter nofeed noreturn ↦ in_head_letter x r nofeed noreturn (in_head r)
]

-- adding to a number that may not be there
pub add_zero : (o : Option ℕ) → o ≡ option_map (λ n. 0 + n) o
add_zero None = refl
add_zero (Some n) = ap Some (omega arith)

pub add_suc : (k : ℕ) (o : Option ℕ) → option_map suc (option_map (λ n. k + n) o) ≡ option_map (λ n. suc k + n) o
add_suc k None = refl
add_suc k (Some n) = ap Some (omega arith)

-- no empty line at the front, as nothing is skipped
from_text : (b : List ℕ) → skipped b ≡ 0 → head_len b ≡ lines_end b
unfolding head_len
from_text b none = rw none (sym (add_zero (lines_end b)))

-- nothing is skipped before a line that is not empty
pub no_skip_return : (x c : ℕ) (r : List ℕ) → (x == 10) ≡ false → (x == 13) ≡ true → (c == 10) ≡ false → skipped (x ∷ c ∷ r) ≡ 0
unfolding skipped
no_skip_return x c r nofeed is after = simp (nofeed, is, after)

pub no_skip_letter : (x : ℕ) (r : List ℕ) → (x == 10) ≡ false → (x == 13) ≡ false → skipped (x ∷ r) ≡ 0
unfolding skipped
no_skip_letter x [] nofeed noreturn = simp (nofeed, noreturn)
no_skip_letter x (c ∷ r) nofeed noreturn = simp (nofeed, noreturn)

-- a line that is not empty is inside the head at once
same_letter : (x : ℕ) (r : List ℕ) → (x == 10) ≡ false → (x == 13) ≡ false → ends Skipping (x ∷ r) ≡ ends Text (x ∷ r)
unfolding ends
same_letter x r nofeed noreturn = rw (nofeed, noreturn) refl

same_return : (x c : ℕ) (r : List ℕ) → (x == 10) ≡ false → (x == 13) ≡ true → (c == 10) ≡ false
    → ends Skipping (x ∷ c ∷ r) ≡ ends Text (x ∷ c ∷ r)
unfolding ends
same_return x c r nofeed is after = elim (bool_cases (c == 13)) [
  | inl again ↦ rw (nofeed, is, after, again) refl
  | inr other ↦ rw (nofeed, is, after, other) refl
]

-- the scan from the front finds the end of the head text
pub scan_head : (b : List ℕ) → ends Skipping b ≡ head_len b
unfolding ends head_len skipped lines_end empty_line
scan_head [] = refl
scan_head (x ∷ []) = elim (kind_of x) [
  | feed is ↦ simp is refl
  | return nofeed is ↦ simp (nofeed, is) refl
  | letter nofeed noreturn ↦ simp (nofeed, noreturn) refl
]
scan_head (x ∷ c ∷ r) = elim (kind_of x) [
  | feed is ↦ rw is (ap (option_map suc) (scan_head (c ∷ r)) ∙ add_suc _ _)
  | return nofeed is ↦ elim (bool_cases (c == 10)) [
    | inl empty ↦ simp (nofeed, is, empty) (ap (λ o. option_map suc (option_map suc o)) (scan_head r) ∙ ap (option_map suc) (add_suc _ _) ∙ add_suc _ _)
    | inr after ↦ same_return x c r nofeed is after ∙ (in_head (x ∷ c ∷ r)).text ∙ sym (from_text (x ∷ c ∷ r) (no_skip_return x c r nofeed is after))
  ]
  | letter nofeed noreturn ↦ same_letter x (c ∷ r) nofeed noreturn ∙ (in_head (x ∷ c ∷ r)).text ∙ sym (from_text (x ∷ c ∷ r) (no_skip_letter x (c ∷ r) nofeed noreturn))
]

pub not_feed : (x : ℕ) → x ≢ 10 → (x == 10) ≡ false
not_feed x other = elim (eqb_tells x 10) [ inl is ↦ absurd (other is.1) | inr isnt ↦ isnt.0 ]

pub not_return : (x : ℕ) → x ≢ 13 → (x == 13) ≡ false
not_return x other = elim (eqb_tells x 13) [ inl is ↦ absurd (other is.1) | inr isnt ↦ isnt.0 ]
