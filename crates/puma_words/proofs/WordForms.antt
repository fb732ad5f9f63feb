-- What a word is, as `clap` looks at it and as the definitions do.
use Rattle.std.proofs.Common.{◌≡◌, ◌∙◌, ◌+◌, ◌==◌, ◌||◌, ℕ, inl, inr, Bool, cond, true, false, suc, refl, sym, ap, ap₂, subst, arith, List, [], ◌∷◌, ◌++◌, take, drop, Option, Some, None, codes, true≢false}
use Rattle.std.specs.Prelude.{not, slice_get, if◌then◌else◌}
use Rattle.std.specs.List.{after_first, before_first, filter, list_any, position_or_len}
use Rattle.std.specs.Str.{IsUtf8, bytes_eq, chars, encode_utf8_all}
use Rattle.std.proofs.lemmas.Bool.{cases_Bool}
use Rattle.std.proofs.lemmas.Str.{IsCharBoundary-after_ascii, IsUtf8-drop, encodes-chars}
use Rattle.std.proofs.lemmas.Slice.Eq.{bytes_eq-Decides}
use Rattle.clap.specs.Lexer.{has_byte, long_of, name_and_value, short_of}
use Rattle.puma_words.specs.Words.{Text, ends_options, is_option, names, options}

-- a long option but `--no-hijack`, or a short one
pub data Strange (word : Text) : Type 0 where
  long : (name : Text) (value : Option Text) → long_of word ≡ Some (name, value)
      → (value ≡ None → bytes_eq (codes "no-hijack") name ≡ false) → Strange word
  short : (x : ℕ) (flags : Text) (c : ℕ) → long_of word ≡ None → short_of word ≡ Some (x ∷ flags)
      → slice_get (chars (x ∷ flags)) 0 ≡ Some c → Strange word

-- an option that nobody has
pub record IsUnknown (word : Text) : Type 0 where
  pub ends : ends_options word ≡ false
  pub option : is_option word ≡ true
  pub other : bytes_eq (codes "--no-hijack") word ≡ false
  pub strange : Strange word

-- a name
pub record IsName (word : Text) : Type 0 where
  pub ends : ends_options word ≡ false
  pub option : is_option word ≡ false
  pub long : long_of word ≡ None
  pub short : short_of word ≡ None

-- ---- tests

pub same_bytes : (xs ys : Text) → bytes_eq xs ys ≡ true → xs ≡ ys
same_bytes xs ys same = (bytes_eq-Decides xs ys).0 same

eq_from_test : (a b : ℕ) → (a == b) ≡ true → a ≡ b
eq_from_test a b same = grind arith

test_swapped : (a b : ℕ) → (a == b) ≡ false → (b == a) ≡ false
test_swapped a b differs = grind arith

pub nil≢cons : {X : Type 0} {x : X} {xs : List X} → [] ≡ x ∷ xs → ⊥
nil≢cons e = cc

some≢none : {X : Type 0} {x : X} → Some x ≡ None → ⊥
some≢none e = cc

-- ---- the options and names behind a word

one_more : (k : ℕ) → 1 + k ≡ suc k
one_more k = omega arith

two_more : (k : ℕ) → 1 + k + 1 ≡ suc (k + 1)
two_more k = omega arith

neither : (a b : Bool) → (a || b) ≡ false → (a ≡ false) × (b ≡ false)
neither true b e = absurd (true≢false e)
neither false b e = (refl, e)

module _ {X : Type 0} (p : X → Bool) where
  before_first-next : (x : X) (xs : List X) → p x ≡ false → before_first p (x ∷ xs) ≡ x ∷ before_first p xs
  before_first-next x xs e = ap (λ b. take (cond (not b) (1 + position_or_len p xs) 0) (x ∷ xs)) e ∙ ap (λ k. take k (x ∷ xs)) (one_more (position_or_len p xs))

  after_first-next : (x : X) (xs : List X) → p x ≡ false → after_first p (x ∷ xs) ≡ after_first p xs
  after_first-next x xs e = ap (λ b. drop (cond (not b) (1 + position_or_len p xs) 0 + 1) (x ∷ xs)) e ∙ ap (λ k. drop k (x ∷ xs)) (two_more (position_or_len p xs))

  before_first-all : (xs : List X) → list_any p xs ≡ false → before_first p xs ≡ xs
  before_first-all [] none = refl
  before_first-all (x ∷ xs) none =
      let parts = neither (p x) (list_any p xs) none in
      before_first-next x xs parts.0 ∙ ap (λ ys. x ∷ ys) (before_first-all xs parts.1)

  filter-passes : (x : X) (xs : List X) → p x ≡ true → filter p (x ∷ xs) ≡ x ∷ filter p xs
  filter-passes x xs e = ap (λ b. cond b (x ∷ filter p xs) (filter p xs)) e

  filter-fails : (x : X) (xs : List X) → p x ≡ false → filter p (x ∷ xs) ≡ filter p xs
  filter-fails x xs e = ap (λ b. cond b (x ∷ filter p xs) (filter p xs)) e

abbrev is_name : Text → Bool
is_name word = not (is_option word)

abbrev ahead : List Text → List Text
ahead words = before_first ends_options words

abbrev behind : List Text → List Text
behind words = after_first ends_options words

pub options-option : (word : Text) (words : List Text) → ends_options word ≡ false → is_option word ≡ true → options (word ∷ words) ≡ word ∷ options words
options-option word words e o = ap (filter is_option) (before_first-next ends_options word words e) ∙ filter-passes is_option word (ahead words) o

pub names-option : (word : Text) (words : List Text) → ends_options word ≡ false → is_option word ≡ true → names (word ∷ words) ≡ names words
names-option word words e o = ap₂ (λ xs ys. filter is_name xs ++ ys) (before_first-next ends_options word words e) (after_first-next ends_options word words e)
    ∙ ap (λ xs. xs ++ behind words) (filter-fails is_name word (ahead words) (ap not o))

pub options-name : (word : Text) (words : List Text) → ends_options word ≡ false → is_option word ≡ false → options (word ∷ words) ≡ options words
options-name word words e o = ap (filter is_option) (before_first-next ends_options word words e) ∙ filter-fails is_option word (ahead words) o

pub names-name : (word : Text) (words : List Text) → ends_options word ≡ false → is_option word ≡ false → names (word ∷ words) ≡ word ∷ names words
names-name word words e o = ap₂ (λ xs ys. filter is_name xs ++ ys) (before_first-next ends_options word words e) (after_first-next ends_options word words e)
    ∙ ap (λ xs. xs ++ behind words) (filter-passes is_name word (ahead words) (ap not o))

pub options-ends : (words : List Text) → options (codes "--" ∷ words) ≡ []
options-ends words = refl

pub names-ends : (words : List Text) → names (codes "--" ∷ words) ≡ words
names-ends words = refl

-- ---- each word has one of four forms

abbrev pub Forms : (Text → Type 0) → Type 0
Forms P = P (codes "--") × P (codes "--no-hijack") × ((word : Text) → IsUnknown word → P word) × ((word : Text) → IsName word → P word)

-- a text that isn't empty has a character
first_char : (x : ℕ) (xs cs : List ℕ) → encode_utf8_all cs ≡ x ∷ xs → (c : ℕ) × (slice_get cs 0 ≡ Some c)
first_char x xs [] spells = absurd (nil≢cons spells)
first_char x xs (c ∷ cs) spells = (c, refl)

has_char : (x : ℕ) (xs : Text) → IsUtf8 (x ∷ xs) → (c : ℕ) × (slice_get (chars (x ∷ xs)) 0 ≡ Some c)
has_char x xs utf8 = first_char x xs (chars (x ∷ xs)) (encodes-chars (x ∷ xs) utf8)

behind_hyphen : (xs : Text) → IsUtf8 (45 ∷ xs) → IsUtf8 xs
behind_hyphen xs utf8 = IsUtf8-drop (45 ∷ xs) 1 utf8 (IsCharBoundary-after_ascii (45 ∷ xs) 0 utf8 (omega (arith)) (omega arith))

-- what follows `--`
no_value : (rest : Text) → bytes_eq (codes "no-hijack") rest ≡ false → (b : Bool) → has_byte 61 rest ≡ b
    → (if b then Some (after_first (λ x. x == 61) rest) else None) ≡ None → bytes_eq (codes "no-hijack") (before_first (λ x. x == 61) rest) ≡ false
no_value rest differs true has none = absurd (some≢none none)
no_value rest differs false has none = rw (before_first-all (λ x. x == 61) rest has) differs

long_form : (z : ℕ) (zs : Text) → bytes_eq (codes "--no-hijack") (45 ∷ 45 ∷ z ∷ zs) ≡ false → IsUnknown (45 ∷ 45 ∷ z ∷ zs)
long_form z zs differs = record {
  ends = refl;
  option = refl;
  other = differs;
  strange = long (name_and_value (z ∷ zs)).0 (name_and_value (z ∷ zs)).1 refl (no_value (z ∷ zs) differs (has_byte 61 (z ∷ zs)) refl);
}

short_form : (y : ℕ) (ys : Text) → (y == 45) ≡ false → (45 == y) ≡ false → IsUtf8 (45 ∷ y ∷ ys) → IsUnknown (45 ∷ y ∷ ys)
short_form y ys differs swapped utf8 =
    let found = has_char y ys (behind_hyphen (y ∷ ys) utf8) in
    record {
      ends = rw differs refl;
      option = refl;
      other = rw swapped refl;
      strange = short y ys found.0 (rw differs refl) (rw differs refl) found.1;
    }

other_first : (x : ℕ) (xs : Text) → (x == 45) ≡ false → is_option (x ∷ xs) ≡ false
other_first x [] differs = refl
other_first x (y ∷ ys) differs = differs

name_form : (x : ℕ) (xs : Text) → (x == 45) ≡ false → IsName (x ∷ xs)
name_form x xs differs = record {
  ends = rw differs refl;
  option = other_first x xs differs;
  long = rw differs refl;
  short = rw differs refl;
}

hyphens_form : (P : Text → Type 0) → Forms P → (zs : Text) → P (45 ∷ 45 ∷ zs)
hyphens_form P forms [] = forms.0
hyphens_form P forms (z ∷ zs) = elim (cases_Bool (bytes_eq (codes "--no-hijack") (45 ∷ 45 ∷ z ∷ zs))) [
  | inl same ↦ subst P (same_bytes (codes "--no-hijack") (45 ∷ 45 ∷ z ∷ zs) same) forms.1
  | inr differs ↦ forms.2 (45 ∷ 45 ∷ z ∷ zs) (long_form z zs differs)
]

hyphen_form : (P : Text → Type 0) → Forms P → (xs : Text) → IsUtf8 (45 ∷ xs) → P (45 ∷ xs)
hyphen_form P forms [] utf8 = forms.3 (45 ∷ []) (record { ends = refl; option = refl; long = refl; short = refl })
hyphen_form P forms (y ∷ ys) utf8 = elim (cases_Bool (y == 45)) [
  | inl same ↦ subst (λ k. P (45 ∷ k ∷ ys)) (sym (eq_from_test y 45 same)) (hyphens_form P forms ys)
  | inr differs ↦ forms.2 (45 ∷ y ∷ ys) (short_form y ys differs (test_swapped y 45 differs) utf8)
]

-- each word is `--`, `--no-hijack`, an option that nobody has, or a name
pub word_cases : (P : Text → Type 0) → Forms P → (word : Text) → IsUtf8 word → P word
word_cases P forms [] utf8 = forms.3 [] (record { ends = refl; option = refl; long = refl; short = refl })
word_cases P forms (x ∷ xs) utf8 = elim (cases_Bool (x == 45)) [
  | inl same ↦ subst (λ k. P (k ∷ xs)) (sym (eq_from_test x 45 same)) (hyphen_form P forms xs (subst (λ k. IsUtf8 (k ∷ xs)) (eq_from_test x 45 same) utf8))
  | inr differs ↦ forms.3 (x ∷ xs) (name_form x xs differs)
]
