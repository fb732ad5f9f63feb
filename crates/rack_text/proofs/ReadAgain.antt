-- What is written for a text is read again.
use Rattle.std.proofs.Common.{◌≡◌, ◌≢◌, ℕ, ◌+◌, ◌/◌, ◌%◌, ◌<◌, ◌≤◌, true, false, List, [], ◌∷◌, ◌++◌, Some, None, All, codes, bytes_eq, inl, inr, refl, arith, ap, sym, ◌∙◌}
use Rattle.std.proofs.lemmas.Bool.{cases_Bool, cases_eq, cases_lt, false≢true, lt-ltb, le-ltb, le-leb, and_from, or_right}
use Rattle.std.proofs.lemmas.List.Elements.{All-head, All-tail}
use Rattle.std.proofs.lemmas.Nat.{div-add-mod'}
use Rattle.std.proofs.lemmas.Option.{none-some}
use Rattle.std.proofs.lemmas.Slice.Eq.{bytes_eq-Decides}
use Rattle.std.proofs.lemmas.Str.{digit_value-digit_char}
use Rattle.std.specs.Char.{is_ascii_hexdigit}
use Rattle.std.specs.Fmt.{digit_glyph}
use Rattle.std.specs.List.{flat_map}
use Rattle.rack_text.specs.Escaped.{before, escaped, hex_byte, is_plain, plain_byte, spelled, spelled_some, spelling, unescaped}
use Rattle.rack_text.proofs.EscapedLemmas.{spelled-none, spelled-other}
use Rattle.rack_text.proofs.SpellingLemmas.{escaped-none, escaped-some, spelling-plain, spelling-space, spelling-feed, spelling-return, spelling-backslash, spelling-other}

low : (d : ℕ) → d < 10 → is_ascii_hexdigit (48 + d) ≡ true
low d less = rw (le-leb 48 (48 + d) (omega arith), le-leb (48 + d) 57 (omega arith)) refl

high : (d : ℕ) → 10 ≤ d → d < 16 → is_ascii_hexdigit (87 + d) ≡ true
high d more small = or_right _ _ (and_from _ _ (le-leb 97 (87 + d) (omega arith)) (le-leb (87 + d) 102 (omega arith)))

-- a digit below 16 is a hexadecimal one
glyph_is_digit : (d : ℕ) → d < 16 → is_ascii_hexdigit (digit_glyph false d) ≡ true
glyph_is_digit d small =
    elim (cases_lt d 10) [
      | inl less ↦ rw (lt-ltb d 10 less) (low d less)
      | inr more ↦ rw (le-ltb d 10 more) (high d more small)
    ]

-- two digits of a byte spell it
digits_spell : (b : ℕ) → b < 256 → hex_byte (digit_glyph false (b / 16)) (digit_glyph false (b % 16)) ≡ Some b
digits_spell b byte =
    let first : b / 16 < 16 = omega arith in
    let last : b % 16 < 16 = omega arith in
    rw (glyph_is_digit (b / 16) first, glyph_is_digit (b % 16) last, digit_value-digit_char (b / 16) (omega arith), digit_value-digit_char (b % 16) (omega arith))
    (ap Some (div-add-mod' b 16))

plain_is_other : (b : ℕ) → is_plain b ≡ true → b ≢ 92
plain_is_other b plain is = false≢true (ap is_plain (sym is) ∙ plain)

plain_is_byte : (b : ℕ) → is_plain b ≡ true → plain_byte b ≡ Some b
plain_is_byte b plain = rw plain refl

plain_read : (b : ℕ) (rest : List ℕ) → is_plain b ≡ true → spelled (b ∷ rest) ≡ before (Some b) (spelled rest)
plain_read b rest plain = spelled-other b rest (plain_is_other b plain) ∙ ap (λ x. before x (spelled rest)) (plain_is_byte b plain)

space_read : (rest : List ℕ) → spelled (codes "\\s" ++ rest) ≡ before (Some 32) (spelled rest)
unfolding spelled
space_read rest = refl

feed_read : (rest : List ℕ) → spelled (codes "\\n" ++ rest) ≡ before (Some 10) (spelled rest)
unfolding spelled
feed_read rest = refl

return_read : (rest : List ℕ) → spelled (codes "\\r" ++ rest) ≡ before (Some 13) (spelled rest)
unfolding spelled
return_read rest = refl

backslash_read : (rest : List ℕ) → spelled (codes "\\\\" ++ rest) ≡ before (Some 92) (spelled rest)
unfolding spelled
backslash_read rest = refl

hex_read : (high low : ℕ) (rest : List ℕ) → spelled (92 ∷ 120 ∷ high ∷ low ∷ rest) ≡ before (hex_byte high low) (spelled rest)
unfolding spelled
hex_read high low rest = refl

escaped_byte_read : (b : ℕ) (rest : List ℕ) → b < 256 → is_plain b ≡ false → spelled (spelling b ++ rest) ≡ before (Some b) (spelled rest)
escaped_byte_read b rest byte plain =
    elim (cases_eq b 32) [
      | inl is ↦ rw (spelling-space b is) (space_read rest ∙ ap (λ x. before (Some x) (spelled rest)) (sym is))
      | inr space ↦ elim (cases_eq b 10) [
        | inl is ↦ rw (spelling-feed b is) (feed_read rest ∙ ap (λ x. before (Some x) (spelled rest)) (sym is))
        | inr feed ↦ elim (cases_eq b 13) [
          | inl is ↦ rw (spelling-return b is) (return_read rest ∙ ap (λ x. before (Some x) (spelled rest)) (sym is))
          | inr back ↦ elim (cases_eq b 92) [
            | inl is ↦ rw (spelling-backslash b is) (backslash_read rest ∙ ap (λ x. before (Some x) (spelled rest)) (sym is))
            | inr slash ↦ rw (spelling-other b plain space feed back slash)
                (hex_read _ _ rest ∙ ap (λ x. before x (spelled rest)) (digits_spell b byte))
          ]
        ]
      ]
    ]

-- the spelling of a byte is read as that byte, whatever stands behind it
spelling_read : (b : ℕ) (rest : List ℕ) → b < 256 → spelled (spelling b ++ rest) ≡ before (Some b) (spelled rest)
spelling_read b rest byte =
    elim (cases_Bool (is_plain b)) [
      | inl plain ↦ rw (spelling-plain b plain) (plain_read b rest plain)
      | inr other ↦ escaped_byte_read b rest byte other
    ]

empty_unread : spelled (codes "\\e") ≡ None
unfolding spelled
empty_unread = refl

-- spellings one behind the other are read as their bytes
spellings_read : (text : List ℕ) → All (λ b. b < 256) text → spelled (flat_map spelling text) ≡ Some text
spellings_read [] bytes = spelled-none
spellings_read (b ∷ text) bytes =
    spelling_read b (flat_map spelling text) (All-head (λ x. x < 256) b text bytes)
    ∙ ap (before (Some b)) (spellings_read text (All-tail (λ x. x < 256) b text bytes))

list_not : {b : ℕ} {text : List ℕ} → Some [] ≡ Some (b ∷ text) → ⊥
list_not {b} {text} same = cc

some_read : (word : List ℕ) (b : ℕ) (text : List ℕ) → spelled word ≡ Some (b ∷ text) → spelled_some word ≡ Some (b ∷ text)
some_read [] b text read = absurd (list_not (sym spelled-none ∙ read))
some_read (c ∷ word) b text read = read

-- a word whose spellings are of one byte or more is an escaped text
read_as : (word : List ℕ) (b : ℕ) (text : List ℕ) → spelled word ≡ Some (b ∷ text) → unescaped word ≡ Some (b ∷ text)
read_as word b text read =
    elim (cases_Bool (bytes_eq word (codes "\\e"))) [
      | inl same ↦
          let is : word ≡ codes "\\e" = (bytes_eq-Decides word (codes "\\e")).0 same in
          absurd (none-some (b ∷ text) (sym empty_unread ∙ ap spelled (sym is) ∙ read))
      | inr other ↦ rw other (some_read word b text read)
    ]

pub escaped_read : (text : List ℕ) → All (λ b. b < 256) text → unescaped (escaped text) ≡ Some text
escaped_read [] bytes = rw escaped-none refl
escaped_read (b ∷ text) bytes =
    rw (escaped-some (b ∷ text) (omega arith)) (read_as (flat_map spelling (b ∷ text)) b text (spellings_read (b ∷ text) bytes))
