-- Spellings of bytes, written one behind the other, and read again.
use Rattle.std.proofs.Common.{◌≡◌, ◌≢◌, ℕ, ◌+◌, ◌-◌, ◌/◌, ◌%◌, ◌≤◌, ◌<◌, ◌==◌, true, false, List, [], ◌∷◌, ◌++◌, length, take, drop, codes, refl, arith, ap, sym, subst, ◌∙◌, append_assoc, append-nil, length-drop}
use Rattle.std.proofs.Common.{add_comm, add-one, take, inl, inr}
use Rattle.std.proofs.Math.Seq.{take-add}
use Rattle.std.proofs.lemmas.Bool.{ne_eqb, cases_Bool, true≢false}
use Rattle.std.proofs.lemmas.Grind.{flat_map-append}
use Rattle.std.proofs.lemmas.List.{take_all}
use Rattle.std.specs.Fmt.{digit_glyph}
use Rattle.std.specs.List.{flat_map, prefix_len}
use Rattle.rack_text.specs.Escaped.{WritesFirst, escaped, is_plain, spelling}

-- the spellings of the bytes before a place of the text were appended
pub record WritesTo (text : List ℕ) (at start : ℕ) (old new : List ℕ) : Type 0 where
  pub within : at ≤ length text
  pub start_is : start ≡ length old
  pub written : new ≡ old ++ flat_map spelling (take at text)

pub escaped-none : escaped [] ≡ codes "\\e"
unfolding escaped
escaped-none = refl

pub escaped-some : (text : List ℕ) → 0 < length text → escaped text ≡ flat_map spelling text
unfolding escaped
escaped-some [] some = absurd (omega arith)
escaped-some (b ∷ text) some = refl

pub spelling-plain : (b : ℕ) → is_plain b ≡ true → spelling b ≡ b ∷ []
unfolding spelling
spelling-plain b plain = rw plain refl

pub spelling-space : (b : ℕ) → b ≡ 32 → spelling b ≡ codes "\\s"
unfolding spelling
spelling-space b is = rw is refl

pub spelling-feed : (b : ℕ) → b ≡ 10 → spelling b ≡ codes "\\n"
unfolding spelling
spelling-feed b is = rw is refl

pub spelling-return : (b : ℕ) → b ≡ 13 → spelling b ≡ codes "\\r"
unfolding spelling
spelling-return b is = rw is refl

pub spelling-backslash : (b : ℕ) → b ≡ 92 → spelling b ≡ codes "\\\\"
unfolding spelling
spelling-backslash b is = rw is refl

pub spelling-other : (b : ℕ) → is_plain b ≡ false → b ≢ 32 → b ≢ 10 → b ≢ 13 → b ≢ 92
    → spelling b ≡ 92 ∷ 120 ∷ digit_glyph false (b / 16) ∷ digit_glyph false (b % 16) ∷ []
unfolding spelling
spelling-other b plain space feed back slash =
    rw (plain, ne_eqb b 32 space, ne_eqb b 10 feed, ne_eqb b 13 back, ne_eqb b 92 slash) refl

-- bytes in front that stand for themselves are their own spellings
pub plain_run-spelled : (bytes : List ℕ) → flat_map spelling (take (prefix_len is_plain bytes) bytes) ≡ take (prefix_len is_plain bytes) bytes
plain_run-spelled [] = refl
plain_run-spelled (b ∷ bytes) =
    elim (cases_Bool (is_plain b)) [
      | inl plain ↦
          rw plain (rw (add_comm 1 (prefix_len is_plain bytes), add-one)
          (rw (spelling-plain b plain) (ap (λ rest. b ∷ rest) (plain_run-spelled bytes))))
      | inr other ↦ rw other refl
    ]

pub writes_start : (text old : List ℕ) → WritesTo text 0 (length old) old old
writes_start text old = record { within = omega arith; start_is = refl; written = sym (append-nil old) }

goes_on : (text : List ℕ) (at start n : ℕ) (old new newer : List ℕ) → WritesTo text at start old new
    → WritesFirst n (drop at text) new newer → WritesTo text (at + n) start old newer
goes_on text at start n old new newer so_far first = record {
  within = omega (arith, so_far.within, first.within, length-drop at text);
  start_is = so_far.start_is;
  written =
      first.written ∙ ap (λ x. x ++ flat_map spelling (take n (drop at text))) so_far.written
      ∙ append_assoc old (flat_map spelling (take at text)) (flat_map spelling (take n (drop at text)))
      ∙ ap (λ x. old ++ x) (sym (flat_map-append spelling (take at text) (take n (drop at text))))
      ∙ ap (λ x. old ++ flat_map spelling x) (sym (take-add at n text));
}

-- more bytes were spelled
pub writes_more : (text : List ℕ) (at start n : ℕ) (old new newer : List ℕ) → WritesTo text at start old new
    → WritesFirst n (take (length text - at) (drop at text)) new newer → WritesTo text (at + n) start old newer
writes_more text at start n old new newer so_far sliced =
    let all : take (length text - at) (drop at text) ≡ drop at text = take_all _ _ (omega (arith, length-drop at text)) in
    let P : List ℕ → Type 0 = λ bytes. WritesFirst n bytes new newer in
    goes_on text at start n old new newer so_far (subst P all sliced)

is_some : (text : List ℕ) → (length text == 0) ≡ false → 0 < length text
is_some [] some = absurd (true≢false some)
is_some (b ∷ text) some = omega arith

-- at the end all are
pub writes_all : (text : List ℕ) (at start : ℕ) (old new : List ℕ) → (length text == 0) ≡ false → WritesTo text at start old new → length text ≤ at
    → new ≡ old ++ escaped text
writes_all text at start old new some so_far end =
    so_far.written ∙ ap (λ x. old ++ flat_map spelling x) (take_all at text end) ∙ ap (λ x. old ++ x) (sym (escaped-some text (is_some text some)))
