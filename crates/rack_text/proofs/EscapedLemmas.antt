-- Spellings of bytes, one behind the other.
use Rattle.std.proofs.Common.{◌≡◌, ◌≢◌, ℕ, ◌+◌, ◌≤◌, ◌<◌, true, List, [], ◌∷◌, ◌++◌, length, drop, get_or, Option, None, Some, refl, arith, ap, sym, subst, ◌∙◌, append_assoc, drop-drop, append-nil, length-drop}
use Rattle.std.proofs.lemmas.Bool.{ne_eqb}
use Rattle.std.proofs.lemmas.List.{drop_more, drop_all}
use Rattle.rack_text.specs.Escaped.{ReadsFirst, Unescapes, before, hex_byte, letter_byte, plain_byte, spelled, spelled_behind, spelled_hex}

-- a text that is there goes on behind these bytes
abbrev pub behind_all : List ℕ → Option (List ℕ) → Option (List ℕ)
behind_all done None = None
behind_all done (Some text) = Some (done ++ text)

-- the bytes before a place of the word are spellings of what was appended
pub record ReadsTo (word : List ℕ) (at start : ℕ) (old new : List ℕ) : Type 0 where
  pub within : at ≤ length word
  pub done : List ℕ
  pub start_is : start ≡ length old
  pub appended : new ≡ old ++ done
  pub spelled_is : spelled word ≡ behind_all done (spelled (drop at word))

pub spelled-other : (b : ℕ) (rest : List ℕ) → b ≢ 92 → spelled (b ∷ rest) ≡ before (plain_byte b) (spelled rest)
unfolding spelled
spelled-other b rest other = rw (ne_eqb b 92 other) refl

spelled-backslash : (b : ℕ) (rest : List ℕ) → b ≡ 92 → spelled (b ∷ rest) ≡ spelled_behind rest
unfolding spelled
spelled-backslash b rest is = rw is refl

pub spelled-none : spelled [] ≡ Some []
unfolding spelled
spelled-none = refl

behind-none : spelled_behind [] ≡ None
unfolding spelled
behind-none = refl

behind-other : (c : ℕ) (rest : List ℕ) → c ≢ 120 → spelled_behind (c ∷ rest) ≡ before (letter_byte c) (spelled rest)
unfolding spelled
behind-other c rest other = rw (ne_eqb c 120 other) refl

behind-x : (c : ℕ) (rest : List ℕ) → c ≡ 120 → spelled_behind (c ∷ rest) ≡ spelled_hex rest
unfolding spelled
behind-x c rest is = rw is refl

hex-two : (high low : ℕ) (rest : List ℕ) → spelled_hex (high ∷ low ∷ rest) ≡ before (hex_byte high low) (spelled rest)
unfolding spelled
hex-two high low rest = refl

hex-fewer : (bytes : List ℕ) → length bytes < 2 → spelled_hex bytes ≡ None
unfolding spelled
hex-fewer [] few = refl
hex-fewer (high ∷ []) few = refl
hex-fewer (high ∷ low ∷ rest) few = absurd (omega arith)

-- by the first byte of the bytes
pub spelled_at-other : (bytes : List ℕ) → 0 < length bytes → get_or bytes 0 0 ≢ 92
    → spelled bytes ≡ before (plain_byte (get_or bytes 0 0)) (spelled (drop 1 bytes))
spelled_at-other [] some other = absurd (omega arith)
spelled_at-other (b ∷ rest) some other = spelled-other b rest other

pub spelled_at-backslash : (bytes : List ℕ) → 0 < length bytes → get_or bytes 0 0 ≡ 92 → spelled bytes ≡ spelled_behind (drop 1 bytes)
spelled_at-backslash [] some is = absurd (omega arith)
spelled_at-backslash (b ∷ rest) some is = spelled-backslash b rest is

-- by the second
pub behind_at-none : (bytes : List ℕ) → length bytes < 2 → spelled_behind (drop 1 bytes) ≡ None
behind_at-none bytes few = rw (drop_all 1 bytes (omega arith)) behind-none

pub behind_at-other : (bytes : List ℕ) → 2 ≤ length bytes → get_or bytes 1 0 ≢ 120
    → spelled_behind (drop 1 bytes) ≡ before (letter_byte (get_or bytes 1 0)) (spelled (drop 2 bytes))
behind_at-other bytes two other = rw (drop_more bytes 1 0 (omega arith)) (behind-other _ _ other)

pub behind_at-x : (bytes : List ℕ) → 2 ≤ length bytes → get_or bytes 1 0 ≡ 120 → spelled_behind (drop 1 bytes) ≡ spelled_hex (drop 2 bytes)
behind_at-x bytes two is = rw (drop_more bytes 1 0 (omega arith)) (behind-x _ _ is)

-- by the third and the fourth
pub hex_at-none : (bytes : List ℕ) → length bytes < 4 → spelled_hex (drop 2 bytes) ≡ None
hex_at-none bytes few = hex-fewer (drop 2 bytes) (omega (arith, length-drop 2 bytes))

pub hex_at-two : (bytes : List ℕ) → 4 ≤ length bytes
    → spelled_hex (drop 2 bytes) ≡ before (hex_byte (get_or bytes 2 0) (get_or bytes 3 0)) (spelled (drop 4 bytes))
hex_at-two bytes four = rw (drop_more bytes 2 0 (omega arith), drop_more bytes 3 0 (omega arith)) (hex-two _ _ _)

-- where a first spelling is read
pub reads_byte : (text : Option (List ℕ)) (bytes : List ℕ) (byte : Option ℕ) (b n : ℕ) → text ≡ before byte (spelled (drop n bytes))
    → Some b ≡ byte → 0 < n → n ≤ length bytes → ReadsFirst (Some (b, n)) text bytes
reads_byte text bytes byte b n is read some fits = (is ∙ ap (λ x. before x (spelled (drop n bytes))) (sym read), some, fits)

-- where there is none
pub reads_none : (text rest : Option (List ℕ)) (bytes : List ℕ) (byte : Option ℕ) → text ≡ before byte rest → None ≡ byte → ReadsFirst None text bytes
reads_none text rest bytes byte is read = is ∙ ap (λ x. before x rest) (sym read)

-- a text by another name
pub reads_as : (result : Option (ℕ × ℕ)) (text other : Option (List ℕ)) (bytes : List ℕ) → text ≡ other → ReadsFirst result other bytes → ReadsFirst result text bytes
reads_as result text other bytes is reads = let P : Option (List ℕ) → Type 0 = λ t. ReadsFirst result t bytes in subst P (sym is) reads

pub reads_start : (word old : List ℕ) → ReadsTo word 0 (length old) old old
reads_start word old = record {
  within = omega arith;
  done = [];
  start_is = refl;
  appended = sym (append-nil old);
  spelled_is = starts (spelled word);
}
  where
    starts : (text : Option (List ℕ)) → text ≡ behind_all [] text
    starts None = refl
    starts (Some text) = refl

more : (done : List ℕ) (b : ℕ) (text : Option (List ℕ)) → behind_all done (before (Some b) text) ≡ behind_all (done ++ (b ∷ [])) text
more done b None = refl
more done b (Some text) = ap Some (sym (append_assoc done (b ∷ []) text))

-- one more spelling was read, and its byte appended
pub reads_more : (word : List ℕ) (at start : ℕ) (old new : List ℕ) (b n : ℕ) → ReadsTo word at start old new
    → ReadsFirst (Some (b, n)) (spelled (drop at word)) (drop at word) → ReadsTo word (at + n) start old (new ++ (b ∷ []))
reads_more word at start old new b n so_far first = record {
  within = omega (arith, so_far.within, first.2, length-drop at word);
  done = so_far.done ++ (b ∷ []);
  start_is = so_far.start_is;
  appended = ap (λ x. x ++ (b ∷ [])) so_far.appended ∙ append_assoc old so_far.done (b ∷ []);
  spelled_is = so_far.spelled_is ∙ ap (behind_all so_far.done) (first.0 ∙ ap (λ rest. before (Some b) (spelled rest)) (drop-drop n at word))
      ∙ more so_far.done b (spelled (drop (at + n) word));
}

-- at the end the whole text is appended
pub reads_all : (word : List ℕ) (at start : ℕ) (old new : List ℕ) → ReadsTo word at start old new → length word ≤ at → Unescapes true (spelled word) old new
reads_all word at start old new so_far end =
    let spelled_is : spelled word ≡ Some (so_far.done ++ []) =
    so_far.spelled_is ∙ ap (λ rest. behind_all so_far.done (spelled rest)) (drop_all at word end) ∙ ap (behind_all so_far.done) spelled-none in
    let P : Option (List ℕ) → Type 0 = λ text. Unescapes true text old new in
    subst P (sym spelled_is) (so_far.appended ∙ ap (λ x. old ++ x) (sym (append-nil so_far.done)))
