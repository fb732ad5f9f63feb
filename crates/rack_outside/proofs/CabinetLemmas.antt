-- The texts under a name, after the first of them was found and perhaps taken away.
use Rattle.std.proofs.Common.{◌≡◌, ◌≢◌, ◌<◌, ◌≤◌, ℕ, ◌+◌, ◌-◌, suc, Bool, true, false, not, List, [], ◌∷◌, ◌++◌, length, take, drop, get_or, filter, map, position, Option, Some, None, is_some, refl, sym, ap, ◌∙◌, arith, add-one, append-nil, length-drop, length-take}
use Rattle.std.specs.List.{position_or_len}
use Rattle.std.specs.Str.{bytes_eq}
use Rattle.std.proofs.lemmas.Bool.{not-true, false_from_ne_true, false≢true, true≢false}
use Rattle.std.proofs.lemmas.Bool.Decides.{nat_tests}
use Rattle.std.proofs.lemmas.List.{append_assoc, map-append, get_or-take, take_all}
use Rattle.std.proofs.lemmas.List.Elements.{filter-append}
use Rattle.std.proofs.lemmas.List.Sums.{prefix_len_passes}
use Rattle.std.proofs.lemmas.List.Quantifiers.{position-Some}
use Rattle.std.proofs.lemmas.Slice.Eq.{bytes_eq-Decides}
use Rattle.std.proofs.Math.Seq.{split_at}
use Rattle.rack_outside.specs.Cabinet.{texts_under}
use Rattle.rack_outside.specs.OneText.{AnswersText}
use Rattle.rack_outside.specs.Files.{Turns, AnswersFrom, IsTurning, Shelf}
use Rattle.rack_outside.specs.declared.files.FileRead.{FileRead}
use Rattle.rack_outside.specs.declared.files.FileRead.TheVariants.{Text, Absent, Long, Failed}

-- nothing is kept of a list in which nothing passes
none_pass : {X : Type 0} (p : X → Bool) (d : X) (xs : List X) → ((k : ℕ) → k < length xs → p (get_or xs k d) ≡ false) → filter p xs ≡ []
none_pass p d [] fails = refl
none_pass p d (x ∷ xs) fails =
    let here : p x ≡ false = fails 0 (omega arith) in
    rw here (none_pass p d xs (λ k below. fails (suc k) (omega arith)))

-- the texts under a name go over joined lists
pub texts_under-append : (xs ys : List (List ℕ × List ℕ)) (name : List ℕ)
    → texts_under (xs ++ ys) name ≡ texts_under xs name ++ texts_under ys name
texts_under-append xs ys name = rw (filter-append, map-append) refl

-- where no text has the name, none is under it
pub none_under : (texts : List (List ℕ × List ℕ)) (name : List ℕ) → position (λ held. bytes_eq held.0 name) texts ≡ None
    → texts_under texts name ≡ []
none_under texts name e =
    let p : List ℕ × List ℕ → Bool = λ held. bytes_eq held.0 name in
    let past : length texts ≤ position_or_len p texts = grind (arith, nat_tests) in
    let none : filter p texts ≡ [] = none_pass p ([], []) texts (λ k below. not-true _ (prefix_len_passes (λ held. not (p held)) texts k ([], []) (omega arith))) in
    ap (map (λ (held : List ℕ × List ℕ). held.1)) none

-- none is under it before the first
none_before : (texts : List (List ℕ × List ℕ)) (name : List ℕ) (at : ℕ) → position (λ held. bytes_eq held.0 name) texts ≡ Some at
    → texts_under (take at texts) name ≡ []
none_before texts name at e =
    let p : List ℕ × List ℕ → Bool = λ held. bytes_eq held.0 name in
    let found = position-Some p texts at ([], []) e in
    let none : filter p (take at texts) ≡ [] = none_pass p ([], []) (take at texts) (λ k below.
    let early : k < at = omega (arith, length-take at texts) in
    get-or-take-is p texts at k early (found.2 k early)) in
    ap (map (λ (held : List ℕ × List ℕ). held.1)) none
  where
    get-or-take-is : (p : List ℕ × List ℕ → Bool) (texts : List (List ℕ × List ℕ)) (at k : ℕ) → k < at → p (get_or texts k ([], [])) ≡ false → p (get_or (take at texts) k ([], [])) ≡ false
    get-or-take-is p texts at k early fails = rw (get_or-take at texts k ([], []) early) fails

-- one text, under its name
one_under : (held : List ℕ × List ℕ) (name : List ℕ) → bytes_eq held.0 name ≡ true → texts_under (held ∷ []) name ≡ held.1 ∷ []
one_under held name e = rw e refl

-- and under another name
other_under : (held : List ℕ × List ℕ) (name : List ℕ) → bytes_eq held.0 name ≡ false → texts_under (held ∷ []) name ≡ []
other_under held name e = rw e refl

-- the texts, cut around one of them
cut_around : (texts : List (List ℕ × List ℕ)) (name : List ℕ) (at : ℕ) (d : List ℕ × List ℕ) → at < length texts
    → texts_under texts name ≡ (texts_under (take at texts) name ++ texts_under (get_or texts at d ∷ []) name) ++ texts_under (drop (at + 1) texts) name
cut_around texts name at d within =
    let held = get_or texts at d in
    let split : texts ≡ (take at texts ++ held ∷ []) ++ drop (at + 1) texts =
    rw add-one (split_at texts at d within ∙ sym (append_assoc (take at texts) (held ∷ []) (drop (suc at) texts))) in
    let under : List (List ℕ × List ℕ) → List (List ℕ) = λ xs. texts_under xs name in
    let outer = texts_under-append (take at texts ++ held ∷ []) (drop (at + 1) texts) name in
    let inner = texts_under-append (take at texts) (held ∷ []) name in
    ap under split ∙ (outer ∙ ap (λ (front : List (List ℕ)). front ++ texts_under (drop (at + 1) texts) name) inner)

-- the first text of a name, and the others behind it
pub first_under : (texts : List (List ℕ × List ℕ)) (name : List ℕ) (at : ℕ) (d : List ℕ × List ℕ)
    → position (λ held. bytes_eq held.0 name) texts ≡ Some at
    → texts_under texts name ≡ (get_or texts at d).1 ∷ texts_under (drop (at + 1) texts) name
first_under texts name at d e =
    let p : List ℕ × List ℕ → Bool = λ held. bytes_eq held.0 name in
    let found = position-Some p texts at d e in
    let around = cut_around texts name at d found.0 in
    let before = none_before texts name at e in
    let one = one_under (get_or texts at d) name found.1 in
    rw (around, before, one) refl

-- a text of this name is none of another
not_other : (bytes name other : List ℕ) → bytes_eq bytes name ≡ true → other ≢ name → bytes_eq bytes other ≡ false
not_other bytes name other same differs =
    let is_name : bytes ≡ name = (bytes_eq-Decides bytes name).0 same in
    false_from_ne_true (bytes_eq bytes other) (λ e.
    let is_other : bytes ≡ other = (bytes_eq-Decides bytes other).0 e in
    differs (sym is_other ∙ is_name))

-- the first text of a name was taken away, and another stands behind it
pub turns_moved : (texts : List (List ℕ × List ℕ)) (name : List ℕ) (at next : ℕ)
    → position (λ held. bytes_eq held.0 name) texts ≡ Some at
    → position (λ held. bytes_eq held.0 name) (drop (at + 1) texts) ≡ Some next
    → Turns name (texts_under texts) (texts_under (take at texts ++ drop (at + 1) texts))
turns_moved texts name at next e more =
    let p : List ℕ × List ℕ → Bool = λ held. bytes_eq held.0 name in
    let found = position-Some p texts at ([], []) e in
    let first = first_under texts name at ([], []) e in
    let second = first_under (drop (at + 1) texts) name next ([], []) more in
    let before = none_before texts name at e in (
      rw (texts_under-append, before, first, second) refl,
      λ other differs.
          let around = cut_around texts other at ([], []) found.0 in
          let none = other_under (get_or texts at ([], [])) other (not_other _ name other found.1 differs) in
          rw (texts_under-append, around, none, append-nil) refl,
    )

-- the only text of a name stays
pub turns_kept : (texts : List (List ℕ × List ℕ)) (name : List ℕ) (at : ℕ)
    → position (λ held. bytes_eq held.0 name) texts ≡ Some at
    → position (λ held. bytes_eq held.0 name) (drop (at + 1) texts) ≡ None
    → Turns name (texts_under texts) (texts_under texts)
turns_kept texts name at e none =
    let first = first_under texts name at ([], []) e in
    let rest = none_under (drop (at + 1) texts) name none in
    (rw (first, rest) refl, λ other differs. refl)

-- the answer that the first text gives is the answer of the texts
pub answers_first : (answer : FileRead) (limit : ℕ) (text : List ℕ) (texts more : List (List ℕ)) → texts ≡ text ∷ more
    → AnswersText answer limit text → AnswersFrom answer limit texts
answers_first (Text answered) limit text texts more e (fits, is) = (rw is fits, more, e ∙ ap (λ t. t ∷ more) (sym is))
answers_first Absent limit text texts more e none = elim none [ ]
answers_first Long limit text texts more e long = (text, more, e, long)
answers_first Failed limit text texts more e none = elim none [ ]

-- so the shelf of the name is turned
pub turning_of : (answer : FileRead) (limit : ℕ) (text name : List ℕ) (old new : Shelf) → AnswersText answer limit text
    → Turns name old new → IsTurning answer name old new
turning_of (Text answered) limit text name old new is turns = turns
turning_of Absent limit text name old new none turns = elim none [ ]
turning_of Long limit text name old new is turns = turns
turning_of Failed limit text name old new none turns = elim none [ ]

-- the same, by the answer of the search behind the first
pub turns_if_more : (texts : List (List ℕ × List ℕ)) (name : List ℕ) (at : ℕ) (next : Option ℕ)
    → position (λ held. bytes_eq held.0 name) texts ≡ Some at
    → next ≡ position (λ held. bytes_eq held.0 name) (drop (at + 1) texts) → is_some next ≡ true
    → Turns name (texts_under texts) (texts_under (take at texts ++ drop (at + 1) texts))
turns_if_more texts name at (Some next) e more is = turns_moved texts name at next e (sym more)
turns_if_more texts name at None e more is = absurd (false≢true is)

pub turns_if_last : (texts : List (List ℕ × List ℕ)) (name : List ℕ) (at : ℕ) (next : Option ℕ)
    → position (λ held. bytes_eq held.0 name) texts ≡ Some at
    → next ≡ position (λ held. bytes_eq held.0 name) (drop (at + 1) texts) → is_some next ≡ false
    → Turns name (texts_under texts) (texts_under texts)
turns_if_last texts name at (Some next) e none is = absurd (true≢false is)
turns_if_last texts name at None e none is = turns_kept texts name at e (sym none)

-- the rest of a list, as the code cuts it
pub rest_is : {X : Type 0} (n : ℕ) (xs : List X) → take (length xs - n) (drop n xs) ≡ drop n xs
rest_is n xs = take_all (length xs - n) (drop n xs) (omega (arith, length-drop n xs))

-- one more text under its name, and none under another
pub one_more_under : (texts : List (List ℕ × List ℕ)) (name text : List ℕ)
    → texts_under (texts ++ (name, text) ∷ []) name ≡ texts_under texts name ++ text ∷ []
one_more_under texts name text =
    let same = (bytes_eq-Decides name name).1 refl in
    rw (texts_under-append, one_under (name, text) name same) refl

pub no_more_under : (texts : List (List ℕ × List ℕ)) (name text other : List ℕ) → other ≢ name
    → texts_under (texts ++ (name, text) ∷ []) other ≡ texts_under texts other
no_more_under texts name text other differs =
    let same = (bytes_eq-Decides name name).1 refl in
    rw (texts_under-append, other_under (name, text) other (not_other name name other same differs), append-nil) refl
