-- What the search for the end of a head text goes over.
use Rattle.std.proofs.Common.{◌≡◌, ◌≢◌, ℕ, suc, ◌+◌, ◌<◌, ◌≤◌, Bool, true, false, ◌&&◌, ◌==◌, nat_eq, nat_lt, List, [], ◌∷◌, ◌++◌, length, take, drop, get_or, Option, None, Some, option_map, if◌then◌else◌, refl, ap, sym, ◌∙◌, subst, arith, inl, inr, drop-cons, add-one}
use Rattle.std.proofs.lemmas.List.{drop_all, drop-drop, length-drop}
use Rattle.std.specs.List.{starts_with}
use Rattle.message_framing.specs.HeadText.{empty_line, skipped, lines_end, head_len}
use Rattle.std.proofs.lemmas.Bool.Decides.{eqb_tells, Decides-eqb}
use Rattle.std.proofs.lemmas.Slice.Eq.{starts_is}
use Rattle.std.proofs.lemmas.Bool.{lt-ltb, le-ltb, eq-eqb}
use Rattle.puma_ctl.proofs.HeadLemmas.{bool_cases, empty_feed}

-- the empty line at the front, by what the bytes start with
pub empty_first : (b : List ℕ) → starts_with nat_eq b (10 ∷ []) ≡ true → empty_line b ≡ 1
empty_first b starts =
    let is : b ≡ 10 ∷ drop 1 b = (starts_is Decides-eqb b (10 ∷ []) (starts_with nat_eq b (10 ∷ [])) refl).0 starts in
    ap empty_line is ∙ empty_feed 10 (drop 1 b) refl

pub empty_second : (b : List ℕ) → starts_with nat_eq b (13 ∷ 10 ∷ []) ≡ true → empty_line b ≡ 2
unfolding empty_line
empty_second b starts =
    let is : b ≡ 13 ∷ 10 ∷ drop 2 b = (starts_is Decides-eqb b (13 ∷ 10 ∷ []) (starts_with nat_eq b (13 ∷ 10 ∷ [])) refl).0 starts in
    ap empty_line is

first_other : (x : ℕ) (r : List ℕ) → starts_with nat_eq (x ∷ r) (10 ∷ []) ≡ false → (x == 10) ≡ false
first_other x r none = elim (eqb_tells x 10) [
  | inl is ↦
      let here : x ∷ r ≡ (10 ∷ []) ++ r = ap (λ (k : ℕ). k ∷ r) is.1 in
      let starts = (starts_is Decides-eqb (x ∷ r) (10 ∷ []) (starts_with nat_eq (x ∷ r) (10 ∷ [])) refl).1 r here in
      cc
  | inr isnt ↦ isnt.0
]

second_other : (x y : ℕ) (r : List ℕ) → starts_with nat_eq (x ∷ y ∷ r) (13 ∷ 10 ∷ []) ≡ false → ((x == 13) && (y == 10)) ≡ false
second_other x y r none = elim (eqb_tells x 13) [
  | inl is ↦ elim (eqb_tells y 10) [
    | inl too ↦
        let here : x ∷ y ∷ r ≡ (13 ∷ 10 ∷ []) ++ r = ap (λ (k : ℕ). k ∷ y ∷ r) is.1 ∙ ap (λ (k : ℕ). 13 ∷ k ∷ r) too.1 in
        let starts = (starts_is Decides-eqb (x ∷ y ∷ r) (13 ∷ 10 ∷ []) (starts_with nat_eq (x ∷ y ∷ r) (13 ∷ 10 ∷ [])) refl).1 r here in
        absurd (let clash : true ≡ false = sym starts ∙ none in cc)
    | inr other ↦ rw (is.0, other.0) refl
  ]
  | inr isnt ↦ rw isnt.0 refl
]

pub empty_none : (b : List ℕ) → starts_with nat_eq b (10 ∷ []) ≡ false → starts_with nat_eq b (13 ∷ 10 ∷ []) ≡ false → empty_line b ≡ 0
unfolding empty_line
empty_none [] first second = refl
empty_none (x ∷ []) first second = rw (first_other x [] first) refl
empty_none (x ∷ y ∷ r) first second = rw (first_other x (y ∷ r) first, second_other x y r second) refl

-- an empty line more is skipped
pub skip_one : (b : List ℕ) → 0 < empty_line b → skipped b ≡ empty_line b + skipped (drop (empty_line b) b)
unfolding empty_line skipped
skip_one [] some = absurd (omega arith)
skip_one (b ∷ []) some = elim (bool_cases (b == 10)) [ inl here ↦ rw here refl | inr other ↦ absurd (omega (arith, rw other at some)) ]
skip_one (b ∷ d ∷ r) some = elim (bool_cases (b == 10)) [
  | inl here ↦ rw here (omega arith)
  | inr other ↦ elim (bool_cases ((b == 13) && (d == 10))) [
    | inl two ↦ rw (other, two) (omega arith)
    | inr none ↦ absurd (omega (arith, rw (other, none) at some))
  ]
]

-- without one nothing is
pub skip_none : (b : List ℕ) → empty_line b ≡ 0 → skipped b ≡ 0
unfolding empty_line skipped
skip_none [] none = refl
skip_none (b ∷ []) none = elim (bool_cases (b == 10)) [ inl here ↦ absurd (omega (arith, rw here at none)) | inr other ↦ rw other refl ]
skip_none (b ∷ d ∷ r) none = elim (bool_cases (b == 10)) [
  | inl here ↦ absurd (omega (arith, rw here at none))
  | inr other ↦ elim (bool_cases ((b == 13) && (d == 10))) [
    | inl two ↦ absurd (omega (arith, rw (other, two) at none))
    | inr never ↦ rw (other, never) refl
  ]
]

-- empty lines were skipped up to this place
pub record IsSkipped (bytes : List ℕ) (at : ℕ) : Type 0 where
  pub within : at ≤ length bytes
  pub same : skipped bytes ≡ at + skipped (drop at bytes)

-- no end was found up to this place
pub record IsSearched (text : List ℕ) (at : ℕ) : Type 0 where
  pub within : at ≤ length text
  pub same : lines_end text ≡ option_map (λ n. at + n) (lines_end (drop at text))

add_more : (i : ℕ) (o : Option ℕ) → option_map (λ n. i + n) (option_map suc o) ≡ option_map (λ n. i + 1 + n) o
add_more i None = refl
add_more i (Some n) = ap Some (omega arith)

zero_more : (o : Option ℕ) → o ≡ option_map (λ n. 0 + n) o
zero_more None = refl
zero_more (Some n) = ap Some (omega arith)

pub searched_first : (text : List ℕ) → IsSearched text 0
searched_first text = record { within = omega arith; same = zero_more (lines_end text) }

-- one step
line_step : (x : ℕ) (r : List ℕ) → lines_end (x ∷ r)
    ≡ (if (x == 10) && nat_lt 0 (empty_line r) then Some (suc (empty_line r)) else option_map suc (lines_end r))
unfolding lines_end
line_step x r = refl

searched_past : (text : List ℕ) (at : ℕ) → IsSearched text at → at < length text
    → ((get_or text at 0 == 10) && nat_lt 0 (empty_line (drop (suc at) text))) ≡ false → IsSearched text (at + 1)
searched_past text at h below none =
    let split : drop at text ≡ get_or text at 0 ∷ drop (suc at) text = drop-cons text at 0 below in
    let step : lines_end (drop at text) ≡ option_map suc (lines_end (drop (suc at) text)) = ap lines_end split ∙ line_step _ _ ∙ rw none refl in
    record {
      within = omega arith;
      same = h.same ∙ ap (option_map (λ n. at + n)) step ∙ add_more at (lines_end (drop (suc at) text)) ∙ rw add-one refl;
    }

pub searched_other : (text : List ℕ) (at : ℕ) → IsSearched text at → at < length text → get_or text at 0 ≢ 10 → IsSearched text (at + 1)
searched_other text at h below other =
    let test : (get_or text at 0 == 10) ≡ false = elim (eqb_tells (get_or text at 0) 10) [ inl is ↦ absurd (other is.1) | inr isnt ↦ isnt.0 ] in
    searched_past text at h below (rw test refl)

and_false : (t : Bool) → (t && false) ≡ false
and_false true = refl
and_false false = refl

pub searched_none : (text : List ℕ) (at n : ℕ) → IsSearched text at → at < length text → n ≡ empty_line (drop (at + 1) text) → n ≤ 0 → IsSearched text (at + 1)
searched_none text at n h below is none =
    let zero_is : empty_line (drop (suc at) text) ≤ 0 = rw (← add-one at) (rw (← is) none) in
    searched_past text at h below (rw (le-ltb 0 (empty_line (drop (suc at) text)) zero_is) (and_false (get_or text at 0 == 10)))

pub searched_found : (text : List ℕ) (at n : ℕ) → IsSearched text at → at < length text → get_or text at 0 ≡ 10
    → n ≡ empty_line (drop (at + 1) text) → 0 < n → lines_end text ≡ Some (at + 1 + n)
searched_found text at n h below feed is some =
    let split : drop at text ≡ get_or text at 0 ∷ drop (suc at) text = drop-cons text at 0 below in
    let n_is : empty_line (drop (suc at) text) ≡ n = sym (rw (← add-one at) is) in
    let step : lines_end (drop at text) ≡ Some (suc n) = ap lines_end split ∙ line_step _ _
    ∙ rw (eq-eqb (get_or text at 0) 10 feed, n_is, lt-ltb 0 n some) refl in
    h.same ∙ ap (option_map (λ n. at + n)) step ∙ ap Some (omega arith)

pub searched_out : (text : List ℕ) (at : ℕ) → IsSearched text at → length text ≤ at → lines_end text ≡ None
unfolding lines_end
searched_out text at h past = h.same ∙ rw (drop_all at text past) refl

-- the empty lines in front, one behind the other
pub skipped_first : (bytes : List ℕ) → IsSkipped bytes 0
skipped_first bytes = record { within = omega arith; same = omega arith }

pub skipped_on : (bytes : List ℕ) (at n : ℕ) → IsSkipped bytes at → n ≡ empty_line (drop at bytes) → n ≢ 0 → n ≤ length (drop at bytes)
    → IsSkipped bytes (at + n)
skipped_on bytes at n h is some fits =
    let more : skipped (drop at bytes) ≡ empty_line (drop at bytes) + skipped (drop (empty_line (drop at bytes)) (drop at bytes)) =
    skip_one (drop at bytes) (omega (arith, is, some)) in
    let next : skipped (drop at bytes) ≡ n + skipped (drop (at + n) bytes) =
    more ∙ ap (λ (k : ℕ). k + skipped (drop k (drop at bytes))) (sym is) ∙ ap (λ (w : List ℕ). n + skipped w) (drop-drop n at bytes) in
    record { within = omega (arith, fits, length-drop at bytes, h.within); same = h.same ∙ omega (arith, next) }

pub skipped_over : (bytes : List ℕ) (at n : ℕ) → IsSkipped bytes at → n ≡ empty_line (drop at bytes) → n ≡ 0 → at ≡ skipped bytes
skipped_over bytes at n h is none = omega (arith, h.same, skip_none (drop at bytes) (sym is ∙ none))

-- the end of the head text, as the code finds it
pub end_is : (b t : List ℕ) (s : ℕ) (o : Option ℕ) → s ≡ skipped b → t ≡ drop s b → o ≡ lines_end t → option_map (λ n. s + n) o ≡ head_len b
unfolding head_len
end_is b t s o s_is t_is o_is =
    ap (option_map (λ n. s + n)) (o_is ∙ ap lines_end t_is) ∙ ap (λ (k : ℕ). option_map (λ n. k + n) (lines_end (drop k b))) s_is
