-- The scan of bytes in two parts, and its states.
use Rattle.std.proofs.Common.{◌≡◌, ℕ, zero, suc, ◌+◌, ◌<◌, ◌≤◌, List, [], ◌∷◌, ◌++◌, length, take, Option, None, Some, option_map, refl, ap, sym, ◌∙◌, arith, ◌⊎◌, inl, inr, ◌≢◌, Bool, true, false}
use Rattle.message_framing.specs.Scan.{next, behind, one_more, ends, after_line_feed, after_return, after_letter}
use Rattle.message_framing.specs.declared.scan.Line.{Line}
use Rattle.message_framing.specs.declared.scan.Line.TheVariants.{Skipping, SkippingReturn, Text, Start, Return, Ended}
use Rattle.message_framing.specs.HeadText.{skipped}
use Rattle.message_framing.proofs.HeadTextLemmas.{add_zero, add_suc, feed, return, letter, kind_of}

-- a byte ends the head text, or the rest decides
one_more_cases : (l : Line) → ((o : Option ℕ) → one_more l o ≡ Some 1) ⊎ ((o : Option ℕ) → one_more l o ≡ option_map suc o)
one_more_cases Skipping = inr (λ o. refl)
one_more_cases SkippingReturn = inr (λ o. refl)
one_more_cases Text = inr (λ o. refl)
one_more_cases Start = inr (λ o. refl)
one_more_cases Return = inr (λ o. refl)
one_more_cases Ended = inl (λ o. refl)

none_before : (o : Option ℕ) → option_map suc o ≡ None → o ≡ None
none_before None is = refl
none_before (Some n) is = cc

some_before : (o : Option ℕ) (n : ℕ) → option_map suc o ≡ Some n → (m : ℕ) × (o ≡ Some m) × (n ≡ suc m)
some_before None n is = cc
some_before (Some m) n is = (m, refl, cc)

-- the scan of two pieces: where the end is not in the first, it is where the second has it
pub ends_append : (line : Line) (a b : List ℕ) → ends line a ≡ None → ends line (a ++ b) ≡ option_map (λ n. length a + n) (ends (behind line a) b)
unfolding ends behind
ends_append line [] b none = add_zero (ends line b)
ends_append line (x ∷ a) b none = elim (one_more_cases (next line x)) [
  | inl ended ↦ absurd (let h : Some 1 ≡ None = sym (ended (ends (next line x) a)) ∙ none in cc)
  | inr later ↦
      let before : ends (next line x) a ≡ None = none_before _ (sym (later _) ∙ none) in
      later _ ∙ ap (option_map suc) (ends_append (next line x) a b before) ∙ add_suc _ _
]

-- an end that was found stays
pub ends_stays : (line : Line) (a b : List ℕ) (n : ℕ) → ends line a ≡ Some n → ends line (a ++ b) ≡ Some n
unfolding ends
ends_stays line [] b n is = cc
ends_stays line (x ∷ a) b n is = elim (one_more_cases (next line x)) [
  | inl ended ↦ ended _ ∙ sym (ended _) ∙ is
  | inr later ↦
      let before = some_before _ n (sym (later (ends (next line x) a)) ∙ is) in
      later _ ∙ ap (option_map suc) (ends_stays (next line x) a b before.0 before.1) ∙ ap Some (sym before.2)
]

-- an end lies within the bytes
pub ends_within : (line : Line) (a : List ℕ) (n : ℕ) → ends line a ≡ Some n → (0 < n) × (n ≤ length a)
unfolding ends
ends_within line [] n is = cc
ends_within line (x ∷ a) n is = elim (one_more_cases (next line x)) [
  | inl ended ↦ (let one : Some 1 ≡ Some n = sym (ended (ends (next line x) a)) ∙ is in let same : 1 ≡ n = cc in (omega arith, omega arith))
  | inr later ↦
      let before = some_before _ n (sym (later (ends (next line x) a)) ∙ is) in
      let within : (0 < before.0) × (before.0 ≤ length a) = ends_within (next line x) a before.0 before.1 in
      (omega (arith, before.2), omega (arith, before.2, within.1))
]

-- a prefix that holds the end shows it
pub ends_take : (line : Line) (a : List ℕ) (n m : ℕ) → ends line a ≡ Some n → n ≤ m → ends line (take m a) ≡ Some n
unfolding ends
ends_take line [] n m is fits = cc
ends_take line (x ∷ a) n zero is fits = absurd (omega (arith, (ends_within line (x ∷ a) n is).0))
ends_take line (x ∷ a) n (suc m) is fits = elim (one_more_cases (next line x)) [
  | inl ended ↦ ended _ ∙ sym (ended _) ∙ is
  | inr later ↦
      let before = some_before _ n (sym (later (ends (next line x) a)) ∙ is) in
      let below : before.0 ≤ m = omega (arith, before.2) in
      later _ ∙ ap (option_map suc) (ends_take (next line x) a before.0 m before.1 below) ∙ ap Some (sym before.2)
]

-- the line behind two pieces
pub behind_append : (line : Line) (a b : List ℕ) → behind line (a ++ b) ≡ behind (behind line a) b
unfolding behind
behind_append line [] b = refl
behind_append line (x ∷ a) b = behind_append (next line x) a b

-- the scan has left the empty lines at the front
abbrev has_left : Line → Bool
has_left Skipping = false
has_left SkippingReturn = false
has_left Text = true
has_left Start = true
has_left Return = true
has_left Ended = true

-- it never comes back to them
left_next : (line : Line) (b : ℕ) → has_left line ≡ true → has_left (next line b) ≡ true
left_next line b left = elim (kind_of b) [
  | feed is ↦ rw is (fed_left line left)
  | return nofeed is ↦ rw (nofeed, is) (returned_left line left)
  | letter nofeed noreturn ↦ rw (nofeed, noreturn) (lettered_left line left)
]
  where
    fed_left : (line : Line) → has_left line ≡ true → has_left (after_line_feed line) ≡ true
    fed_left Skipping left = left
    fed_left SkippingReturn left = left
    fed_left Text left = refl
    fed_left Start left = refl
    fed_left Return left = refl
    fed_left Ended left = refl

    returned_left : (line : Line) → has_left line ≡ true → has_left (after_return line) ≡ true
    returned_left Skipping left = left
    returned_left SkippingReturn left = refl
    returned_left Text left = refl
    returned_left Start left = refl
    returned_left Return left = refl
    returned_left Ended left = refl

    lettered_left : (line : Line) → has_left line ≡ true → has_left (after_letter line) ≡ true
    lettered_left Skipping left = refl
    lettered_left SkippingReturn left = refl
    lettered_left Text left = refl
    lettered_left Start left = refl
    lettered_left Return left = refl
    lettered_left Ended left = refl

left_stays : (line : Line) (b : List ℕ) → has_left line ≡ true → has_left (behind line b) ≡ true
unfolding behind
left_stays line [] left = left
left_stays line (x ∷ b) left = left_stays (next line x) b (left_next line x left)

not_back : (line : Line) (b : List ℕ) → has_left line ≡ true → behind line b ≢ Skipping
not_back line b left = λ back. (let clash : true ≡ false = sym (left_stays line b left) ∙ ap has_left back in cc)

-- once the head text has ended, the scan stays at its end
pub behind_ended : (b : List ℕ) → behind Ended b ≡ Ended
unfolding behind
behind_ended [] = refl
behind_ended (x ∷ b) = ap (λ (l : Line). behind l b) (stays x) ∙ behind_ended b
  where
    stays : (x : ℕ) → next Ended x ≡ Ended
    stays x = elim (kind_of x) [
      | feed is ↦ rw is refl
      | return nofeed is ↦ rw (nofeed, is) refl
      | letter nofeed noreturn ↦ rw (nofeed, noreturn) refl
    ]

-- a byte ends the head text, and the scan is at its end, or the rest decides
ended_or_later : (l : Line) → (l ≡ Ended) ⊎ ((o : Option ℕ) → one_more l o ≡ option_map suc o)
ended_or_later Skipping = inr (λ o. refl)
ended_or_later SkippingReturn = inr (λ o. refl)
ended_or_later Text = inr (λ o. refl)
ended_or_later Start = inr (λ o. refl)
ended_or_later Return = inr (λ o. refl)
ended_or_later Ended = inl refl

-- where an end is found, the scan is at it
pub ended_behind : (line : Line) (b : List ℕ) (n : ℕ) → ends line b ≡ Some n → behind line b ≡ Ended
unfolding ends behind
ended_behind line [] n is = cc
ended_behind line (x ∷ b) n is = elim (ended_or_later (next line x)) [
  | inl ended ↦ ap (λ (l : Line). behind l b) ended ∙ behind_ended b
  | inr later ↦ (let before = some_before _ n (sym (later (ends (next line x) b)) ∙ is) in ended_behind (next line x) b before.0 before.1)
]

-- the scan is among empty lines exactly where nothing else came
pub skipping_is : (b : List ℕ) → behind Skipping b ≡ Skipping → skipped b ≡ length b
unfolding behind skipped
skipping_is [] is = refl
skipping_is (x ∷ []) is = elim (kind_of x) [
  | feed here ↦ rw here refl
  | return nofeed here ↦ (let clash : SkippingReturn ≡ Skipping = rw (nofeed, here) at is in cc)
  | letter nofeed noreturn ↦ (let clash : Text ≡ Skipping = rw (nofeed, noreturn) at is in cc)
]
skipping_is (x ∷ c ∷ r) is = elim (kind_of x) [
  | feed here ↦
      let on : behind Skipping (c ∷ r) ≡ Skipping = rw here at is in
      let rest : skipped (c ∷ r) ≡ length (c ∷ r) = skipping_is (c ∷ r) on in
      rw here (ap suc rest ∙ omega arith)
  | return nofeed here ↦ elim (kind_of c) [
    | feed after ↦
        let on : behind Skipping r ≡ Skipping = rw (nofeed, here, after) at is in
        let rest : skipped r ≡ length r = skipping_is r on in
        rw (nofeed, here, after) (omega (arith, rest))
    | return nofeed_after after ↦
        (let on : behind Text r ≡ Skipping = rw (nofeed, here, nofeed_after, after) at is in absurd (not_back Text r refl on))
    | letter nofeed_after noreturn_after ↦
        (let on : behind Text r ≡ Skipping = rw (nofeed, here, nofeed_after, noreturn_after) at is in absurd (not_back Text r refl on))
  ]
  | letter nofeed noreturn ↦
      (let on : behind Text (c ∷ r) ≡ Skipping = rw (nofeed, noreturn) at is in absurd (not_back Text (c ∷ r) refl on))
]

pub not_skipping : (b : List ℕ) → behind Skipping b ≢ Skipping → skipped b < length b
unfolding behind skipped
not_skipping [] other = absurd (other refl)
not_skipping (x ∷ []) other = elim (kind_of x) [
  | feed here ↦ absurd (other (rw here refl))
  | return nofeed here ↦ rw nofeed (omega arith)
  | letter nofeed noreturn ↦ rw nofeed (omega arith)
]
not_skipping (x ∷ c ∷ r) other = elim (kind_of x) [
  | feed here ↦
      let rest : skipped (c ∷ r) < length (c ∷ r) = not_skipping (c ∷ r) (λ on. other (rw here on)) in
      rw here (omega (arith, rest))
  | return nofeed here ↦ elim (kind_of c) [
    | feed after ↦
        let rest : skipped r < length r = not_skipping r (λ on. other (rw (nofeed, here, after) on)) in
        rw (nofeed, here, after) (omega (arith, rest))
    | return nofeed_after after ↦ rw (nofeed, here, nofeed_after) (omega arith)
    | letter nofeed_after noreturn_after ↦ rw (nofeed, here, nofeed_after) (omega arith)
  ]
  | letter nofeed noreturn ↦ rw (nofeed, noreturn) (omega arith)
]
