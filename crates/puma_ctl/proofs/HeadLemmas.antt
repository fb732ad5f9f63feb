-- Where the head text ends: it stays there, whatever follows.
use Rattle.std.proofs.Common.{◌≡◌, ℕ, zero, suc, ◌+◌, ◌-◌, ◌<◌, ◌≤◌, Bool, true, false, ◌&&◌, ◌==◌, nat_lt, List, [], ◌∷◌, ◌++◌, length, take, drop, Option, None, Some, option_map, if◌then◌else◌, refl, ap, sym, ◌∙◌, subst, arith, ◌⊎◌, inl, inr, length-append, length-drop, length-take}
use Rattle.std.proofs.lemmas.List.{take-append-le, drop-append-le}
use Rattle.std.proofs.Math.Seq.{take-append-add}
use Rattle.message_framing.specs.HeadText.{empty_line, skipped, lines_end, head_len}
use Rattle.message_framing.specs.Request.{head_limit, head_within}

pub bool_cases : (b : Bool) → (b ≡ true) ⊎ (b ≡ false)
bool_cases true = inl refl
bool_cases false = inr refl

pub some_before : (o : Option ℕ) (n : ℕ) → option_map suc o ≡ Some n → (m : ℕ) × (o ≡ Some m) × (n ≡ suc m)
some_before None n is = cc
some_before (Some m) n is = (m, refl, cc)

-- one step of the search for the end: this place, or one further
on_or_here : (test : Bool) (k : ℕ) (o p : Option ℕ) (n : ℕ) → ((m : ℕ) → o ≡ Some m → p ≡ Some m)
    → (if test then Some k else option_map suc o) ≡ Some n → (if test then Some k else option_map suc p) ≡ Some n
on_or_here true k o p n on is = is
on_or_here false k o p n on is =
    let before = some_before o n is in
    ap (option_map suc) (on before.0 before.1) ∙ ap Some (sym before.2)

-- a line feed is an empty line, whatever follows
pub empty_feed : (b : ℕ) (c : List ℕ) → (b == 10) ≡ true → empty_line (b ∷ c) ≡ 1
unfolding empty_line
empty_feed b [] here = rw here refl
empty_feed b (d ∷ c) here = rw here refl

-- one byte has no end
one_has_none : (b : ℕ) → lines_end (b ∷ []) ≡ None
unfolding lines_end empty_line
one_has_none b = elim (bool_cases (b == 10)) [ inl here ↦ rw here refl | inr other ↦ rw other refl ]

nil_has_none : lines_end [] ≡ None
unfolding lines_end
nil_has_none = refl

no_some : (o : Option ℕ) (n : ℕ) → o ≡ None → o ≡ Some n → ⊥
no_some o n none some = cc

pub lines_stay : (a c : List ℕ) (n : ℕ) → lines_end a ≡ Some n → lines_end (a ++ c) ≡ Some n
unfolding lines_end empty_line
lines_stay [] c n is = cc
lines_stay (x ∷ []) c n is = absurd (no_some (lines_end (x ∷ [])) n (one_has_none x) is)
lines_stay (x ∷ b ∷ []) c n is = elim (bool_cases (b == 10)) [
  | inl here ↦
      let one : empty_line (b ∷ []) ≡ 1 = empty_feed b [] here in
      let still : empty_line (b ∷ c) ≡ 1 = empty_feed b c here in
      let was : (if (x == 10) && true then Some 2 else option_map suc (lines_end (b ∷ []))) ≡ Some n =
      subst (λ (e : ℕ). (if (x == 10) && nat_lt 0 e then Some (suc e) else option_map suc (lines_end (b ∷ []))) ≡ Some n) one is in
      subst (λ (e : ℕ). (if (x == 10) && nat_lt 0 e then Some (suc e) else option_map suc (lines_end (b ∷ c))) ≡ Some n) (sym still)
      (on_or_here ((x == 10) && true) 2 (lines_end (b ∷ [])) (lines_end (b ∷ c)) n (λ m e. absurd (no_some (lines_end (b ∷ [])) m (one_has_none b) e)) was)
  | inr other ↦
      let none : empty_line (b ∷ []) ≡ 0 = rw other refl in
      let was : (if (x == 10) && false then Some 1 else option_map suc (lines_end (b ∷ []))) ≡ Some n =
      subst (λ (e : ℕ). (if (x == 10) && nat_lt 0 e then Some (suc e) else option_map suc (lines_end (b ∷ []))) ≡ Some n) none is in
      absurd (never (x == 10) n was)
]
  where
    never : (t : Bool) (n : ℕ) → (if t && false then Some 1 else option_map suc (lines_end (b ∷ []))) ≡ Some n → ⊥
    never true n was = no_some (option_map suc (lines_end (b ∷ []))) n (ap (option_map suc) (one_has_none b)) was
    never false n was = no_some (option_map suc (lines_end (b ∷ []))) n (ap (option_map suc) (one_has_none b)) was
lines_stay (x ∷ b ∷ d ∷ r) c n is =
    on_or_here ((x == 10) && nat_lt 0 (empty_line (b ∷ d ∷ r))) (suc (empty_line (b ∷ d ∷ r))) (lines_end (b ∷ d ∷ r)) (lines_end (b ∷ d ∷ (r ++ c))) n
    (λ m e. lines_stay (b ∷ d ∷ r) c m e) is

-- an empty line lies within the bytes
pub empty_inside : (b : List ℕ) → empty_line b ≤ length b
unfolding empty_line
empty_inside [] = omega arith
empty_inside (b ∷ []) = elim (bool_cases (b == 10)) [ inl here ↦ rw here (omega arith) | inr other ↦ rw other (omega arith) ]
empty_inside (b ∷ d ∷ r) = elim (bool_cases (b == 10)) [
  | inl here ↦ rw here (omega arith)
  | inr other ↦ elim (bool_cases ((b == 13) && (d == 10))) [ inl two ↦ rw (other, two) (omega arith) | inr none ↦ rw (other, none) (omega arith) ]
]

here_or_on : (test : Bool) (k : ℕ) (o : Option ℕ) (n : ℕ) → (if test then Some k else option_map suc o) ≡ Some n
    → (k ≡ n) ⊎ ((m : ℕ) × (o ≡ Some m) × (n ≡ suc m))
here_or_on true k o n is = inl cc
here_or_on false k o n is = inr (some_before o n is)

-- so does the end
pub lines_inside : (a : List ℕ) (n : ℕ) → lines_end a ≡ Some n → n ≤ length a
unfolding lines_end
lines_inside [] n is = cc
lines_inside (x ∷ r) n is = elim (here_or_on ((x == 10) && nat_lt 0 (empty_line r)) (suc (empty_line r)) (lines_end r) n is) [
  | inl here ↦ omega (arith, empty_inside r, here)
  | inr on ↦ omega (arith, lines_inside r on.0 on.1, on.2)
]

-- the empty lines in front lie within the bytes
pub skipped_inside : (b : List ℕ) → skipped b ≤ length b
unfolding skipped
skipped_inside [] = omega arith
skipped_inside (b ∷ []) = elim (bool_cases (b == 10)) [ inl here ↦ rw here (omega arith) | inr other ↦ rw other (omega arith) ]
skipped_inside (b ∷ d ∷ r) = elim (bool_cases (b == 10)) [
  | inl here ↦ rw here (omega (arith, skipped_inside (d ∷ r)))
  | inr other ↦ elim (bool_cases ((b == 13) && (d == 10))) [
    | inl two ↦ rw (other, two) (omega (arith, skipped_inside r))
    | inr none ↦ rw (other, none) (omega arith)
  ]
]

-- where the head text ends behind them, there are no more of them, whatever follows
pub skipped_stay : (a c : List ℕ) (m : ℕ) → lines_end (drop (skipped a) a) ≡ Some m → skipped (a ++ c) ≡ skipped a
unfolding skipped
skipped_stay [] c m is = absurd (no_some (lines_end []) m nil_has_none is)
skipped_stay (b ∷ []) c m is = elim (bool_cases (b == 10)) [
  | inl here ↦ absurd (no_some (lines_end []) m nil_has_none (rw here at is))
  | inr other ↦ absurd (no_some (lines_end (b ∷ [])) m (one_has_none b) (rw other at is))
]
skipped_stay (b ∷ d ∷ r) c m is = elim (bool_cases (b == 10)) [
  | inl here ↦
      let on : lines_end (drop (skipped (d ∷ r)) (d ∷ r)) ≡ Some m = rw here at is in
      rw here (ap suc (skipped_stay (d ∷ r) c m on))
  | inr other ↦ elim (bool_cases ((b == 13) && (d == 10))) [
    | inl two ↦
        let on : lines_end (drop (skipped r) r) ≡ Some m = rw (other, two) at is in
        rw (other, two) (ap (λ (k : ℕ). suc (suc k)) (skipped_stay r c m on))
    | inr none ↦ rw (other, none) refl
  ]
]

some_sum : (k : ℕ) (o : Option ℕ) (n : ℕ) → option_map (λ m. k + m) o ≡ Some n → (m : ℕ) × (o ≡ Some m) × (k + m ≡ n)
some_sum k None n is = cc
some_sum k (Some m) n is = (m, refl, cc)

-- a head text that has ended stays ended
pub head_stays : (a c : List ℕ) (n : ℕ) → head_len a ≡ Some n → head_len (a ++ c) ≡ Some n
unfolding head_len
head_stays a c n is =
    let end = some_sum (skipped a) (lines_end (drop (skipped a) a)) n is in
    let same : skipped (a ++ c) ≡ skipped a = skipped_stay a c end.0 end.1 in
    let on : lines_end (drop (skipped a) a ++ c) ≡ Some end.0 = lines_stay (drop (skipped a) a) c end.0 end.1 in
    let behind : drop (skipped a) (a ++ c) ≡ drop (skipped a) a ++ c = drop-append-le (skipped a) a c (skipped_inside a) in
    let whole : option_map (λ m. skipped a + m) (lines_end (drop (skipped a) (a ++ c))) ≡ Some n =
    ap (λ (w : List ℕ). option_map (λ m. skipped a + m) (lines_end w)) behind ∙ ap (option_map (λ m. skipped a + m)) on ∙ ap Some end.2 in
    subst (λ (k : ℕ). option_map (λ m. k + m) (lines_end (drop k (a ++ c))) ≡ Some n) (sym same) whole

-- it ends within the bytes
pub head_inside : (a : List ℕ) (n : ℕ) → head_len a ≡ Some n → n ≤ length a
unfolding head_len
head_inside a n is =
    let end = some_sum (skipped a) (lines_end (drop (skipped a) a)) n is in
    omega (arith, skipped_inside a, lines_inside (drop (skipped a) a) end.0 end.1, length-drop (skipped a) a, end.2)

pub within_inside : (b : List ℕ) (n : ℕ) → head_within b ≡ Some n → (n ≤ length b) × (n ≤ head_limit)
within_inside b n is =
    let inside : n ≤ length (take head_limit b) = head_inside (take head_limit b) n is in
    (omega (arith, inside, length-take head_limit b), omega (arith, inside, length-take head_limit b))

-- bytes behind do not move the end
pub within_stays : (b c : List ℕ) (n : ℕ) → head_within b ≡ Some n → head_within (b ++ c) ≡ Some n
within_stays b c n is =
    let more : (x : List ℕ) × (take head_limit (b ++ c) ≡ take head_limit b ++ x) = front_more head_limit b c in
    ap head_len more.1 ∙ head_stays (take head_limit b) more.0 n is
  where
    front_more : (k : ℕ) (b c : List ℕ) → (x : List ℕ) × (take k (b ++ c) ≡ take k b ++ x)
    front_more zero b c = ([], refl)
    front_more (suc k) [] c = (take (suc k) c, refl)
    front_more (suc k) (y ∷ b) c = let on = front_more k b c in (on.0, ap (λ (w : List ℕ). y ∷ w) on.1)

-- it does not end in no bytes
pub nil_unended : head_len [] ≡ None
unfolding head_len skipped lines_end
nil_unended = refl
