-- Where a size line and a trailer end.
use Rattle.std.proofs.Common.{◌≡◌, ℕ, zero, suc, ◌+◌, ◌-◌, ◌<◌, ◌≤◌, Bool, true, false, ◌==◌, if◌then◌else◌, List, [], ◌∷◌, ◌++◌, length, take, Option, None, Some, option_map, refl, ap, sym, ◌∙◌, arith, length-take, ◌⊎◌, inl, inr}
use Rattle.std.proofs.Math.Seq.{take-append-add}
use Rattle.message_framing.specs.declared.scan.Line.TheVariants.{Start}
use Rattle.message_framing.specs.Scan.{ends}
use Rattle.message_framing.specs.Chunks.{size_line_limit, trailer_limit, line_end, size_line_within, trailer_end, trailer_within}
use Rattle.message_framing.proofs.HeadTextLemmas.{in_head, add_zero, add_suc}
use Rattle.message_framing.proofs.ScanLemmas.{ends_stays, ends_within}

-- the front of a longer list begins with the front of the list
take_longer : (m : ℕ) (b c : List ℕ) → (d : List ℕ) × (take m (b ++ c) ≡ take m b ++ d)
take_longer zero b c = ([], refl)
take_longer (suc m) [] c = (take (suc m) c, refl)
take_longer (suc m) (x ∷ b) c = let rest = take_longer m b c in (rest.0, ap (λ (w : List ℕ). x ∷ w) rest.1)

-- the line ends here, or where the rest says
some_if : (here : Bool) (o q : Option ℕ) (n : ℕ) → ((m : ℕ) → o ≡ Some m → q ≡ Some m)
    → (if here then Some 1 else option_map suc o) ≡ Some n → (if here then Some 1 else option_map suc q) ≡ Some n
some_if true o q n later is = is
some_if false None q n later is = absurd (let clash : ◌≡◌ {A = Option ℕ} None (Some n) = is in cc)
some_if false (Some m) q n later is = ap (option_map suc) (later m refl) ∙ is

bound_if : (here : Bool) (o : Option ℕ) (n k : ℕ) → ((m : ℕ) → o ≡ Some m → m ≤ k)
    → (if here then Some 1 else option_map suc o) ≡ Some n → (0 < n) × (n ≤ suc k)
bound_if true o n k later is = let same : 1 ≡ n = cc in (omega arith, omega arith)
bound_if false None n k later is = absurd (let clash : ◌≡◌ {A = Option ℕ} None (Some n) = is in cc)
bound_if false (Some m) n k later is =
    let same : suc m ≡ n = cc in
    let below : m ≤ k = later m refl in
    (omega arith, omega arith)

-- a line that has ended stays ended
pub line_end_stays : (a c : List ℕ) (n : ℕ) → line_end a ≡ Some n → line_end (a ++ c) ≡ Some n
unfolding line_end
line_end_stays [] c n is = absurd (let clash : ◌≡◌ {A = Option ℕ} None (Some n) = is in cc)
line_end_stays (x ∷ a) c n is = some_if (x == 10) (line_end a) (line_end (a ++ c)) n (line_end_stays a c) is

-- it ends within the bytes
pub line_end_within : (a : List ℕ) (n : ℕ) → line_end a ≡ Some n → (0 < n) × (n ≤ length a)
unfolding line_end
line_end_within [] n is = absurd (let clash : ◌≡◌ {A = Option ℕ} None (Some n) = is in cc)
line_end_within (x ∷ a) n is = bound_if (x == 10) (line_end a) n (length a) (λ m before. (line_end_within a m before).1) is

-- a size line that ends within the limit
pub record LineAt (b : List ℕ) (n : ℕ) : Type 0 where
  pub some : 0 < n
  pub inside : n ≤ length b
  pub limit : n ≤ size_line_limit

pub line_at : (b : List ℕ) (n : ℕ) → size_line_within b ≡ Some n → LineAt b n
line_at b n is =
    let within : (0 < n) × (n ≤ length (take size_line_limit b)) = line_end_within (take size_line_limit b) n is in
    let size : length (take size_line_limit b) ≤ size_line_limit = omega (arith, length-take size_line_limit b) in
    let less : length (take size_line_limit b) ≤ length b = omega (arith, length-take size_line_limit b) in
    record { some = within.0; inside = omega (arith, within.1); limit = omega (arith, within.1) }

-- bytes behind do not move its end
pub line_stays : (b c : List ℕ) (n : ℕ) → size_line_within b ≡ Some n → size_line_within (b ++ c) ≡ Some n
line_stays b c n is =
    let longer = take_longer size_line_limit b c in
    ap line_end longer.1 ∙ line_end_stays (take size_line_limit b) longer.0 n is

-- the trailer's end is the scan's
pub trailer_end_is : (b : List ℕ) → trailer_end b ≡ ends Start b
unfolding trailer_end
trailer_end_is b = sym (in_head b).start

-- a trailer that ends within the limit
pub record TrailerAt (b : List ℕ) (n : ℕ) : Type 0 where
  pub some : 0 < n
  pub inside : n ≤ length b
  pub limit : n ≤ trailer_limit

pub trailer_at : (b : List ℕ) (n : ℕ) → trailer_within b ≡ Some n → TrailerAt b n
trailer_at b n is =
    let within : (0 < n) × (n ≤ length (take trailer_limit b)) =
    ends_within Start (take trailer_limit b) n (sym (trailer_end_is (take trailer_limit b)) ∙ is) in
    let size : length (take trailer_limit b) ≤ trailer_limit = omega (arith, length-take trailer_limit b) in
    let less : length (take trailer_limit b) ≤ length b = omega (arith, length-take trailer_limit b) in
    record { some = within.0; inside = omega (arith, within.1); limit = omega (arith, within.1) }

pub trailer_stays : (b c : List ℕ) (n : ℕ) → trailer_within b ≡ Some n → trailer_within (b ++ c) ≡ Some n
trailer_stays b c n is =
    let longer = take_longer trailer_limit b c in
    let short : ends Start (take trailer_limit b) ≡ Some n = sym (trailer_end_is (take trailer_limit b)) ∙ is in
    ap trailer_end longer.1 ∙ trailer_end_is (take trailer_limit b ++ longer.0) ∙ ends_stays Start (take trailer_limit b) longer.0 n short

-- one byte more, where the rest has none
none_more : (test : Bool) (o : Option ℕ) → (if test then Some 1 else option_map suc o) ≡ None → (test ≡ false) × (o ≡ None)
none_more true o is = cc
none_more false None is = (refl, refl)
none_more false (Some n) is = cc

-- one byte more, by whether it ends the line
some_more : (test : Bool) (o : Option ℕ) (n : ℕ) → (if test then Some 1 else option_map suc o) ≡ Some n
    → ((test ≡ true) × (n ≡ 1)) ⊎ ((m : ℕ) × (test ≡ false) × (o ≡ Some m) × (n ≡ suc m))
some_more true o n is = inl (refl, cc)
some_more false None n is = cc
some_more false (Some m) n is = inr (m, refl, refl, cc)

-- a line that has not ended goes on in the bytes behind
pub line_end_more : (b c : List ℕ) → line_end b ≡ None → line_end (b ++ c) ≡ option_map (λ n. length b + n) (line_end c)
unfolding line_end
line_end_more [] c none = add_zero (line_end c)
line_end_more (x ∷ b) c none =
    let both : ((x == 10) ≡ false) × (line_end b ≡ None) = none_more (x == 10) (line_end b) none in
    rw both.0 (ap (option_map suc) (line_end_more b c both.1) ∙ add_suc (length b) (line_end c))

-- the line itself shows its end
pub line_end_take : (b : List ℕ) (n : ℕ) → line_end b ≡ Some n → line_end (take n b) ≡ Some n
unfolding line_end
line_end_take [] n is = cc
line_end_take (x ∷ b) zero is = elim (some_more (x == 10) (line_end b) zero is) [
  | inl here ↦ absurd (omega (arith, here.1))
  | inr later ↦ absurd (omega (arith, later.3))
]
line_end_take (x ∷ b) (suc n) is = elim (some_more (x == 10) (line_end b) (suc n) is) [
  | inl here ↦ rw here.0 (ap Some (sym here.1))
  | inr later ↦
      let same : later.0 ≡ n = omega (arith, later.3) in
      let rest : line_end b ≡ Some n = later.2 ∙ ap Some same in
      rw later.1 (ap (option_map suc) (line_end_take b n rest))
]

-- the front of a list, where it has as many bytes as are taken or fewer
pub take_past : (a b : List ℕ) (n : ℕ) → length a ≤ n → take n (a ++ b) ≡ a ++ take (n - length a) b
take_past a b n fits =
    let sum : n ≡ length a + (n - length a) = omega arith in
    ap (λ k. take k (a ++ b)) sum ∙ take-append-add a b (n - length a)

-- a whole line within the limit, whatever follows it
pub line_within : (line rest : List ℕ) → line_end line ≡ Some (length line) → length line ≤ size_line_limit
    → size_line_within (line ++ rest) ≡ Some (length line)
line_within line rest end fits =
    ap line_end (take_past line rest size_line_limit fits) ∙ line_end_stays line (take (size_line_limit - length line) rest) (length line) end
