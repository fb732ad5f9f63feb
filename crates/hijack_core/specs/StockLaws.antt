-- The laws of the stock hijackers, as their impl cites them. They are proved here and nothing more.
use Rattle.std.specs.Prelude.{◌≡◌, ℕ, ◌≤◌, Bool, true, false, not, cond, ◌||◌, List, [], ◌∷◌, ◌++◌, length, map, refl}
use Rattle.std.specs.Char.{to_ascii_uppercase}
use Rattle.std.specs.List.{list_any}
use Rattle.std.proofs.Common.{sym, ap, subst, ◌∙◌, lit≤, le_trans, le_refl, append-nil}
use Rattle.std.proofs.lemmas.Bool.{true≢false, false≢true, not-true, not-false}
use Rattle.std.proofs.lemmas.List.{map-append, length-map}
use Rattle.std.proofs.lemmas.List.Folds.{list_any-append, length-prefix_len}
use Rattle.std.proofs.lemmas.List.Sums.{prefix_len-le-length, take_while-cons}
use Rattle.hijack_core.specs.declared.hijack.Said.{Said}
use Rattle.hijack_core.specs.declared.stock.Stock.{Stock}
use Rattle.hijack_core.specs.declared.stock.Stock.TheVariants.{Echo, Upper}
use Rattle.hijack_core.specs.Said.{Starts, GoesOnAs}
use Rattle.hijack_core.specs.Stock.{is_end, before_end, uppered, stock_says, stock_ends}

-- a test that fails at all elements fails at the first, and at those behind it
first_fails : (x : ℕ) (xs : List ℕ) → list_any is_end (x ∷ xs) ≡ false → is_end x ≡ false
first_fails x xs h = by (is_end x) refl
  where
    by : (b : Bool) → is_end x ≡ b → is_end x ≡ false
    by true e = absurd (true≢false (sym (ap (λ b. b || list_any is_end xs) e) ∙ h))
    by false e = e

rest_fails : (x : ℕ) (xs : List ℕ) → list_any is_end (x ∷ xs) ≡ false → list_any is_end xs ≡ false
rest_fails x xs h = sym (ap (λ b. b || list_any is_end xs) (first_fails x xs h)) ∙ h

before-goes : (x : ℕ) (xs : List ℕ) → is_end x ≡ false → before_end (x ∷ xs) ≡ x ∷ before_end xs
before-goes x xs e = take_while-cons (λ b. not (is_end b)) x xs ∙ ap (λ b. cond (not b) (x ∷ before_end xs) []) e

before-ends : (x : ℕ) (xs : List ℕ) → is_end x ≡ true → before_end (x ∷ xs) ≡ []
before-ends x xs e = take_while-cons (λ b. not (is_end b)) x xs ∙ ap (λ b. cond (not b) (x ∷ before_end xs) []) e

-- where no byte ends, all stand before
pub before-none : (xs : List ℕ) → list_any is_end xs ≡ false → before_end xs ≡ xs
before-none [] h = refl
before-none (x ∷ xs) h = before-goes x xs (first_fails x xs h) ∙ ap (λ ys. x ∷ ys) (before-none xs (rest_fails x xs h))

before-joins : (xs ys : List ℕ) → list_any is_end xs ≡ false → before_end (xs ++ ys) ≡ xs ++ before_end ys
before-joins [] ys h = refl
before-joins (x ∷ xs) ys h = before-goes x (xs ++ ys) (first_fails x xs h) ∙ ap (λ zs. x ∷ zs) (before-joins xs ys (rest_fails x xs h))

before-stops : (xs ys : List ℕ) → list_any is_end xs ≡ true → before_end (xs ++ ys) ≡ before_end xs
before-stops [] ys h = absurd (false≢true h)
before-stops (x ∷ xs) ys h = by (is_end x) refl (λ later. before-stops xs ys later)
  where
    by : (b : Bool) → is_end x ≡ b → (list_any is_end xs ≡ true → before_end (xs ++ ys) ≡ before_end xs) → before_end (x ∷ (xs ++ ys)) ≡ before_end (x ∷ xs)
    by true e rest = before-ends x (xs ++ ys) e ∙ sym (before-ends x xs e)
    by false e rest =
        let later : list_any is_end xs ≡ true = sym (ap (λ b. b || list_any is_end xs) e) ∙ h in
        before-goes x (xs ++ ys) e ∙ ap (λ zs. x ∷ zs) (rest later) ∙ sym (before-goes x xs e)

before-short : (xs : List ℕ) → length (before_end xs) ≤ length xs
before-short xs =
    let stays : ℕ → Bool = λ byte. not (is_end byte) in
    subst (λ n. n ≤ length xs) (sym (length-prefix_len stays xs)) (prefix_len-le-length stays xs)

upper-joined : (xs ys : List ℕ) → list_any is_end xs ≡ false
    → map to_ascii_uppercase (before_end (xs ++ ys)) ≡ map to_ascii_uppercase (before_end xs) ++ map to_ascii_uppercase (before_end ys)
upper-joined xs ys h =
    ap (map to_ascii_uppercase) (before-joins xs ys h) ∙ map-append to_ascii_uppercase xs (before_end ys)
    ∙ ap (λ zs. map to_ascii_uppercase zs ++ map to_ascii_uppercase (before_end ys)) (sym (before-none xs h))

upper-goes : (xs ys : List ℕ) → list_any is_end xs ≡ false → list_any is_end (xs ++ ys) ≡ list_any is_end ys
upper-goes xs ys h = list_any-append is_end xs ys ∙ ap (λ b. b || list_any is_end ys) h

upper-stops : (xs ys : List ℕ) → list_any is_end xs ≡ true → uppered (xs ++ ys) ≡ uppered xs
upper-stops xs ys h =
    let same : list_any is_end (xs ++ ys) ≡ list_any is_end xs = list_any-append is_end xs ys ∙ ap (λ b. b || list_any is_end ys) h ∙ sym h in
    let said : List ℕ → Bool → Said = λ bytes ends. record { bytes = map to_ascii_uppercase bytes; go_on = not ends } in
    ap (λ bytes. said bytes (list_any is_end (xs ++ ys))) (before-stops xs ys h) ∙ ap (said (before_end xs)) same

upper-begins : (xs ys : List ℕ) (b : Bool) → list_any is_end xs ≡ b → Starts (uppered xs).bytes (uppered (xs ++ ys)).bytes
upper-begins xs ys true h = ([], ap (λ s. s.bytes) (upper-stops xs ys h) ∙ sym (append-nil _))
upper-begins xs ys false h = ((uppered ys).bytes, upper-joined xs ys h)

-- what is said to some bytes begins what is said to these and more
pub stock-begins : (stock : Stock) (bytes more : List ℕ) → Starts (stock_says stock bytes).bytes (stock_says stock (bytes ++ more)).bytes
stock-begins Echo bytes more = (more, refl)
stock-begins Upper bytes more = upper-begins bytes more (list_any is_end bytes) refl

-- where it goes on, it is behind these bytes what it was
pub stock-joins : (stock : Stock) (bytes : List ℕ) → (stock_says stock bytes).go_on ≡ true
    → GoesOnAs (stock_says stock) (stock_ends stock) bytes (stock_says stock) (stock_ends stock)
stock-joins Echo bytes goes = record { joined = λ more. refl; ended = λ more. refl }
stock-joins Upper bytes goes =
    let none : list_any is_end bytes ≡ false = not-true _ goes in
    let said : List ℕ → Bool → Said = λ text ends. record { bytes = text; go_on = not ends } in
    record {
      joined = λ more.
          ap (λ text. said text (list_any is_end (bytes ++ more))) (upper-joined bytes more none)
          ∙ ap (said ((uppered bytes).bytes ++ (uppered more).bytes)) (upper-goes bytes more none);
      ended = λ more. refl;
    }

-- where it doesn't go on, it says the same to these bytes and more
pub stock-stops : (stock : Stock) (bytes more : List ℕ) → (stock_says stock bytes).go_on ≡ false → stock_says stock (bytes ++ more) ≡ stock_says stock bytes
stock-stops Echo bytes more stops = absurd (true≢false stops)
stock-stops Upper bytes more stops = upper-stops bytes more (not-false _ stops)

-- no more bytes are said than came
pub stock-within : (stock : Stock) (bytes : List ℕ) → length (stock_says stock bytes).bytes ≤ length bytes
stock-within Echo bytes = le_refl (length bytes)
stock-within Upper bytes = subst (λ n. n ≤ length bytes) (sym (length-map (before_end bytes) to_ascii_uppercase)) (before-short bytes)

pub stock-short : (stock : Stock) (piece : List ℕ) → length piece ≤ 16384 → length (stock_says stock piece).bytes ≤ 65536
stock-short stock piece few = le_trans (stock-within stock piece) (le_trans few (lit≤ tt))

pub stock_end-short : (stock : Stock) (bytes : List ℕ) → length (stock_ends stock bytes) ≤ 65536
stock_end-short stock bytes = lit≤ tt
