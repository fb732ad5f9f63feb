-- Numbers and texts behind `run`, as they are written for what was read.
use Rattle.std.proofs.Common.{◌≡◌, ℕ, suc, ◌+◌, ◌^◌, ◌<◌, ◌≤◌, Bool, true, false, List, [], ◌∷◌, length, Option, None, Some, Ok, decimal, refl, ap, ◌∙◌, subst, arith}
use Rattle.std.specs.Prelude.{◌&&◌, nat_le, if◌then◌else◌, option_and_then}
use Rattle.std.proofs.lemmas.Bool.{leb-true}
use Rattle.rack_text.specs.Decimal.{decimal_number}
use Rattle.rack_text.specs.Escaped.{unescaped}
use Rattle.rack_text.proofs.CallerLemmas.{decimal_number-decimal}
use Rattle.stock_apps.specs.declared.app.App.{App}
use Rattle.stock_apps.specs.Words.{in_status, status_of, in_length, length_of, app_of}
use Rattle.stack_file.specs.Canon.{arguments, app_words}
use Rattle.stack_file.specs.Said.{RunLine, with_text, texts_of, named, by_texts, run_line}
use Rattle.stack_file.proofs.EscapeLemmas.{IsShort, escaped_short, decimal_short, decimal_word, decimal_again}
use Rattle.stack_file.proofs.UseLemmas.{AreRead, are_read}
use Rattle.stack_file.proofs.WordLemmas.{AllWords, total}

both : (a b : Bool) → a && b ≡ true → (a ≡ true) × (b ≡ true)
both true b e = (refl, e)
both false b e = cc e

-- the words that are written for an endpoint
pub record AppAgain (app : App) : Type 0 where
  pub size : 4 + total (app_words app) ≤ 4097
  pub are : AllWords (app_words app)
  pub says : run_line (app_words app) ≡ RunLine app

pub run_says : (name : List ℕ) (ws texts : List (List ℕ)) (app : App) → texts_of ws ≡ Some texts → app_of name texts ≡ Ok app → run_line (name ∷ ws) ≡ RunLine app
run_says name ws texts app e f = ap (λ o. by_texts RunLine (λ ts. app_of name ts) ws o) e ∙ ap (λ r. named RunLine r) f

-- the first word and its text
pub record HeadRead (ws : List (List ℕ)) (t : List ℕ) (ts : List (List ℕ)) : Type 0 where
  pub word : List ℕ
  pub more : List (List ℕ)
  pub is : ws ≡ word ∷ more
  pub short : IsShort word t
  pub rest : AreRead more ts

pub head_read : (ws : List (List ℕ)) (t : List ℕ) (ts : List (List ℕ)) → texts_of ws ≡ Some (t ∷ ts) → HeadRead ws t ts
head_read [] t ts e = cc e
head_read (word ∷ more) t ts e = by_first (unescaped word) (texts_of more) (escaped_short word) (are_read more) e
  where
    by_first : (o : Option (List ℕ)) (r : Option (List (List ℕ))) → ((u : List ℕ) → o ≡ Some u → IsShort word u) → ((us : List (List ℕ)) → r ≡ Some us → AreRead more us) → with_text o r ≡ Some (t ∷ ts) → HeadRead (word ∷ more) t ts
    by_first None r f g h = cc h
    by_first (Some u) None f g h = cc h
    by_first (Some u) (Some us) f g h =
        let first : u ≡ t = cc h in
        let others : us ≡ ts = cc h in
        record { word = word; more = more; is = refl; short = f t (ap (λ x. Some x) first); rest = g ts (ap (λ x. Some x) others) }

-- a number before texts
pub record NumberFirst (ws : List (List ℕ)) (n : ℕ) (ts : List (List ℕ)) : Type 0 where
  pub size : total (decimal n ∷ arguments ts) ≤ total ws
  pub are : AllWords (decimal n ∷ arguments ts)
  pub again : texts_of (decimal n ∷ arguments ts) ≡ Some (decimal n ∷ ts)

pub number_first : (ws : List (List ℕ)) (t : List ℕ) (n : ℕ) (ts : List (List ℕ)) → texts_of ws ≡ Some (t ∷ ts) → decimal_number t ≡ Some n → n < 10 ^ 64 → NumberFirst ws n ts
number_first ws t n ts e f small =
    let h = head_read ws t ts e in
    let count = h.short.count in
    let short = decimal_short t n f small in
    let rest = h.rest.size in
    let all : total ws ≡ suc (length h.word) + total h.more = ap (λ x. total x) h.is in
    record {
      size = omega (arith, count, short, rest, all);
      are = (decimal_word n small, h.rest.are);
      again = ap (λ o. with_text o (texts_of (arguments ts))) (decimal_again n small) ∙ ap (λ o. with_text (Some (decimal n)) o) h.rest.again;
    }

pub record InRange (f : ℕ → Option ℕ) (t : List ℕ) (n : ℕ) : Type 0 where
  pub number : decimal_number t ≡ Some n
  pub within : f n ≡ Some n
  pub small : n < 1000001

pub status_parts : (t : List ℕ) (n : ℕ) → status_of t ≡ Some n → InRange in_status t n
status_parts t n e = by_number (decimal_number t) refl e
  where
    by_range : (m : ℕ) (c : Bool) → decimal_number t ≡ Some m → nat_le 100 m && nat_le m 999 ≡ c → (if c then Some m else None) ≡ Some n → InRange in_status t n
    by_range m true is k f =
        let same : m ≡ n = cc f in
        let high = leb-true m 999 (both (nat_le 100 m) (nat_le m 999) k).1 in
        subst (λ (x : ℕ). InRange in_status t x) same (record { number = is; within = ap (λ b. if b then Some m else None) k; small = omega (arith, high) })
    by_range m false is k f = cc f

    by_number : (o : Option ℕ) → decimal_number t ≡ o → option_and_then in_status o ≡ Some n → InRange in_status t n
    by_number None is f = cc f
    by_number (Some m) is f = by_range m (nat_le 100 m && nat_le m 999) is refl f

pub length_parts : (t : List ℕ) (n : ℕ) → length_of t ≡ Some n → InRange in_length t n
length_parts t n e = by_number (decimal_number t) refl e
  where
    by_range : (m : ℕ) (c : Bool) → decimal_number t ≡ Some m → nat_le m 1_000_000 ≡ c → (if c then Some m else None) ≡ Some n → InRange in_length t n
    by_range m true is k f =
        let same : m ≡ n = cc f in
        let high = leb-true m 1_000_000 k in
        subst (λ (x : ℕ). InRange in_length t x) same (record { number = is; within = ap (λ b. if b then Some m else None) k; small = omega (arith, high) })
    by_range m false is k f = cc f

    by_number : (o : Option ℕ) → decimal_number t ≡ o → option_and_then in_length o ≡ Some n → InRange in_length t n
    by_number None is f = cc f
    by_number (Some m) is f = by_range m (nat_le m 1_000_000) is refl f

pub read_number : (f : ℕ → Option ℕ) (t : List ℕ) (n : ℕ) → InRange f t n → option_and_then f (decimal_number (decimal n)) ≡ Some n
read_number f t n r =
    let small = r.small in
    ap (λ o. option_and_then f o) (decimal_number-decimal n (omega (arith, small))) ∙ r.within
