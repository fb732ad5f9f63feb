-- The lines `run` that are written for what was read.
use Rattle.std.proofs.Common.{◌≡◌, ℕ, suc, ◌+◌, ◌-◌, ◌^◌, ◌<◌, ◌≤◌, Bool, true, false, List, [], ◌∷◌, ◌++◌, length, map, take, Option, None, Some, Result, Ok, Err, decimal, refl, sym, ap, ◌∙◌, subst, length-append, append-nil, arith, rules}
use Rattle.std.specs.Prelude.{◌&&◌, ◌||◌, ◌==◌, nat_le, if◌then◌else◌, codes, bytes_eq, option_map, option_and_then, slice_get}
use Rattle.std.proofs.Math.Seq.{take-append_seam}
use Rattle.std.proofs.lemmas.Bool.{leb-true, eqb-true}
use Rattle.std.proofs.lemmas.Slice.Eq.{bytes_eq-Decides}
use Rattle.rack_text.specs.Decimal.{decimal_number}
use Rattle.rack_text.specs.Escaped.{unescaped, escaped}
use Rattle.rack_text.specs.Escaped as text
use Rattle.stock_apps.specs.declared.app.App.{App}
use Rattle.stock_apps.specs.declared.app.App.TheVariants.{Text, Echo, Env, Pieces, Stream, Cookies, Bad, Raise, Late}
use Rattle.stock_apps.specs.declared.words.WordsFault.{WordsFault}
use Rattle.stock_apps.specs.declared.words.WordsFault.TheVariants.{Count}
use Rattle.stock_apps.specs.Words.{in_status, status_of, in_length, length_of, in_rules, rule_of, rules_of, is_mark, is_marked, unmarked, formed, text_words, bare_words, pieces_words, cookies_words, bad_words, raise_words, late_words, name_of, named_words, app_of}
use Rattle.stock_apps.specs.Words as apps
use Rattle.stack_file.specs.Canon.{arguments, mark, app_words}
use Rattle.stack_file.specs.Lines.{words}
use Rattle.stack_file.specs.Said.{Said, RunLine, said, said_by_words, verb_line, with_text, texts_of, named, ill_formed, by_texts, run_line}
use Rattle.stack_file.proofs.EscapeLemmas.{AllVisible, IsShort, escaped_short, decimal_short, decimal_word, decimal_again}
use Rattle.stack_file.proofs.TakeLemmas.{take_cases, part_cases}
use Rattle.stack_file.proofs.UseLemmas.{AreRead, are_read, MaySay, use_may, map_may, end_may, cascade_may, verb_said, written_says}
use Rattle.stack_file.proofs.WalkLemmas.{run_text}
use Rattle.stack_file.proofs.WordLemmas.{AllWords, total, by_words, Verb, used, mapped, ended, ran, tried, unknown}
use Rattle.stack_file.proofs.NumberLemmas.{AppAgain, run_says, number_first, InRange, status_parts, length_parts, read_number}

both : (a b : Bool) → a && b ≡ true → (a ≡ true) × (b ≡ true)
both true b e = (refl, e)
both false b e = cc e

visible_text : AllVisible (codes "text")
visible_text = search rules

visible_echo : AllVisible (codes "echo")
visible_echo = search rules

visible_env : AllVisible (codes "env")
visible_env = search rules

visible_pieces : AllVisible (codes "pieces")
visible_pieces = search rules

visible_stream : AllVisible (codes "stream")
visible_stream = search rules

visible_cookies : AllVisible (codes "cookies")
visible_cookies = search rules

visible_bad : AllVisible (codes "bad")
visible_bad = search rules

visible_raise : AllVisible (codes "raise")
visible_raise = search rules

visible_late : AllVisible (codes "late")
visible_late = search rules

echo_again : AppAgain Echo
unfolding name_of
echo_again = record { size = omega arith; are = (record { some = omega arith; visible = visible_echo }, tt); says = refl }

env_again : AppAgain Env
unfolding name_of
env_again = record { size = omega arith; are = (record { some = omega arith; visible = visible_env }, tt); says = refl }

bare_again : (made app : App) (texts : List (List ℕ)) → AppAgain made → bare_words made texts ≡ Ok app → AppAgain app
bare_again made app [] g e = let same : made ≡ app = cc e in subst (λ (a : App). AppAgain a) same g
bare_again made app (t ∷ ts) g e = cc e

-- text
text_made : (n : ℕ) (status kind body : List ℕ) → InRange in_status status n → app_of (codes "text") (decimal n ∷ kind ∷ body ∷ []) ≡ Ok (Text n kind body)
unfolding name_of
text_made n status kind body r = ap (λ o. formed (option_map (λ m. Text m kind body) o)) (read_number in_status status n r)

text_again : (ws : List (List ℕ)) (status kind body : List ℕ) (n : ℕ) → 9 + total ws ≤ 4097 → texts_of ws ≡ Some (status ∷ kind ∷ body ∷ []) → InRange in_status status n → AppAgain (Text n kind body)
text_again ws status kind body n fits e r =
    let small = r.small in
    let first = number_first ws status n (kind ∷ body ∷ []) e r.number (omega (arith, small)) in
    let size = first.size in
    record {
      size = omega (arith, fits, size);
      are = (record { some = omega arith; visible = visible_text }, first.are);
      says = run_says (codes "text") (decimal n ∷ arguments (kind ∷ body ∷ [])) (decimal n ∷ kind ∷ body ∷ []) (Text n kind body) first.again (text_made n status kind body r);
    }

text_formed : (ws : List (List ℕ)) (status kind body : List ℕ) (app : App) (o : Option ℕ) → status_of status ≡ o → 9 + total ws ≤ 4097 → texts_of ws ≡ Some (status ∷ kind ∷ body ∷ []) → formed (option_map (λ m. Text m kind body) o) ≡ Ok app → AppAgain app
text_formed ws status kind body app None is fits e f = cc f
text_formed ws status kind body app (Some n) is fits e f = let same : Text n kind body ≡ app = cc f in subst (λ (a : App). AppAgain a) same (text_again ws status kind body n fits e (status_parts status n is))

text_cases : (ws texts : List (List ℕ)) (app : App) → 9 + total ws ≤ 4097 → texts_of ws ≡ Some texts → text_words texts ≡ Ok app → AppAgain app
text_cases ws [] app fits e f = cc f
text_cases ws (status ∷ []) app fits e f = cc f
text_cases ws (status ∷ kind ∷ []) app fits e f = cc f
text_cases ws (status ∷ kind ∷ body ∷ []) app fits e f = text_formed ws status kind body app (status_of status) refl fits e f
text_cases ws (status ∷ kind ∷ body ∷ t ∷ ts) app fits e f = cc f

-- pieces
pieces_made : (n : ℕ) (status : List ℕ) (ts : List (List ℕ)) → InRange in_status status n → app_of (codes "pieces") (decimal n ∷ ts) ≡ Ok (Pieces n ts)
unfolding name_of
pieces_made n status ts r = ap (λ o. formed (option_map (λ m. Pieces m ts) o)) (read_number in_status status n r)

pieces_again : (ws : List (List ℕ)) (status : List ℕ) (ts : List (List ℕ)) (n : ℕ) → 11 + total ws ≤ 4097 → texts_of ws ≡ Some (status ∷ ts) → InRange in_status status n → AppAgain (Pieces n ts)
pieces_again ws status ts n fits e r =
    let small = r.small in
    let first = number_first ws status n ts e r.number (omega (arith, small)) in
    let size = first.size in
    record {
      size = omega (arith, fits, size);
      are = (record { some = omega arith; visible = visible_pieces }, first.are);
      says = run_says (codes "pieces") (decimal n ∷ arguments ts) (decimal n ∷ ts) (Pieces n ts) first.again (pieces_made n status ts r);
    }

pieces_formed : (ws : List (List ℕ)) (status : List ℕ) (ts : List (List ℕ)) (app : App) (o : Option ℕ) → status_of status ≡ o → 11 + total ws ≤ 4097 → texts_of ws ≡ Some (status ∷ ts) → formed (option_map (λ m. Pieces m ts) o) ≡ Ok app → AppAgain app
pieces_formed ws status ts app None is fits e f = cc f
pieces_formed ws status ts app (Some n) is fits e f = let same : Pieces n ts ≡ app = cc f in subst (λ (a : App). AppAgain a) same (pieces_again ws status ts n fits e (status_parts status n is))

pieces_cases : (ws texts : List (List ℕ)) (app : App) → 11 + total ws ≤ 4097 → texts_of ws ≡ Some texts → pieces_words texts ≡ Ok app → AppAgain app
pieces_cases ws [] app fits e f = cc f
pieces_cases ws (status ∷ ts) app fits e f = pieces_formed ws status ts app (status_of status) refl fits e f

-- those that take any texts
stream_made : (ts : List (List ℕ)) → app_of (codes "stream") ts ≡ Ok (Stream ts)
unfolding name_of
stream_made ts = refl

stream_again : (ws ts : List (List ℕ)) → 11 + total ws ≤ 4097 → AreRead ws ts → AppAgain (Stream ts)
stream_again ws ts fits r =
    let size = r.size in
    record {
      size = omega (arith, fits, size);
      are = (record { some = omega arith; visible = visible_stream }, r.are);
      says = run_says (codes "stream") (arguments ts) ts (Stream ts) r.again (stream_made ts);
    }

stream_cases : (ws ts : List (List ℕ)) (app : App) → 11 + total ws ≤ 4097 → texts_of ws ≡ Some ts → ◌≡◌ {A = Result App WordsFault} (Ok (Stream ts)) (Ok app) → AppAgain app
stream_cases ws ts app fits e f = let same : Stream ts ≡ app = cc f in subst (λ (a : App). AppAgain a) same (stream_again ws ts fits (are_read ws ts e))

cookies_made : (t : List ℕ) (ts : List (List ℕ)) → app_of (codes "cookies") (t ∷ ts) ≡ Ok (Cookies (t ∷ ts))
unfolding name_of
cookies_made t ts = refl

cookies_again : (ws : List (List ℕ)) (t : List ℕ) (ts : List (List ℕ)) → 12 + total ws ≤ 4097 → AreRead ws (t ∷ ts) → AppAgain (Cookies (t ∷ ts))
cookies_again ws t ts fits r =
    let size = r.size in
    record {
      size = omega (arith, fits, size);
      are = (record { some = omega arith; visible = visible_cookies }, r.are);
      says = run_says (codes "cookies") (arguments (t ∷ ts)) (t ∷ ts) (Cookies (t ∷ ts)) r.again (cookies_made t ts);
    }

cookies_cases : (ws texts : List (List ℕ)) (app : App) → 12 + total ws ≤ 4097 → texts_of ws ≡ Some texts → cookies_words texts ≡ Ok app → AppAgain app
cookies_cases ws [] app fits e f = cc f
cookies_cases ws (t ∷ ts) app fits e f = let same : Cookies (t ∷ ts) ≡ app = cc f in subst (λ (a : App). AppAgain a) same (cookies_again ws t ts fits (are_read ws (t ∷ ts) e))

raise_made : (t : List ℕ) → app_of (codes "raise") (t ∷ []) ≡ Ok (Raise t)
unfolding name_of
raise_made t = refl

raise_again : (ws : List (List ℕ)) (t : List ℕ) → 10 + total ws ≤ 4097 → AreRead ws (t ∷ []) → AppAgain (Raise t)
raise_again ws t fits r =
    let size = r.size in
    record {
      size = omega (arith, fits, size);
      are = (record { some = omega arith; visible = visible_raise }, r.are);
      says = run_says (codes "raise") (arguments (t ∷ [])) (t ∷ []) (Raise t) r.again (raise_made t);
    }

raise_cases : (ws texts : List (List ℕ)) (app : App) → 10 + total ws ≤ 4097 → texts_of ws ≡ Some texts → raise_words texts ≡ Ok app → AppAgain app
raise_cases ws [] app fits e f = cc f
raise_cases ws (t ∷ []) app fits e f = let same : Raise t ≡ app = cc f in subst (λ (a : App). AppAgain a) same (raise_again ws t fits (are_read ws (t ∷ []) e))
raise_cases ws (t ∷ u ∷ ts) app fits e f = cc f

-- late: the mark is its own escaped text
mark_is : arguments (codes "!" ∷ []) ≡ codes "!" ∷ []
unfolding text.escaped text.spelling
mark_is = refl

record Last (t : List ℕ) (ts : List (List ℕ)) : Type 0 where
  front : List (List ℕ)
  last : List ℕ
  is : front ++ last ∷ [] ≡ t ∷ ts

last_of : (t : List ℕ) (ts : List (List ℕ)) → Last t ts
last_of t [] = record { front = []; last = t; is = refl }
last_of t (u ∷ ts) = let more = last_of u ts in record { front = t ∷ more.front; last = more.last; is = ap (λ x. t ∷ x) more.is }

at_seam : (p : List (List ℕ)) (b : List ℕ) → slice_get (p ++ b ∷ []) (length p) ≡ Some b
at_seam [] b = refl
at_seam (x ∷ p) b = at_seam p b

last_at : (p : List (List ℕ)) (b : List ℕ) → length (p ++ b ∷ []) - 1 ≡ length p
last_at p b = omega (arith, length-append p (b ∷ []))

arguments_append : (p : List (List ℕ)) (b : List ℕ) → arguments (p ++ b ∷ []) ≡ arguments p ++ arguments (b ∷ [])
arguments_append [] b = refl
arguments_append (x ∷ p) b = ap (λ ws. escaped x ∷ ws) (arguments_append p b)

seam_marked : (p : List (List ℕ)) (b : List ℕ) → arguments (unmarked (p ++ b ∷ [])) ++ mark (is_marked (p ++ b ∷ [])) ≡ arguments (p ++ b ∷ [])
seam_marked p b = by_mark (bytes_eq b (codes "!")) refl
  where
    is_last : is_marked (p ++ b ∷ []) ≡ bytes_eq b (codes "!")
    is_last = ap (λ o. is_mark o) (ap (λ n. slice_get (p ++ b ∷ []) n) (last_at p b) ∙ at_seam p b)

    by_mark : (m : Bool) → bytes_eq b (codes "!") ≡ m → arguments (unmarked (p ++ b ∷ [])) ++ mark (is_marked (p ++ b ∷ [])) ≡ arguments (p ++ b ∷ [])
    by_mark true is =
        ap (λ m. arguments (if m then take (length (p ++ b ∷ []) - 1) (p ++ b ∷ []) else p ++ b ∷ []) ++ mark m) (is_last ∙ is)
        ∙ ap (λ x. arguments x ++ codes "!" ∷ []) (ap (λ n. take n (p ++ b ∷ [])) (last_at p b) ∙ take-append_seam p (b ∷ []))
        ∙ ap (λ x. arguments p ++ x) (sym mark_is ∙ ap (λ x. arguments (x ∷ [])) (sym ((bytes_eq-Decides b (codes "!")).0 is)))
        ∙ sym (arguments_append p b)
    by_mark false is =
        ap (λ m. arguments (if m then take (length (p ++ b ∷ []) - 1) (p ++ b ∷ []) else p ++ b ∷ []) ++ mark m) (is_last ∙ is)
        ∙ append-nil (arguments (p ++ b ∷ []))

late_marked : (ts : List (List ℕ)) → arguments (unmarked ts) ++ mark (is_marked ts) ≡ arguments ts
late_marked [] = refl
late_marked (t ∷ ts) =
    let parts = last_of t ts in
    subst (λ (x : List (List ℕ)). arguments (unmarked x) ++ mark (is_marked x) ≡ arguments x) parts.is (seam_marked parts.front parts.last)

late_made : (n : ℕ) (t : List ℕ) (ts : List (List ℕ)) → InRange in_length t n → app_of (codes "late") (decimal n ∷ ts) ≡ Ok (Late n (unmarked ts) (is_marked ts))
unfolding name_of
late_made n t ts r = ap (λ o. formed (option_map (λ m. Late m (unmarked ts) (is_marked ts)) o)) (read_number in_length t n r)

late_again : (ws : List (List ℕ)) (t : List ℕ) (ts : List (List ℕ)) (n : ℕ) → 9 + total ws ≤ 4097 → texts_of ws ≡ Some (t ∷ ts) → InRange in_length t n → AppAgain (Late n (unmarked ts) (is_marked ts))
late_again ws t ts n fits e r =
    let small = r.small in
    let first = number_first ws t n ts e r.number (omega (arith, small)) in
    let size = first.size in
    let same : decimal n ∷ arguments ts ≡ decimal n ∷ (arguments (unmarked ts) ++ mark (is_marked ts)) = ap (λ x. decimal n ∷ x) (sym (late_marked ts)) in
    record {
      size = subst (λ (x : List (List ℕ)). 4 + total (codes "late" ∷ x) ≤ 4097) same (omega (arith, fits, size));
      are = (record { some = omega arith; visible = visible_late }, subst (λ (x : List (List ℕ)). AllWords x) same first.are);
      says = subst (λ (x : List (List ℕ)). run_line (codes "late" ∷ x) ≡ RunLine (Late n (unmarked ts) (is_marked ts))) same
          (run_says (codes "late") (decimal n ∷ arguments ts) (decimal n ∷ ts) (Late n (unmarked ts) (is_marked ts)) first.again (late_made n t ts r));
    }

late_formed : (ws : List (List ℕ)) (t : List ℕ) (ts : List (List ℕ)) (app : App) (o : Option ℕ) → length_of t ≡ o → 9 + total ws ≤ 4097 → texts_of ws ≡ Some (t ∷ ts) → formed (option_map (λ m. Late m (unmarked ts) (is_marked ts)) o) ≡ Ok app → AppAgain app
late_formed ws t ts app None is fits e f = cc f
late_formed ws t ts app (Some n) is fits e f = let same : Late n (unmarked ts) (is_marked ts) ≡ app = cc f in subst (λ (a : App). AppAgain a) same (late_again ws t ts n fits e (length_parts t n is))

late_cases : (ws texts : List (List ℕ)) (app : App) → 9 + total ws ≤ 4097 → texts_of ws ≡ Some texts → late_words texts ≡ Ok app → AppAgain app
late_cases ws [] app fits e f = cc f
late_cases ws (t ∷ ts) app fits e f = late_formed ws t ts app (length_of t) refl fits e f

-- bad: each text is a number of a rule
rule_parts : (t : List ℕ) (n : ℕ) → rule_of t ≡ Some n → InRange in_rules t n
rule_parts t n e = by_number (decimal_number t) refl e
  where
    small_rule : (m : ℕ) → (nat_le 1 m && nat_le m 8) || m == 10 ≡ true → m < 1000001
    small_rule m k = by_eight (nat_le 1 m && nat_le m 8) refl k
      where
        by_eight : (a : Bool) → nat_le 1 m && nat_le m 8 ≡ a → a || m == 10 ≡ true → m < 1000001
        by_eight true is f = let high = leb-true m 8 (both (nat_le 1 m) (nat_le m 8) is).1 in omega (arith, high)
        by_eight false is f = let ten : m ≡ 10 = eqb-true m 10 f in omega (arith, ten)

    by_range : (m : ℕ) (c : Bool) → decimal_number t ≡ Some m → (nat_le 1 m && nat_le m 8) || m == 10 ≡ c → (if c then Some m else None) ≡ Some n → InRange in_rules t n
    by_range m true is k f =
        let same : m ≡ n = cc f in
        subst (λ (x : ℕ). InRange in_rules t x) same (record { number = is; within = ap (λ b. if b then Some m else None) k; small = small_rule m k })
    by_range m false is k f = cc f

    by_number : (o : Option ℕ) → decimal_number t ≡ o → option_and_then in_rules o ≡ Some n → InRange in_rules t n
    by_number None is f = cc f
    by_number (Some m) is f = by_range m ((nat_le 1 m && nat_le m 8) || m == 10) is refl f

pub record NumbersRead (ws texts : List (List ℕ)) (ns : List ℕ) : Type 0 where
  pub size : total (map decimal ns) ≤ total ws
  pub are : AllWords (map decimal ns)
  pub again : texts_of (map decimal ns) ≡ Some (map decimal ns)
  pub rules_are : rules_of (map decimal ns) ≡ Some ns
  pub count : length (map decimal ns) ≡ length texts

no_numbers : (ws : List (List ℕ)) (ns : List ℕ) → Some [] ≡ Some ns → NumbersRead ws [] ns
no_numbers ws ns e = let same : [] ≡ ns = cc e in subst (λ (x : List ℕ). NumbersRead ws [] x) same (record { size = omega arith; are = tt; again = refl; rules_are = refl; count = refl })

more_numbers : (word t : List ℕ) (ws ts : List (List ℕ)) (n : ℕ) (ns : List ℕ) → IsShort word t → rule_of t ≡ Some n → NumbersRead ws ts ns → NumbersRead (word ∷ ws) (t ∷ ts) (n ∷ ns)
more_numbers word t ws ts n ns s e r =
    let range = rule_parts t n e in
    let small = range.small in
    let below : n < 10 ^ 64 = omega (arith, small) in
    let short = decimal_short t n range.number below in
    let count = s.count in
    let size = r.size in
    record {
      size = omega (arith, short, count, size);
      are = (decimal_word n below, r.are);
      again = ap (λ o. with_text o (texts_of (map decimal ns))) (decimal_again n below) ∙ ap (λ o. with_text (Some (decimal n)) o) r.again;
      rules_are = ap (λ o. apps.before o (rules_of (map decimal ns))) (read_number in_rules t n range) ∙ ap (λ o. apps.before (Some n) o) r.rules_are;
      count = ap (λ k. suc k) r.count;
    }

numbers_read : (ws texts : List (List ℕ)) (ns : List ℕ) → texts_of ws ≡ Some texts → rules_of texts ≡ Some ns → NumbersRead ws texts ns
numbers_read ws [] ns e f = no_numbers ws ns f
numbers_read [] (t ∷ ts) ns e f = cc e
numbers_read (word ∷ ws) (t ∷ ts) ns e f =
    by_text (unescaped word) (texts_of ws) (escaped_short word) e (λ h. by_rule (rule_of t) (rules_of ts) refl f (numbers_read ws ts) h)
  where
    by_rule : (o : Option ℕ) (r : Option (List ℕ)) → rule_of t ≡ o → apps.before o r ≡ Some ns → ((ms : List ℕ) → texts_of ws ≡ Some ts → r ≡ Some ms → NumbersRead ws ts ms) → IsShort word t × (texts_of ws ≡ Some ts) → NumbersRead (word ∷ ws) (t ∷ ts) ns
    by_rule None r is h g k = cc h
    by_rule (Some n) None is h g k = cc h
    by_rule (Some n) (Some ms) is h g k =
        let same : n ∷ ms ≡ ns = cc h in
        subst (λ (x : List ℕ). NumbersRead (word ∷ ws) (t ∷ ts) x) same (more_numbers word t ws ts n ms k.0 is (g ms k.1 refl))

    by_text : (o : Option (List ℕ)) (r : Option (List (List ℕ))) → ((u : List ℕ) → o ≡ Some u → IsShort word u) → with_text o r ≡ Some (t ∷ ts) → (IsShort word t × (r ≡ Some ts) → NumbersRead (word ∷ ws) (t ∷ ts) ns) → NumbersRead (word ∷ ws) (t ∷ ts) ns
    by_text None r f h g = cc h
    by_text (Some u) None f h g = cc h
    by_text (Some u) (Some us) f h g =
        let first : u ≡ t = cc h in
        let others : us ≡ ts = cc h in
        g (f t (ap (λ x. Some x) first), ap (λ x. Some x) others)

bad_made : (texts : List (List ℕ)) (ns : List ℕ) → nat_le 1 (length texts) && nat_le (length texts) 8 ≡ true → length (map decimal ns) ≡ length texts → rules_of (map decimal ns) ≡ Some ns → app_of (codes "bad") (map decimal ns) ≡ Ok (Bad ns)
unfolding name_of
bad_made texts ns few count e =
    ap (λ k. if nat_le 1 k && nat_le k 8 then formed (option_map Bad (rules_of (map decimal ns))) else Err Count) count
    ∙ ap (λ b. if b then formed (option_map Bad (rules_of (map decimal ns))) else Err Count) few
    ∙ ap (λ o. formed (option_map Bad o)) e

bad_again : (ws texts : List (List ℕ)) (ns : List ℕ) → 8 + total ws ≤ 4097 → nat_le 1 (length texts) && nat_le (length texts) 8 ≡ true → NumbersRead ws texts ns → AppAgain (Bad ns)
bad_again ws texts ns fits few r =
    let size = r.size in
    record {
      size = omega (arith, fits, size);
      are = (record { some = omega arith; visible = visible_bad }, r.are);
      says = run_says (codes "bad") (map decimal ns) (map decimal ns) (Bad ns) r.again (bad_made texts ns few r.count r.rules_are);
    }

bad_cases : (ws texts : List (List ℕ)) (app : App) → 8 + total ws ≤ 4097 → texts_of ws ≡ Some texts → bad_words texts ≡ Ok app → AppAgain app
bad_cases ws texts app fits e f = by_count (nat_le 1 (length texts) && nat_le (length texts) 8) refl f
  where
    by_rules : (o : Option (List ℕ)) → nat_le 1 (length texts) && nat_le (length texts) 8 ≡ true → rules_of texts ≡ o → formed (option_map Bad o) ≡ Ok app → AppAgain app
    by_rules None few is h = cc h
    by_rules (Some ns) few is h = let same : Bad ns ≡ app = cc h in subst (λ (a : App). AppAgain a) same (bad_again ws texts ns fits few (numbers_read ws texts ns e is))

    by_count : (c : Bool) → nat_le 1 (length texts) && nat_le (length texts) 8 ≡ c → (if c then formed (option_map Bad (rules_of texts)) else Err Count) ≡ Ok app → AppAgain app
    by_count true is h = by_rules (rules_of texts) is refl h
    by_count false is h = cc h

same_text : (xs ys : List ℕ) → bytes_eq xs ys ≡ true → xs ≡ ys
same_text xs ys e = (bytes_eq-Decides xs ys).0 e

-- what is said of a word by its name, where it is none of those before
abbrev from_part : {N : Type 0} → (List ℕ → Option N) → List ℕ → Option N
from_part say word = if bytes_eq word (codes "part") then say (codes "part") else None

abbrev from_take : {N : Type 0} → (List ℕ → Option N) → List ℕ → Option N
from_take say word = if bytes_eq word (codes "take") then say (codes "take") else from_part say word

abbrev from_late : {N : Type 0} → (List ℕ → Option N) → List ℕ → Option N
from_late say word = if bytes_eq word (codes "late") then say (codes "late") else from_take say word

abbrev from_raise : {N : Type 0} → (List ℕ → Option N) → List ℕ → Option N
from_raise say word = if bytes_eq word (codes "raise") then say (codes "raise") else from_late say word

abbrev from_bad : {N : Type 0} → (List ℕ → Option N) → List ℕ → Option N
from_bad say word = if bytes_eq word (codes "bad") then say (codes "bad") else from_raise say word

abbrev from_cookies : {N : Type 0} → (List ℕ → Option N) → List ℕ → Option N
from_cookies say word = if bytes_eq word (codes "cookies") then say (codes "cookies") else from_bad say word

abbrev from_stream : {N : Type 0} → (List ℕ → Option N) → List ℕ → Option N
from_stream say word = if bytes_eq word (codes "stream") then say (codes "stream") else from_cookies say word

abbrev from_pieces : {N : Type 0} → (List ℕ → Option N) → List ℕ → Option N
from_pieces say word = if bytes_eq word (codes "pieces") then say (codes "pieces") else from_stream say word

abbrev from_env : {N : Type 0} → (List ℕ → Option N) → List ℕ → Option N
from_env say word = if bytes_eq word (codes "env") then say (codes "env") else from_pieces say word

abbrev from_echo : {N : Type 0} → (List ℕ → Option N) → List ℕ → Option N
from_echo say word = if bytes_eq word (codes "echo") then say (codes "echo") else from_env say word

app_again : (name : List ℕ) (ws texts : List (List ℕ)) (app : App) → 4 + (suc (length name) + total ws) ≤ 4097 → texts_of ws ≡ Some texts → app_of name texts ≡ Ok app → AppAgain app
unfolding name_of
app_again name ws texts app fits e g = by_text (bytes_eq name (codes "text")) refl g
  where
    by_part : (c : Bool) → bytes_eq name (codes "part") ≡ c → named_words (if c then name_of (codes "part") else None) texts ≡ Ok app → AppAgain app
    by_part true is f = let size : length name ≡ 4 = ap length (same_text name (codes "part") is) in part_cases ws texts app (omega (arith, fits, size)) e f
    by_part false is f = cc f

    by_take : (c : Bool) → bytes_eq name (codes "take") ≡ c → named_words (if c then name_of (codes "take") else from_part name_of name) texts ≡ Ok app → AppAgain app
    by_take true is f = let size : length name ≡ 4 = ap length (same_text name (codes "take") is) in take_cases ws texts app (omega (arith, fits, size)) e f
    by_take false is f = by_part (bytes_eq name (codes "part")) refl f

    by_late : (c : Bool) → bytes_eq name (codes "late") ≡ c → named_words (if c then name_of (codes "late") else from_take name_of name) texts ≡ Ok app → AppAgain app
    by_late true is f = let size : length name ≡ 4 = ap length (same_text name (codes "late") is) in late_cases ws texts app (omega (arith, fits, size)) e f
    by_late false is f = by_take (bytes_eq name (codes "take")) refl f

    by_raise : (c : Bool) → bytes_eq name (codes "raise") ≡ c → named_words (if c then name_of (codes "raise") else from_late name_of name) texts ≡ Ok app → AppAgain app
    by_raise true is f = let size : length name ≡ 5 = ap length (same_text name (codes "raise") is) in raise_cases ws texts app (omega (arith, fits, size)) e f
    by_raise false is f = by_late (bytes_eq name (codes "late")) refl f

    by_bad : (c : Bool) → bytes_eq name (codes "bad") ≡ c → named_words (if c then name_of (codes "bad") else from_raise name_of name) texts ≡ Ok app → AppAgain app
    by_bad true is f = let size : length name ≡ 3 = ap length (same_text name (codes "bad") is) in bad_cases ws texts app (omega (arith, fits, size)) e f
    by_bad false is f = by_raise (bytes_eq name (codes "raise")) refl f

    by_cookies : (c : Bool) → bytes_eq name (codes "cookies") ≡ c → named_words (if c then name_of (codes "cookies") else from_bad name_of name) texts ≡ Ok app → AppAgain app
    by_cookies true is f = let size : length name ≡ 7 = ap length (same_text name (codes "cookies") is) in cookies_cases ws texts app (omega (arith, fits, size)) e f
    by_cookies false is f = by_bad (bytes_eq name (codes "bad")) refl f

    by_stream : (c : Bool) → bytes_eq name (codes "stream") ≡ c → named_words (if c then name_of (codes "stream") else from_cookies name_of name) texts ≡ Ok app → AppAgain app
    by_stream true is f = let size : length name ≡ 6 = ap length (same_text name (codes "stream") is) in stream_cases ws texts app (omega (arith, fits, size)) e f
    by_stream false is f = by_cookies (bytes_eq name (codes "cookies")) refl f

    by_pieces : (c : Bool) → bytes_eq name (codes "pieces") ≡ c → named_words (if c then name_of (codes "pieces") else from_stream name_of name) texts ≡ Ok app → AppAgain app
    by_pieces true is f = let size : length name ≡ 6 = ap length (same_text name (codes "pieces") is) in pieces_cases ws texts app (omega (arith, fits, size)) e f
    by_pieces false is f = by_stream (bytes_eq name (codes "stream")) refl f

    by_env : (c : Bool) → bytes_eq name (codes "env") ≡ c → named_words (if c then name_of (codes "env") else from_pieces name_of name) texts ≡ Ok app → AppAgain app
    by_env true is f = bare_again Env app texts env_again f
    by_env false is f = by_pieces (bytes_eq name (codes "pieces")) refl f

    by_echo : (c : Bool) → bytes_eq name (codes "echo") ≡ c → named_words (if c then name_of (codes "echo") else from_env name_of name) texts ≡ Ok app → AppAgain app
    by_echo true is f = bare_again Echo app texts echo_again f
    by_echo false is f = by_env (bytes_eq name (codes "env")) refl f

    by_text : (c : Bool) → bytes_eq name (codes "text") ≡ c → named_words (if c then name_of (codes "text") else from_echo name_of name) texts ≡ Ok app → AppAgain app
    by_text true is f = let size : length name ≡ 4 = ap length (same_text name (codes "text") is) in text_cases ws texts app (omega (arith, fits, size)) e f
    by_text false is f = by_echo (bytes_eq name (codes "echo")) refl f

named_run : (name : List ℕ) (ws : List (List ℕ)) (app : App) → 4 + (suc (length name) + total ws) ≤ 4097 → (o : Option (List (List ℕ))) → texts_of ws ≡ o
    → by_texts RunLine (λ texts. app_of name texts) ws o ≡ RunLine app → AppAgain app
named_run name ws app fits None is e = by_ill (app_of name ws) e
  where
    by_ill : (r : Result App WordsFault) → ill_formed r ≡ RunLine app → AppAgain app
    by_ill (Ok w) h = cc h
    by_ill (Err fault) h = cc h
named_run name ws app fits (Some texts) is e = by_named (app_of name texts) refl e
  where
    by_named : (r : Result App WordsFault) → app_of name texts ≡ r → named RunLine r ≡ RunLine app → AppAgain app
    by_named (Ok w) k h = let same : w ≡ app = cc h in app_again name ws texts app fits is (k ∙ ap (λ x. Ok x) same)
    by_named (Err fault) k h = cc h

ran_again : (ws : List (List ℕ)) (app : App) → 4 + total ws ≤ 4097 → run_line ws ≡ RunLine app → AppAgain app
ran_again [] app fits e = cc e
ran_again (name ∷ ws) app fits e = named_run name ws app fits (texts_of ws) refl e

run_verb : (ws : List (List ℕ)) → said_by_words (codes "run" ∷ ws) ≡ run_line ws
unfolding verb_line
run_verb ws = refl

visible_run : AllVisible (codes "run")
visible_run = search rules

run_written : (app : App) → AppAgain app → said (run_text app) ≡ RunLine app
run_written app g =
    let size = g.size in
    written_says (codes "run") (app_words app) (RunLine app) (record { some = omega arith; visible = visible_run }) g.are (omega (arith, size)) (run_verb (app_words app) ∙ g.says)

run_case : (verb : List ℕ) (ws : List (List ℕ)) (app : App) → suc (length verb) + total ws ≤ 4097 → Verb verb ws (RunLine app) → AppAgain app
run_case verb ws app fits (ran is e) = let size : length verb ≡ 3 = ap length is in ran_again ws app (omega (arith, fits, size)) e
run_case verb ws app fits (used is e) = absurd (omega (arith, subst (λ (s : Said). MaySay 1 s) e (use_may ws)))
run_case verb ws app fits (mapped is e) = absurd (omega (arith, subst (λ (s : Said). MaySay 3 s) e (map_may ws)))
run_case verb ws app fits (ended e) = absurd (omega (arith, subst (λ (s : Said). MaySay 5 s) e (end_may ws)))
run_case verb ws app fits (tried e) = absurd (omega (arith, subst (λ (s : Said). MaySay 4 s) e (cascade_may ws)))
run_case verb ws app fits (unknown e) = cc e

run_words : (ws : List (List ℕ)) (app : App) → total ws ≤ 4097 → said_by_words ws ≡ RunLine app → AppAgain app
run_words [] app fits e = cc e
run_words (verb ∷ ws) app fits e = run_case verb ws app fits (verb_said verb ws (RunLine app) (λ h. cc h) e)

pub run_again : (line : List ℕ) (app : App) → said line ≡ RunLine app → said (run_text app) ≡ RunLine app
run_again line app e =
    let w = by_words line (RunLine app) (λ h. cc h) e in
    run_written app (run_words (words line) app w.size w.says)
