-- The lines `use` that are written for what was read.
use Rattle.std.proofs.Common.{◌≡◌, ℕ, suc, ◌+◌, ◌≤◌, Bool, true, false, List, [], ◌∷◌, ◌++◌, length, Option, None, Some, Result, Ok, Err, refl, sym, ap, ◌∙◌, subst, length-append, arith, rules}
use Rattle.std.specs.Prelude.{if◌then◌else◌, ⊤, codes, bytes_eq}
use Rattle.std.proofs.lemmas.Slice.Eq.{bytes_eq-Decides}
use Rattle.rack_text.specs.Escaped.{unescaped, escaped}
use Rattle.rack_text.specs.Escaped as text
use Rattle.stock_apps.specs.declared.words.WordsFault.{WordsFault}
use Rattle.stock_apps.specs.declared.words.WordsFault.TheVariants.{Unknown}
use Rattle.stock_middleware.specs.declared.ware.Ware.{Ware}
use Rattle.stock_middleware.specs.declared.ware.Ware.TheVariants.{Head, ContentLength, ContentType, MethodOverride, SetHeader, Lint}
use Rattle.stock_apps.specs.declared.app.App.{App}
use Rattle.stock_apps.specs.Words.{app_of}
use Rattle.stack_file.specs.Canon.{spaced, arguments, ware_words}
use Rattle.stack_file.specs.Lines.{words}
use Rattle.stack_file.specs.Said.{Said, Nothing, UseLine, RunLine, MapLine, CascadeLine, EndLine, Breaks, said, said_by_words, verb_line, with_text, texts_of, named, ill_formed, by_texts, use_line, map_line, text_placed, placed, place_of, run_line, bare_line, is_comment}
use Rattle.stack_file.specs.Wares.{ware_of, without_arguments, type_of, header_of}
use Rattle.stack_file.proofs.EscapeLemmas.{AllVisible, IsWord, AllBytes, IsShort, escaped_short, escaped_word, escaped_again}
use Rattle.stack_file.proofs.WalkLemmas.{use_text}
use Rattle.stack_file.proofs.WordLemmas.{AllWords, said_words, total, spaced_size, by_words, Verb, used, mapped, ended, ran, tried, unknown, verb_cases}

-- a written line is short enough, and says what its words say
pub written_says : (verb : List ℕ) (ws : List (List ℕ)) (what : Said) → IsWord verb → AllWords ws → suc (length verb) + total ws ≤ 4097 → said_by_words (verb ∷ ws) ≡ what → said (verb ++ spaced ws) ≡ what
written_says verb ws what h k size e = said_words verb ws h k (omega (arith, size, length-append verb (spaced ws), spaced_size ws)) ∙ e

-- texts that were read from words
pub record AreRead (ws texts : List (List ℕ)) : Type 0 where
  pub size : total (arguments texts) ≤ total ws
  pub are : AllWords (arguments texts)
  pub again : texts_of (arguments texts) ≡ Some texts

one_read : (word : List ℕ) (ws : List (List ℕ)) (text : List ℕ) (texts : List (List ℕ)) → IsShort word text → AreRead ws texts → AreRead (word ∷ ws) (text ∷ texts)
one_read word ws text texts s r =
    let size = s.size in
    let more = r.size in
    record {
      size = omega (arith, size, more);
      are = (escaped_word text s.bytes, r.are);
      again = ap (λ o. with_text o (texts_of (arguments texts))) (escaped_again text s.bytes) ∙ ap (λ o. with_text (Some text) o) r.again;
    }

none_read : (texts : List (List ℕ)) → Some [] ≡ Some texts → AreRead [] texts
none_read texts e = let same : [] ≡ texts = cc e in subst (λ (x : List (List ℕ)). AreRead [] x) same (record { size = omega arith; are = tt; again = refl })

pub are_read : (ws texts : List (List ℕ)) → texts_of ws ≡ Some texts → AreRead ws texts
are_read [] texts e = none_read texts e
are_read (word ∷ ws) texts e = by_first (unescaped word) (texts_of ws) (escaped_short word) (are_read ws) texts e
  where
    by_first : (o : Option (List ℕ)) (r : Option (List (List ℕ))) → ((t : List ℕ) → o ≡ Some t → IsShort word t) → ((ts : List (List ℕ)) → r ≡ Some ts → AreRead ws ts) → (all : List (List ℕ)) → with_text o r ≡ Some all → AreRead (word ∷ ws) all
    by_first None r f g all h = cc h
    by_first (Some t) None f g all h = cc h
    by_first (Some t) (Some ts) f g all h = let same : t ∷ ts ≡ all = cc h in subst (λ (x : List (List ℕ)). AreRead (word ∷ ws) x) same (one_read word ws t ts (f t refl) (g ts refl))

same_text : (xs ys : List ℕ) → bytes_eq xs ys ≡ true → xs ≡ ys
same_text xs ys e = (bytes_eq-Decides xs ys).0 e

-- the words that are written for a middleware
pub record WareAgain (ware : Ware) : Type 0 where
  pub size : 4 + total (ware_words ware) ≤ 4097
  pub are : AllWords (ware_words ware)
  pub says : use_line (ware_words ware) ≡ UseLine ware

visible_head : AllVisible (codes "head")
visible_head = search rules

head_again : WareAgain Head
unfolding ware_of
head_again = record { size = omega arith; are = (record { some = omega arith; visible = visible_head }, tt); says = refl }

visible_length : AllVisible (codes "content_length")
visible_length = search rules

length_again : WareAgain ContentLength
unfolding ware_of
length_again = record { size = omega arith; are = (record { some = omega arith; visible = visible_length }, tt); says = refl }

visible_method : AllVisible (codes "method_override")
visible_method = search rules

method_again : WareAgain MethodOverride
unfolding ware_of
method_again = record { size = omega arith; are = (record { some = omega arith; visible = visible_method }, tt); says = refl }

visible_lint : AllVisible (codes "lint")
visible_lint = search rules

lint_again : WareAgain Lint
unfolding ware_of
lint_again = record { size = omega arith; are = (record { some = omega arith; visible = visible_lint }, tt); says = refl }

visible_type : AllVisible (codes "content_type")
visible_type = search rules

visible_header : AllVisible (codes "set_header")
visible_header = search rules

-- one that takes texts
type_again : (ws : List (List ℕ)) (kind : List ℕ) → 17 + total ws ≤ 4097 → AreRead ws (kind ∷ []) → WareAgain (ContentType kind)
unfolding ware_of
type_again ws kind fits r =
    let size = r.size in
    record {
      size = omega (arith, fits, size);
      are = (record { some = omega arith; visible = visible_type }, r.are);
      says = ap (λ o. by_texts UseLine (λ texts. ware_of (codes "content_type") texts) (arguments (kind ∷ [])) o) r.again;
    }

header_again : (ws : List (List ℕ)) (name value : List ℕ) → 15 + total ws ≤ 4097 → AreRead ws (name ∷ value ∷ []) → WareAgain (SetHeader name value)
unfolding ware_of
header_again ws name value fits r =
    let size = r.size in
    record {
      size = omega (arith, fits, size);
      are = (record { some = omega arith; visible = visible_header }, r.are);
      says = ap (λ o. by_texts UseLine (λ texts. ware_of (codes "set_header") texts) (arguments (name ∷ value ∷ [])) o) r.again;
    }

html_bytes : AllBytes (codes "text/html")
html_bytes = search rules

html_size : length (escaped (codes "text/html")) ≤ 9
unfolding text.escaped text.spelling
html_size = omega arith

html_again : WareAgain (ContentType (codes "text/html"))
unfolding ware_of
html_again =
    let size = html_size in
    record {
      size = omega (arith, size);
      are = (record { some = omega arith; visible = visible_type }, (escaped_word (codes "text/html") html_bytes, tt));
      says = ap (λ o. by_texts UseLine (λ texts. ware_of (codes "content_type") texts) (arguments (codes "text/html" ∷ [])) (with_text o (Some []))) (escaped_again (codes "text/html") html_bytes);
    }

bare_again : (made ware : Ware) (texts : List (List ℕ)) → WareAgain made → without_arguments made texts ≡ Ok ware → WareAgain ware
bare_again made ware [] g e = let same : made ≡ ware = cc e in subst (λ (w : Ware). WareAgain w) same g
bare_again made ware (t ∷ ts) g e = cc e

type_cases : (ws texts : List (List ℕ)) (ware : Ware) → 17 + total ws ≤ 4097 → AreRead ws texts → type_of texts ≡ Ok ware → WareAgain ware
type_cases ws [] ware fits r e = let same : ContentType (codes "text/html") ≡ ware = cc e in subst (λ (w : Ware). WareAgain w) same html_again
type_cases ws (kind ∷ []) ware fits r e = let same : ContentType kind ≡ ware = cc e in subst (λ (w : Ware). WareAgain w) same (type_again ws kind fits r)
type_cases ws (kind ∷ t ∷ ts) ware fits r e = cc e

header_cases : (ws texts : List (List ℕ)) (ware : Ware) → 15 + total ws ≤ 4097 → AreRead ws texts → header_of texts ≡ Ok ware → WareAgain ware
header_cases ws [] ware fits r e = cc e
header_cases ws (name ∷ []) ware fits r e = cc e
header_cases ws (name ∷ value ∷ []) ware fits r e = let same : SetHeader name value ≡ ware = cc e in subst (λ (w : Ware). WareAgain w) same (header_again ws name value fits r)
header_cases ws (name ∷ value ∷ t ∷ ts) ware fits r e = cc e

ware_again : (name : List ℕ) (ws texts : List (List ℕ)) (ware : Ware) → 4 + (suc (length name) + total ws) ≤ 4097 → AreRead ws texts → ware_of name texts ≡ Ok ware → WareAgain ware
unfolding ware_of
ware_again name ws texts ware fits r e = by_head (bytes_eq name (codes "head")) refl e
  where
    by_set_header : (c : Bool) → bytes_eq name (codes "set_header") ≡ c → (if c then header_of texts else Err Unknown) ≡ Ok ware → WareAgain ware
    by_set_header true is f = let size : length name ≡ 10 = ap length (same_text name (codes "set_header") is) in header_cases ws texts ware (omega (arith, fits, size)) r f
    by_set_header false is f = cc f

    by_content_type : (c : Bool) → bytes_eq name (codes "content_type") ≡ c → (if c then type_of texts else if bytes_eq name (codes "set_header") then header_of texts else Err Unknown) ≡ Ok ware → WareAgain ware
    by_content_type true is f = let size : length name ≡ 12 = ap length (same_text name (codes "content_type") is) in type_cases ws texts ware (omega (arith, fits, size)) r f
    by_content_type false is f = by_set_header (bytes_eq name (codes "set_header")) refl f

    by_lint : (c : Bool) → bytes_eq name (codes "lint") ≡ c → (if c then without_arguments Lint texts else if bytes_eq name (codes "content_type") then type_of texts else if bytes_eq name (codes "set_header") then header_of texts else Err Unknown) ≡ Ok ware → WareAgain ware
    by_lint true is f = bare_again Lint ware texts lint_again f
    by_lint false is f = by_content_type (bytes_eq name (codes "content_type")) refl f

    by_method_override : (c : Bool) → bytes_eq name (codes "method_override") ≡ c → (if c then without_arguments MethodOverride texts else if bytes_eq name (codes "lint") then without_arguments Lint texts else if bytes_eq name (codes "content_type") then type_of texts else if bytes_eq name (codes "set_header") then header_of texts else Err Unknown) ≡ Ok ware → WareAgain ware
    by_method_override true is f = bare_again MethodOverride ware texts method_again f
    by_method_override false is f = by_lint (bytes_eq name (codes "lint")) refl f

    by_content_length : (c : Bool) → bytes_eq name (codes "content_length") ≡ c → (if c then without_arguments ContentLength texts else if bytes_eq name (codes "method_override") then without_arguments MethodOverride texts else if bytes_eq name (codes "lint") then without_arguments Lint texts else if bytes_eq name (codes "content_type") then type_of texts else if bytes_eq name (codes "set_header") then header_of texts else Err Unknown) ≡ Ok ware → WareAgain ware
    by_content_length true is f = bare_again ContentLength ware texts length_again f
    by_content_length false is f = by_method_override (bytes_eq name (codes "method_override")) refl f

    by_head : (c : Bool) → bytes_eq name (codes "head") ≡ c → (if c then without_arguments Head texts else if bytes_eq name (codes "content_length") then without_arguments ContentLength texts else if bytes_eq name (codes "method_override") then without_arguments MethodOverride texts else if bytes_eq name (codes "lint") then without_arguments Lint texts else if bytes_eq name (codes "content_type") then type_of texts else if bytes_eq name (codes "set_header") then header_of texts else Err Unknown) ≡ Ok ware → WareAgain ware
    by_head true is f = bare_again Head ware texts head_again f
    by_head false is f = by_content_length (bytes_eq name (codes "content_length")) refl f

-- what `use` says, from which words
named_use : (name : List ℕ) (ws : List (List ℕ)) (ware : Ware) → 4 + (suc (length name) + total ws) ≤ 4097 → (o : Option (List (List ℕ))) → ((texts : List (List ℕ)) → o ≡ Some texts → AreRead ws texts)
    → by_texts UseLine (λ texts. ware_of name texts) ws o ≡ UseLine ware → WareAgain ware
named_use name ws ware fits None f e = by_ill (ware_of name ws) e
  where
    by_ill : (r : Result Ware WordsFault) → ill_formed r ≡ UseLine ware → WareAgain ware
    by_ill (Ok w) h = cc h
    by_ill (Err fault) h = cc h
named_use name ws ware fits (Some texts) f e = by_named (ware_of name texts) refl e
  where
    by_named : (r : Result Ware WordsFault) → ware_of name texts ≡ r → named UseLine r ≡ UseLine ware → WareAgain ware
    by_named (Ok w) is h = let same : w ≡ ware = cc h in ware_again name ws texts ware fits (f texts refl) (is ∙ ap (λ x. Ok x) same)
    by_named (Err fault) is h = cc h

pub used_again : (ws : List (List ℕ)) (ware : Ware) → 4 + total ws ≤ 4097 → use_line ws ≡ UseLine ware → WareAgain ware
used_again [] ware fits e = cc e
used_again (name ∷ ws) ware fits e = named_use name ws ware fits (texts_of ws) (are_read ws) e

-- what the other lines may say
abbrev pub MaySay : ℕ → Said → Type 0
MaySay n Nothing = ⊥
MaySay n (UseLine ware) = n ≡ 1
MaySay n (RunLine app) = n ≡ 2
MaySay n (MapLine place) = n ≡ 3
MaySay n CascadeLine = n ≡ 4
MaySay n EndLine = n ≡ 5
MaySay n (Breaks rule) = ⊤

ill_may : {A : Type 0} (n : ℕ) (r : Result A WordsFault) → MaySay n (ill_formed r)
ill_may n (Ok a) = tt
ill_may n (Err fault) = tt

pub use_may : (ws : List (List ℕ)) → MaySay 1 (use_line ws)
use_may [] = tt
use_may (name ∷ ws) = by_read (texts_of ws)
  where
    by_named : (r : Result Ware WordsFault) → MaySay 1 (named UseLine r)
    by_named (Ok w) = refl
    by_named (Err fault) = tt

    by_read : (o : Option (List (List ℕ))) → MaySay 1 (by_texts UseLine (λ texts. ware_of name texts) ws o)
    by_read None = ill_may 1 (ware_of name ws)
    by_read (Some texts) = by_named (ware_of name texts)

pub run_may : (ws : List (List ℕ)) → MaySay 2 (run_line ws)
run_may [] = tt
run_may (name ∷ ws) = by_read (texts_of ws)
  where
    by_named : (r : Result App WordsFault) → MaySay 2 (named RunLine r)
    by_named (Ok a) = refl
    by_named (Err fault) = tt

    by_read : (o : Option (List (List ℕ))) → MaySay 2 (by_texts RunLine (λ texts. app_of name texts) ws o)
    by_read None = ill_may 2 (app_of name ws)
    by_read (Some texts) = by_named (app_of name texts)

pub map_may : (ws : List (List ℕ)) → MaySay 3 (map_line ws)
map_may [] = tt
map_may (word ∷ []) = by_text (unescaped word)
  where
    by_place : (o : Option (List ℕ)) → MaySay 3 (placed o)
    by_place None = tt
    by_place (Some place) = refl

    by_text : (o : Option (List ℕ)) → MaySay 3 (text_placed o)
    by_text None = tt
    by_text (Some t) = by_place (place_of t)
map_may (word ∷ w ∷ ws) = tt

pub end_may : (ws : List (List ℕ)) → MaySay 5 (bare_line EndLine ws)
end_may [] = refl
end_may (w ∷ ws) = tt

pub cascade_may : (ws : List (List ℕ)) → MaySay 4 (bare_line CascadeLine ws)
cascade_may [] = refl
cascade_may (w ∷ ws) = tt

use_verb : (ws : List (List ℕ)) → said_by_words (codes "use" ∷ ws) ≡ use_line ws
unfolding verb_line
use_verb ws = refl

visible_use : AllVisible (codes "use")
visible_use = search rules

use_written : (ware : Ware) → WareAgain ware → said (use_text ware) ≡ UseLine ware
use_written ware g =
    let size = g.size in
    written_says (codes "use") (ware_words ware) (UseLine ware) (record { some = omega arith; visible = visible_use }) g.are (omega (arith, size)) (use_verb (ware_words ware) ∙ g.says)

use_case : (verb : List ℕ) (ws : List (List ℕ)) (ware : Ware) → suc (length verb) + total ws ≤ 4097 → Verb verb ws (UseLine ware) → WareAgain ware
use_case verb ws ware fits (used is e) = let size : length verb ≡ 3 = ap length is in used_again ws ware (omega (arith, fits, size)) e
use_case verb ws ware fits (mapped is e) = absurd (omega (arith, subst (λ (s : Said). MaySay 3 s) e (map_may ws)))
use_case verb ws ware fits (ended e) = absurd (omega (arith, subst (λ (s : Said). MaySay 5 s) e (end_may ws)))
use_case verb ws ware fits (ran is e) = absurd (omega (arith, subst (λ (s : Said). MaySay 2 s) e (run_may ws)))
use_case verb ws ware fits (tried e) = absurd (omega (arith, subst (λ (s : Said). MaySay 4 s) e (cascade_may ws)))
use_case verb ws ware fits (unknown e) = cc e

-- what words say, where it isn't nothing
pub verb_said : (verb : List ℕ) (ws : List (List ℕ)) (what : Said) → (what ≡ Nothing → ⊥) → said_by_words (verb ∷ ws) ≡ what → Verb verb ws what
verb_said verb ws what other e = by_comment (is_comment verb) e
  where
    by_comment : (c : Bool) → (if c then Nothing else verb_line verb ws) ≡ what → Verb verb ws what
    by_comment true f = absurd (other (sym f))
    by_comment false f = verb_cases verb ws what f

use_words : (ws : List (List ℕ)) (ware : Ware) → total ws ≤ 4097 → said_by_words ws ≡ UseLine ware → WareAgain ware
use_words [] ware fits e = cc e
use_words (verb ∷ ws) ware fits e = use_case verb ws ware fits (verb_said verb ws (UseLine ware) (λ h. cc h) e)

pub use_again : (line : List ℕ) (ware : Ware) → said line ≡ UseLine ware → said (use_text ware) ≡ UseLine ware
use_again line ware e =
    let w = by_words line (UseLine ware) (λ h. cc h) e in
    use_written ware (use_words (words line) ware w.size w.says)
