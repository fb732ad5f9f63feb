-- The lines `map` that are written for what was read.
use Rattle.std.proofs.Common.{◌≡◌, ℕ, suc, ◌+◌, ◌-◌, ◌≤◌, Bool, true, false, List, [], ◌∷◌, ◌++◌, length, take, Option, None, Some, refl, sym, ap, ◌∙◌, subst, length-append, arith, rules}
use Rattle.std.specs.Prelude.{◌==◌, if◌then◌else◌, codes, slice_get}
use Rattle.std.specs.List.{flat_map}
use Rattle.std.proofs.Math.Seq.{take-append_seam}
use Rattle.std.proofs.lemmas.Bool.{eqb-true}
use Rattle.rack_text.specs.Escaped.{unescaped, escaped}
use Rattle.rack_text.specs.Escaped as text
use Rattle.stack_file.specs.Canon.{wants_slash, place_text}
use Rattle.stack_file.specs.Lines.{words}
use Rattle.stack_file.specs.Said.{Said, MapLine, said, said_by_words, verb_line, map_line, text_placed, placed, place_of, last_byte, is_slash, without_slash}
use Rattle.stack_file.proofs.EscapeLemmas.{AllVisible, IsWord, AllBytes, IsShort, escaped_short, escaped_word, escaped_again}
use Rattle.stack_file.proofs.UseLemmas.{MaySay, use_may, run_may, end_may, cascade_may, verb_said, written_says}
use Rattle.stack_file.proofs.WalkLemmas.{map_text}
use Rattle.stack_file.proofs.WordLemmas.{total, by_words, Verb, used, mapped, ended, ran, tried, unknown}

at_seam : (p : List ℕ) (b : ℕ) → slice_get (p ++ b ∷ []) (length p) ≡ Some b
at_seam [] b = refl
at_seam (x ∷ p) b = at_seam p b

last_at : (p : List ℕ) (b : ℕ) → length (p ++ b ∷ []) - 1 ≡ length p
last_at p b = omega (arith, length-append p (b ∷ []))

last_seam : (p : List ℕ) (b : ℕ) → last_byte (p ++ b ∷ []) ≡ Some b
last_seam p b = ap (λ n. slice_get (p ++ b ∷ []) n) (last_at p b) ∙ at_seam p b

front_seam : (p : List ℕ) (b : ℕ) → take (length (p ++ b ∷ []) - 1) (p ++ b ∷ []) ≡ p
front_seam p b = ap (λ n. take n (p ++ b ∷ [])) (last_at p b) ∙ take-append_seam p (b ∷ [])

pub record Ends (t : List ℕ) : Type 0 where
  pub front : List ℕ
  pub last : ℕ
  pub is : front ++ last ∷ [] ≡ t

ends : (b : ℕ) (t : List ℕ) → Ends (b ∷ t)
ends b [] = record { front = []; last = b; is = refl }
ends b (c ∷ t) = let more = ends c t in record { front = b ∷ more.front; last = more.last; is = ap (λ x. b ∷ x) more.is }

-- the place that is written is read again
pub record PlaceAgain (t place : List ℕ) : Type 0 where
  pub bytes : AllBytes (place_text place)
  pub size : length (escaped (place_text place)) ≤ length (escaped t)
  pub again : place_of (place_text place) ≡ Some place

whole_again : (t place : List ℕ) → AllBytes t → place_of t ≡ Some place → t ≡ place_text place → PlaceAgain t place
whole_again t place h e f = record {
  bytes = subst (λ (x : List ℕ). AllBytes x) f h;
  size = subst (λ (x : List ℕ). length (escaped x) ≤ length (escaped t)) f (omega arith);
  again = subst (λ (x : List ℕ). place_of x ≡ Some place) f e;
}

front_bytes : (p : List ℕ) (b : ℕ) → AllBytes (p ++ b ∷ []) → AllBytes p
front_bytes [] b h = tt
front_bytes (x ∷ p) b h = (h.0, front_bytes p b h.1)

spellings_more : (p : List ℕ) (b : ℕ) → length (flat_map text.spelling p) ≤ length (flat_map text.spelling (p ++ b ∷ []))
spellings_more [] b = omega arith
spellings_more (x ∷ p) b = let more = spellings_more p b in omega (arith, more, length-append (text.spelling x) (flat_map text.spelling p), length-append (text.spelling x) (flat_map text.spelling (p ++ b ∷ [])))

escaped_more : (x : ℕ) (p : List ℕ) (b : ℕ) → length (escaped (x ∷ p)) ≤ length (escaped ((x ∷ p) ++ b ∷ []))
unfolding text.escaped
escaped_more x p b = spellings_more (x ∷ p) b

not_slash : (o : Option ℕ) → wants_slash o ≡ false → is_slash o ≡ false
not_slash None e = cc e
not_slash (Some b) e = e

-- one `/` at the end was dropped
front_again : (p : List ℕ) → AllBytes (p ++ 47 ∷ []) → is_slash (slice_get (p ++ 47 ∷ []) 0) ≡ true → wants_slash (last_byte p) ≡ false → PlaceAgain (p ++ 47 ∷ []) p
front_again [] h first e = cc e
front_again (x ∷ p) h first e =
    let same : x ∷ p ≡ place_text (x ∷ p) = sym (ap (λ w. if w then (x ∷ p) ++ 47 ∷ [] else x ∷ p) e) in
    let reads : place_of (x ∷ p) ≡ Some (x ∷ p) =
    ap (λ s. if s then Some (without_slash (x ∷ p)) else None) first
    ∙ ap (λ s. Some (if s then take (length (x ∷ p) - 1) (x ∷ p) else x ∷ p)) (not_slash (last_byte (x ∷ p)) e) in
    record {
      bytes = subst (λ (t : List ℕ). AllBytes t) same (front_bytes (x ∷ p) 47 h);
      size = subst (λ (t : List ℕ). length (escaped t) ≤ length (escaped ((x ∷ p) ++ 47 ∷ []))) same (escaped_more x p 47);
      again = subst (λ (t : List ℕ). place_of t ≡ Some (x ∷ p)) same reads;
    }

seam_again : (p : List ℕ) (b : ℕ) (place : List ℕ) → AllBytes (p ++ b ∷ []) → is_slash (slice_get (p ++ b ∷ []) 0) ≡ true → without_slash (p ++ b ∷ []) ≡ place → PlaceAgain (p ++ b ∷ []) place
seam_again p b place h first e = by_slash (b == 47) refl
  where
    reads : place_of (p ++ b ∷ []) ≡ Some place
    reads = ap (λ s. if s then Some (without_slash (p ++ b ∷ [])) else None) first ∙ ap (λ x. Some x) e

    slash : is_slash (last_byte (p ++ b ∷ [])) ≡ (b == 47)
    slash = ap (λ o. is_slash o) (last_seam p b)

    by_front : (w : Bool) → wants_slash (last_byte p) ≡ w → b ≡ 47 → p ≡ place → PlaceAgain (p ++ b ∷ []) place
    by_front true is f g =
        whole_again (p ++ b ∷ []) place h reads
        (ap (λ c. p ++ c ∷ []) f ∙ sym (ap (λ w. if w then p ++ 47 ∷ [] else p) is) ∙ ap (λ x. place_text x) g)
    by_front false is f g =
        subst (λ (x : List ℕ). PlaceAgain (p ++ b ∷ []) x) g
        (subst (λ (c : ℕ). PlaceAgain (p ++ c ∷ []) p) (sym f) (front_again p (subst (λ (c : ℕ). AllBytes (p ++ c ∷ [])) f h) (subst (λ (c : ℕ). is_slash (slice_get (p ++ c ∷ []) 0) ≡ true) f first) is))

    by_slash : (s : Bool) → b == 47 ≡ s → PlaceAgain (p ++ b ∷ []) place
    by_slash true is =
        by_front (wants_slash (last_byte p)) refl (eqb-true b 47 is)
        (sym (front_seam p b) ∙ sym (ap (λ s. if s then take (length (p ++ b ∷ []) - 1) (p ++ b ∷ []) else p ++ b ∷ []) (slash ∙ is)) ∙ e)
    by_slash false is =
        let same : p ++ b ∷ [] ≡ place = sym (ap (λ s. if s then take (length (p ++ b ∷ []) - 1) (p ++ b ∷ []) else p ++ b ∷ []) (slash ∙ is)) ∙ e in
        whole_again (p ++ b ∷ []) place h reads
        (sym (ap (λ w. if w then (p ++ b ∷ []) ++ 47 ∷ [] else p ++ b ∷ []) (ap (λ o. wants_slash o) (last_seam p b) ∙ is)) ∙ ap (λ x. place_text x) same)

place_again : (t place : List ℕ) → AllBytes t → place_of t ≡ Some place → PlaceAgain t place
place_again [] place h e = cc e
place_again (c ∷ r) place h e = by_first (c == 47) refl e
  where
    by_first : (s : Bool) → c == 47 ≡ s → (if s then Some (without_slash (c ∷ r)) else None) ≡ Some place → PlaceAgain (c ∷ r) place
    by_first true is f =
        let parts = ends c r in
        subst (λ (t : List ℕ). PlaceAgain t place) parts.is
        (seam_again parts.front parts.last place (subst (λ (t : List ℕ). AllBytes t) (sym parts.is) h) (ap (λ t. is_slash (slice_get t 0)) parts.is ∙ is) (ap (λ t. without_slash t) parts.is ∙ cc f))
    by_first false is f = cc f

-- the word that is written for a place
pub record MapAgain (word place : List ℕ) : Type 0 where
  pub size : length (escaped (place_text place)) ≤ length word
  pub is : IsWord (escaped (place_text place))
  pub says : map_line (escaped (place_text place) ∷ []) ≡ MapLine place

mapped_word : (word t place : List ℕ) → IsShort word t → place_of t ≡ Some place → length (escaped t) ≤ length word → MapAgain word place
mapped_word word t place s e fits =
    let g = place_again t place s.bytes e in
    let size = g.size in
    record {
      size = omega (arith, size, fits);
      is = escaped_word (place_text place) g.bytes;
      says = ap (λ o. text_placed o) (escaped_again (place_text place) g.bytes) ∙ ap (λ o. placed o) g.again;
    }

mapped_again : (word place : List ℕ) (o : Option (List ℕ)) → ((t : List ℕ) → o ≡ Some t → IsShort word t) → text_placed o ≡ MapLine place → MapAgain word place
mapped_again word place None f e = cc e
mapped_again word place (Some t) f e = by_place (place_of t) refl e
  where
    by_place : (q : Option (List ℕ)) → place_of t ≡ q → placed q ≡ MapLine place → MapAgain word place
    by_place None is g = cc g
    by_place (Some p) is g = let same : p ≡ place = cc g in mapped_word word t place (f t refl) (is ∙ ap (λ x. Some x) same) ((f t refl).size)

map_verb : (ws : List (List ℕ)) → said_by_words (codes "map" ∷ ws) ≡ map_line ws
unfolding verb_line
map_verb ws = refl

visible_map : AllVisible (codes "map")
visible_map = search rules

map_written : (word place : List ℕ) → 4 + (suc (length word) + 0) ≤ 4097 → MapAgain word place → said (map_text place) ≡ MapLine place
map_written word place fits g =
    let size = g.size in
    written_says (codes "map") (escaped (place_text place) ∷ []) (MapLine place) (record { some = omega arith; visible = visible_map }) (g.is, tt) (omega (arith, size, fits)) (map_verb (escaped (place_text place) ∷ []) ∙ g.says)

map_arguments : (ws : List (List ℕ)) (place : List ℕ) → 4 + total ws ≤ 4097 → map_line ws ≡ MapLine place → said (map_text place) ≡ MapLine place
map_arguments [] place fits e = cc e
map_arguments (word ∷ []) place fits e = map_written word place fits (mapped_again word place (unescaped word) (escaped_short word) e)
map_arguments (word ∷ w ∷ ws) place fits e = cc e

map_case : (verb : List ℕ) (ws : List (List ℕ)) (place : List ℕ) → suc (length verb) + total ws ≤ 4097 → Verb verb ws (MapLine place) → said (map_text place) ≡ MapLine place
map_case verb ws place fits (mapped is e) = let size : length verb ≡ 3 = ap length is in map_arguments ws place (omega (arith, fits, size)) e
map_case verb ws place fits (used is e) = absurd (omega (arith, subst (λ (s : Said). MaySay 1 s) e (use_may ws)))
map_case verb ws place fits (ended e) = absurd (omega (arith, subst (λ (s : Said). MaySay 5 s) e (end_may ws)))
map_case verb ws place fits (ran is e) = absurd (omega (arith, subst (λ (s : Said). MaySay 2 s) e (run_may ws)))
map_case verb ws place fits (tried e) = absurd (omega (arith, subst (λ (s : Said). MaySay 4 s) e (cascade_may ws)))
map_case verb ws place fits (unknown e) = cc e

map_words : (ws : List (List ℕ)) (place : List ℕ) → total ws ≤ 4097 → said_by_words ws ≡ MapLine place → said (map_text place) ≡ MapLine place
map_words [] place fits e = cc e
map_words (verb ∷ ws) place fits e = map_case verb ws place fits (verb_said verb ws (MapLine place) (λ h. cc h) e)

pub map_again : (line place : List ℕ) → said line ≡ MapLine place → said (map_text place) ≡ MapLine place
map_again line place e =
    let w = by_words line (MapLine place) (λ h. cc h) e in
    map_words (words line) place w.size w.says
