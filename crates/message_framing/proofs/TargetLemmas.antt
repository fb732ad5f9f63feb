-- The forms of a target, by the tests that part them.
use Rattle.std.proofs.Common.{◌≡◌, ℕ, ◌+◌, ◌<◌, ◌≤◌, Bool, true, false, ◌&&◌, nat_lt, if◌then◌else◌, List, length, take, drop, min, Option, None, Some, refl, ap, sym, ◌∙◌, arith, subst, length-take, length-drop, codes}
use Rattle.std.specs.List.{slice_range, position_or_len, before_first, list_all}
use Rattle.std.specs.Str.{bytes_eq}
use Rattle.std.proofs.lemmas.List.{drop-drop}
use Rattle.std.proofs.lemmas.Bool.{lt-ltb}
use Rattle.httparse.specs.declared.spans.Span.{Span}
use Rattle.rack_text.specs.Host.{is_valid_host}
use Rattle.rack_types.specs.Request.{IsWithinIf, path_or_root, span_bytes_if}
use Rattle.rack_types.specs.Rules.{begins_with_slash}
use Rattle.message_framing.specs.Target.{Target, absolute, ends_authority, from_path, is_question, is_target_byte, scheme_len, target_of}
use Rattle.message_framing.specs.declared.target.TargetSpans.{TargetSpans}
use Rattle.message_framing.specs.Places.{SpansTarget}
use Rattle.message_framing.proofs.HeadLemmas.{path_at, query_at, whole_rest}
use Rattle.message_framing.proofs.SliceLemmas.{slice_front}

-- the five cases, in their order
pub target_unclean : (method target : List ℕ) → list_all is_target_byte target ≡ false → target_of method target ≡ None
unfolding target_of
target_unclean method target unclean = rw unclean refl

pub target_slash : (method target : List ℕ) → list_all is_target_byte target ≡ true → begins_with_slash target ≡ true
    → target_of method target ≡ Some (from_path None target)
unfolding target_of
target_slash method target clean slash = rw (clean, slash) refl

pub target_scheme : (method target : List ℕ) → list_all is_target_byte target ≡ true → begins_with_slash target ≡ false
    → nat_lt 0 (scheme_len target) ≡ true → target_of method target ≡ absolute (drop (scheme_len target) target)
unfolding target_of
target_scheme method target clean slash scheme = rw (clean, slash, scheme) refl

pub target_asterisk : (method target : List ℕ) → list_all is_target_byte target ≡ true → begins_with_slash target ≡ false
    → nat_lt 0 (scheme_len target) ≡ false → bytes_eq target (codes "*") ≡ true → bytes_eq method (codes "OPTIONS") ≡ true
    → target_of method target ≡ Some (from_path None target)
unfolding target_of
target_asterisk method target clean slash scheme star options = rw (clean, slash, scheme, star, options) refl

pub target_other : (method target : List ℕ) → list_all is_target_byte target ≡ true → begins_with_slash target ≡ false
    → nat_lt 0 (scheme_len target) ≡ false → (bytes_eq target (codes "*") && bytes_eq method (codes "OPTIONS")) ≡ false
    → target_of method target ≡ None
unfolding target_of
target_other method target clean slash scheme other = rw (clean, slash, scheme, other) refl

-- a test below is a test of the number
pub no_scheme : (n m : ℕ) → n ≡ m → n ≤ 0 → nat_lt 0 m ≡ false
no_scheme n m is none = let zero : m ≡ 0 = omega (arith, is, none) in rw zero refl

pub some_scheme : (n m : ℕ) → n ≡ m → 0 < n → nat_lt 0 m ≡ true
some_scheme n m is some = let above : 0 < m = omega (arith, is, some) in lt-ltb 0 m above

-- the spans of a path and its query
pub spans_path : (authority : Option Span) (w : List ℕ) (from n q : ℕ) → from ≤ length w → IsWithinIf (length w) authority
    → n ≡ position_or_len is_question (drop from w) → n ≤ length (drop from w) → q ≡ min (length w) (from + n + 1)
    → SpansTarget (record { authority = authority; path = record { start = from; end = from + n }; query = record { start = q; end = length w } })
    w (from_path (span_bytes_if w authority) (drop from w))
unfolding from_path
spans_path authority w from n q fits inside place within cut =
    let room : from + n ≤ length w = omega (arith, within, length-drop from w) in record {
      authority_fits = inside;
      path_fits = (omega arith, room);
      query_fits = (omega (arith, cut), omega arith);
      authority = refl;
      path = ap path_or_root (path_at w from n fits place within);
      query = query_at w from n q fits place within cut;
    }

-- the authority of an absolute target: the bytes before the first `/` or `?` behind the scheme
pub authority_is : (rest : List ℕ) (n : ℕ) → n ≡ position_or_len ends_authority rest → take n rest ≡ before_first ends_authority rest
authority_is rest n place = ap (λ k. take k rest) place

authority_size : (rest : List ℕ) (n : ℕ) → n ≡ position_or_len ends_authority rest → n ≤ length rest
    → length (before_first ends_authority rest) ≡ n
authority_size rest n place within =
    ap length (sym (authority_is rest n place)) ∙ length-take n rest ∙ omega (arith, within)

pub and_false : (a b : Bool) → b ≡ false → (a && b) ≡ false
and_false true b is = is
and_false false b is = refl

-- what `absolute` gives, by its test
absolute_by : (rest : List ℕ) (test : Bool)
    → (nat_lt 0 (length (before_first ends_authority rest)) && is_valid_host (before_first ends_authority rest)) ≡ test
    → absolute rest ≡ (if test then Some (from_path (Some (before_first ends_authority rest)) (drop (length (before_first ends_authority rest)) rest)) else None)
absolute_by rest test is = ap (λ b. if b then Some (from_path (Some (before_first ends_authority rest)) (drop (length (before_first ends_authority rest)) rest)) else None) is

pub absolute_empty : (rest : List ℕ) (n : ℕ) → n ≡ position_or_len ends_authority rest → n ≤ length rest → n ≡ 0 → absolute rest ≡ None
absolute_empty rest n place within zero =
    let none : nat_lt 0 (length (before_first ends_authority rest)) ≡ false = no_scheme n _ (sym (authority_size rest n place within)) (omega (arith, zero)) in
    absolute_by rest false (ap (λ b. b && is_valid_host (before_first ends_authority rest)) none)

pub absolute_bad : (rest : List ℕ) (n : ℕ) → n ≡ position_or_len ends_authority rest → is_valid_host (take n rest) ≡ false → absolute rest ≡ None
absolute_bad rest n place bad =
    absolute_by rest false (and_false _ _ (ap is_valid_host (sym (authority_is rest n place)) ∙ bad))

pub absolute_good : (rest : List ℕ) (n : ℕ) → n ≡ position_or_len ends_authority rest → n ≤ length rest → 0 < n
    → is_valid_host (take n rest) ≡ true → absolute rest ≡ Some (from_path (Some (take n rest)) (drop n rest))
absolute_good rest n place within some valid =
    let size = authority_size rest n place within in
    let above : nat_lt 0 (length (before_first ends_authority rest)) ≡ true = some_scheme n _ (sym size) some in
    let host : is_valid_host (before_first ends_authority rest) ≡ true = ap is_valid_host (sym (authority_is rest n place)) ∙ valid in
    absolute_by rest true (ap (λ b. b && is_valid_host (before_first ends_authority rest)) above ∙ host)
    ∙ ap (λ a. Some (from_path (Some a) (drop (length (before_first ends_authority rest)) rest))) (sym (authority_is rest n place))
    ∙ ap (λ k. Some (from_path (Some (take n rest)) (drop k rest))) size

-- the spans of an absolute target
pub spans_absolute : (spans : TargetSpans) (w : List ℕ) (scheme n : ℕ) → scheme ≤ length w → n ≤ length (drop scheme w)
    → SpansTarget spans w (from_path (span_bytes_if w (Some (record { start = scheme; end = scheme + n }))) (drop (scheme + n) w))
    → SpansTarget spans w (from_path (Some (take n (drop scheme w))) (drop n (drop scheme w)))
spans_absolute spans w scheme n fits within h =
    let inside : scheme + n ≤ length w = omega (arith, within, length-drop scheme w) in
    let name : slice_range w scheme (scheme + n) ≡ take n (drop scheme w) =
    slice_front w scheme (length w) n inside ∙ ap (take n) (whole_rest w scheme fits) in
    let rest : drop (scheme + n) w ≡ drop n (drop scheme w) = sym (drop-drop n scheme w) in
    subst (λ (t : Target). SpansTarget spans w t) (ap (λ a. from_path (Some a) (drop (scheme + n) w)) name ∙ ap (from_path (Some (take n (drop scheme w)))) rest) h
