-- A head has a line for each field beside the request line and the empty line, and no other.
use mathlib.Core.Bool.{cond}
use Rattle.std.proofs.Common.{◌≡◌, ℕ, ◌+◌, ◌-◌, Bool, true, false, ◌==◌, List, [], ◌∷◌, ◌++◌, length, drop, count_by, codes, refl, ap, sym, ◌∙◌, subst, arith}
use Rattle.std.specs.List.{flat_map}
use Rattle.std.proofs.lemmas.Bool.{eqb-true, le-ltb}
use Rattle.std.proofs.lemmas.List.{append-nil}
use Rattle.std.proofs.lemmas.List.Elements.{All-head, All-tail}
use Rattle.std.proofs.lemmas.List.Sums.{sum_by-cons, sum_by-append}
use Rattle.std.specs.Prelude.{All, IsTrue}
use Rattle.httparse.specs.Grammar.{LineEnd, Field, RequestHead, IsField, IsRequestHead, AllPass, is_token_byte, is_uri_byte, is_value_byte, print_end, print_blank, print_field, print_section, print_version, print_request}
use Rattle.httparse.specs.Grammar as grammar
use Rattle.message_framing.specs.HeadText.{skipped}
use Rattle.message_framing.specs.Head.{IsHead, is_line_feed}
use Rattle.message_framing.specs.Request.{has_too_many_lines}
use Rattle.message_framing.proofs.HeadTextLemmas.{not_feed}

abbrev feeds : List ℕ → ℕ
feeds bytes = count_by is_line_feed bytes

feeds-cons : (b : ℕ) (bytes : List ℕ) → feeds (b ∷ bytes) ≡ cond (b == 10) 1 0 + feeds bytes
feeds-cons b bytes = sum_by-cons (λ y. cond (is_line_feed y) 1 0) b bytes

feeds-other : (b : ℕ) (bytes : List ℕ) → (b == 10) ≡ false → feeds (b ∷ bytes) ≡ feeds bytes
feeds-other b bytes other = feeds-cons b bytes ∙ ap (λ (t : Bool). cond t 1 0 + feeds bytes) other ∙ omega arith

feeds-append : (a b : List ℕ) → feeds (a ++ b) ≡ feeds a + feeds b
feeds-append a b = sum_by-append (λ y. cond (is_line_feed y) 1 0) a b

-- bytes of a class without the line feed have none
no_feeds : (test : ℕ → Bool) → test 10 ≡ false → (bytes : List ℕ) → AllPass test bytes → feeds bytes ≡ 0
no_feeds test out [] h = refl
no_feeds test out (b ∷ bytes) h = here (b == 10) refl (no_feeds test out bytes (All-tail (λ x. IsTrue (test x)) b bytes h))
  where
    here : (t : Bool) → (b == 10) ≡ t → feeds bytes ≡ 0 → feeds (b ∷ bytes) ≡ 0
    here true is later =
        absurd (let passes : test b ≡ true = All-head (λ x. IsTrue (test x)) b bytes h in
        let clash : false ≡ true = sym out ∙ ap test (sym (eqb-true b 10 is)) ∙ passes in cc)
    here false is later = feeds-other b bytes is ∙ later

token_class : is_token_byte 10 ≡ false
unfolding is_token_byte
token_class = refl

end_feeds : (e : LineEnd) → feeds (print_end e) ≡ 1
end_feeds grammar.crlf = refl
end_feeds grammar.lf = refl

field_feeds : (f : Field) → IsField f → feeds (print_field f) ≡ 1
field_feeds f h =
    omega (
      arith,
      feeds-append (f.name ++ (58 ∷ f.raw)) (print_end f.end),
      feeds-append f.name (58 ∷ f.raw),
      feeds-other 58 f.raw refl,
      no_feeds is_token_byte token_class f.name h.name.1,
      no_feeds is_value_byte refl f.raw h.raw,
      end_feeds f.end,
    )

fields_feeds : (fs : List Field) → All IsField fs → feeds (flat_map print_field fs) ≡ length fs
fields_feeds [] h = refl
fields_feeds (f ∷ fs) h =
    omega (
      arith,
      feeds-append (print_field f) (flat_map print_field fs),
      field_feeds f (All-head IsField f fs h),
      fields_feeds fs (All-tail IsField f fs h),
    )

version_feeds : (minor : ℕ) → feeds (print_version minor) ≡ 0
version_feeds minor =
    let other : (48 + minor == 10) ≡ false = not_feed (48 + minor) (λ is. omega (arith, is)) in
    omega (arith, feeds-append (codes "HTTP/1.") ((48 + minor) ∷ []), feeds-other (48 + minor) [] other)

-- a head without empty lines at its front
request_feeds : (h : RequestHead) → IsRequestHead h → h.blank ≡ [] → feeds (print_request h) ≡ length h.fields + 2
unfolding print_request
request_feeds h is alone =
    let a : List ℕ = print_blank h.blank ++ h.method in
    let b : List ℕ = a ++ (32 ∷ h.target) in
    let c : List ℕ = b ++ (32 ∷ print_version h.minor) in
    let d : List ℕ = c ++ print_end h.line_end in
    let section : List ℕ = print_section h.fields h.last in
    let whole : feeds (print_request h) ≡ feeds d + feeds section = feeds-append d section in
    let d_is : feeds d ≡ feeds c + feeds (print_end h.line_end) = feeds-append c (print_end h.line_end) in
    let c_is : feeds c ≡ feeds b + feeds (32 ∷ print_version h.minor) = feeds-append b (32 ∷ print_version h.minor) in
    let b_is : feeds b ≡ feeds a + feeds (32 ∷ h.target) = feeds-append a (32 ∷ h.target) in
    let a_is : feeds a ≡ feeds (print_blank h.blank) + feeds h.method = feeds-append (print_blank h.blank) h.method in
    let blank : feeds (print_blank h.blank) ≡ 0 = ap (λ (e : List LineEnd). feeds (print_blank e)) alone in
    let section_is : feeds section ≡ feeds (flat_map print_field h.fields) + feeds (print_end h.last) =
    feeds-append (flat_map print_field h.fields) (print_end h.last) in
    omega (
      arith,
      whole,
      d_is,
      c_is,
      b_is,
      a_is,
      blank,
      section_is,
      end_feeds h.line_end,
      feeds-other 32 (print_version h.minor) refl,
      version_feeds h.minor,
      feeds-other 32 h.target refl,
      no_feeds is_uri_byte refl h.target is.target.1,
      no_feeds is_token_byte token_class h.method is.method.1,
      fields_feeds h.fields is.fields,
      end_feeds h.last,
    )

-- a text without an empty line at its front has none before its request line
feed_first : (more : List ℕ) → skipped (10 ∷ more) ≡ 0 → ⊥
unfolding skipped
feed_first [] none = omega (arith, none)
feed_first (c ∷ more) none = omega (arith, none)

return_first : (more : List ℕ) → skipped (13 ∷ 10 ∷ more) ≡ 0 → ⊥
unfolding skipped
return_first more none = omega (arith, none)

no_blank : (h : RequestHead) → skipped (print_request h) ≡ 0 → h.blank ≡ []
unfolding print_request
no_blank h none = go h.blank refl
  where
    front : (ends : List LineEnd) → h.blank ≡ ends
        → skipped (print_blank ends ++ h.method ++ (32 ∷ h.target) ++ (32 ∷ print_version h.minor) ++ print_end h.line_end ++ print_section h.fields h.last) ≡ 0
    front ends is =
        subst (λ (w : List LineEnd). skipped (print_blank w ++ h.method ++ (32 ∷ h.target) ++ (32 ∷ print_version h.minor) ++ print_end h.line_end ++ print_section h.fields h.last) ≡ 0)
        is none

    go : (ends : List LineEnd) → h.blank ≡ ends → h.blank ≡ []
    go [] is = is
    go (grammar.crlf ∷ ends) is = absurd (return_first _ (front (grammar.crlf ∷ ends) is))
    go (grammar.lf ∷ ends) is = absurd (feed_first _ (front (grammar.lf ∷ ends) is))

-- behind the empty lines at the front none stands
pub skipped_rest : (b : List ℕ) → skipped (drop (skipped b) b) ≡ 0
unfolding skipped
skipped_rest [] = refl
skipped_rest (b ∷ []) = go (b == 10) refl
  where
    go : (t : Bool) → (b == 10) ≡ t → skipped (drop (skipped (b ∷ [])) (b ∷ [])) ≡ 0
    go true is = rw is refl
    go false is = rw is (rw is refl)
skipped_rest (b ∷ c ∷ r) = go (b == 10) (b == 13) (c == 10) refl refl refl (skipped_rest (c ∷ r)) (skipped_rest r)
  where
    go : (x y z : Bool) → (b == 10) ≡ x → (b == 13) ≡ y → (c == 10) ≡ z → skipped (drop (skipped (c ∷ r)) (c ∷ r)) ≡ 0
        → skipped (drop (skipped r) r) ≡ 0 → skipped (drop (skipped (b ∷ c ∷ r)) (b ∷ c ∷ r)) ≡ 0
    go true y z xs ys zs one two = rw xs one
    go false true true xs ys zs one two = rw (xs, ys, zs) two
    go false true false xs ys zs one two = rw (xs, ys, zs) (rw (xs, ys, zs) refl)
    go false false z xs ys zs one two = rw (xs, ys) (rw (xs, ys) refl)

-- so the lines of a head are few enough
pub head_has_few_lines : (text : List ℕ) (h : RequestHead) → IsHead text h → skipped text ≡ 0 → has_too_many_lines text ≡ false
unfolding has_too_many_lines
head_has_few_lines text h is none =
    let whole : text ≡ print_request h = is.0.1 ∙ append-nil (print_request h) in
    let lines : feeds (print_request h) ≡ length h.fields + 2 = request_feeds h is.0.0 (no_blank h (sym (ap skipped whole) ∙ none)) in
    le-ltb 64 (count_by is_line_feed text - 2) (omega (arith, ap feeds whole, lines, is.1))
