-- The request of an order is a request, and its query has the token.
use Rattle.std.proofs.Common.{◌≡◌, ◌≢◌, ◌⊎◌, ℕ, zero, suc, ◌+◌, ◌-◌, ◌<◌, ◌≤◌, Bool, true, false, not, ◌&&◌, ◌||◌, ◌==◌, nat_lt, nat_le, List, [], ◌∷◌, ◌++◌, length, map, filter, take, drop, get_or, codes, Option, None, Some, option_map, if◌then◌else◌, refl, ap, sym, ◌∙◌, subst, arith, inl, inr, append_assoc, length-append}
use Rattle.std.specs.Prelude.{IsTrue, MatchBool, count_by, cond}
use Rattle.std.specs.Char.{is_ascii_alphanumeric}
use Rattle.std.specs.List.{list_all}
use Rattle.std.proofs.lemmas.Bool.{leb-true, ltb-true, le-leb, lt-ltb}
use Rattle.std.proofs.lemmas.Str.{IsUtf8-from_ascii}
use Rattle.std.specs.Str.{IsUtf8}
use Rattle.rack_text.specs.Host.{host_parts, is_name_byte, is_address_byte}
use Rattle.rack_text.specs.Lists.{elements}
use Rattle.message_framing.specs.Framing.{fields_fault, framing_of}
use Rattle.std.proofs.lemmas.Bool.Decides.{eqb_tells}
use Rattle.std.proofs.lemmas.List.{append-nil, take_all, drop_all}
use Rattle.std.proofs.lemmas.List.Sums.{sum_by-cons, sum_by-append, AllPass-from_list_all}
use Rattle.std.proofs.lemmas.List.Folds.{list_all-append}
use Rattle.httparse.specs.Grammar.{RequestHead, IsRequestHead, Field, IsField, is_uri_byte, is_value_byte, is_token_byte, print_request, trim_ows}
use Rattle.httparse.specs.Grammar as grammar
use Rattle.message_framing.specs.HeadText.{empty_line, skipped, lines_end, head_len, head_text}
use Rattle.message_framing.specs.Head.{is_line_feed, IsHead, head_fault, head_framing, request_with}
use Rattle.message_framing.specs.Request.{head_limit, head_within, has_too_many_lines, IsGoodHead, IsGoodText, IsRequest, RequestAt}
use Rattle.message_framing.specs.Target.{is_target_byte, target_of, from_path}
use Rattle.form_urlencoded.specs.Form.{IsPlain, decode, is_nonempty, onto_first, parse, raw_pairs, split, split_pair}
use Rattle.form_urlencoded.proofs.FormLemmas.{decode_plain}
use Rattle.puma_ctl.specs.Wish.{is_control_token, order_path, order_query, wish_bytes, wish_parts}
use Rattle.puma_ctl.specs.declared.wish.Wish.{Wish}
use Rattle.puma_ctl.specs.declared.wish.Wish.TheVariants.{Stats, Phased, Stop, Halt}
use Rattle.puma_ctl.proofs.HeadLemmas.{bool_cases}

and_left : (a b : Bool) → (a && b) ≡ true → a ≡ true
and_left true b is = refl
and_left false b is = is

and_right : (a b : Bool) → (a && b) ≡ true → b ≡ true
and_right true b is = is
and_right false b is = cc

or_cases : (a b : Bool) → (a || b) ≡ true → (a ≡ true) ⊎ (b ≡ true)
or_cases true b is = inl refl
or_cases false b is = inr is

-- a test that each of the bytes passes, by one that they pass
all_pass : (p q : ℕ → Bool) → ((x : ℕ) → p x ≡ true → q x ≡ true) → (xs : List ℕ) → list_all p xs ≡ true → list_all q xs ≡ true
all_pass p q on [] all = refl
all_pass p q on (x ∷ xs) all =
    rw (on x (and_left (p x) (list_all p xs) all), all_pass p q on xs (and_right (p x) (list_all p xs) all)) refl

-- a letter or a digit lies between these, and is no punctuation
range_is : (low high x : ℕ) → (nat_le low x && nat_le x high) ≡ true → (low ≤ x) × (x ≤ high)
range_is low high x is = (leb-true low x (and_left (nat_le low x) (nat_le x high) is), leb-true x high (and_right (nat_le low x) (nat_le x high) is))

letter_range : (x : ℕ) → is_ascii_alphanumeric x ≡ true → (48 ≤ x) × (x ≤ 122) × ((x ≤ 57) ⊎ (65 ≤ x))
letter_range x is = elim (or_cases ((nat_le 48 x && nat_le x 57) || (nat_le 65 x && nat_le x 90)) (nat_le 97 x && nat_le x 122) is) [
  | inl front ↦ elim (or_cases (nat_le 48 x && nat_le x 57) (nat_le 65 x && nat_le x 90) front) [
    | inl digit ↦ (let r = range_is 48 57 x digit in (r.0, omega (arith, r.1), inl r.1))
    | inr capital ↦ (let r = range_is 65 90 x capital in (omega (arith, r.0), omega (arith, r.1), inr r.0))
  ]
  | inr small ↦ (let r = range_is 97 122 x small in (omega (arith, r.0), r.1, inr (omega (arith, r.0))))
]

-- a byte that is none of these
not_byte : (b x : ℕ) → x ≢ b → (x == b) ≡ false
not_byte b x other = elim (eqb_tells x b) [ inl is ↦ absurd (other is.1) | inr isnt ↦ isnt.0 ]

letter_not : (b x : ℕ) → ((b < 48) ⊎ ((57 < b) × (b < 65))) → is_ascii_alphanumeric x ≡ true → (x == b) ≡ false
letter_not b x out is = not_byte b x (λ same. apart same out (letter_range x is).2)
  where
    apart : x ≡ b → ((b < 48) ⊎ ((57 < b) × (b < 65))) → ((x ≤ 57) ⊎ (65 ≤ x)) → ⊥
    apart same (inl low) either = omega (arith, (letter_range x is).0, same, low)
    apart same (inr mid) (inl digit) = omega (arith, same, digit, mid.0)
    apart same (inr mid) (inr letter) = omega (arith, same, letter, mid.1)

-- the token's letters
record IsLetters (token : List ℕ) : Type 0 where
  all : list_all is_ascii_alphanumeric token ≡ true
  few : length token ≤ 64

letters : (token : List ℕ) → is_control_token token ≡ true → IsLetters token
letters token is =
    let front : (nat_lt 0 (length token) && nat_le (length token) 64) ≡ true = and_left (nat_lt 0 (length token) && nat_le (length token) 64) _ is in
    record {
      all = and_right (nat_lt 0 (length token) && nat_le (length token) 64) (list_all is_ascii_alphanumeric token) is;
      few = leb-true (length token) 64 (and_right (nat_lt 0 (length token)) (nat_le (length token) 64) front);
    }

-- without a line feed among the bytes, the search goes on behind them
abbrev is_plain : ℕ → Bool
is_plain x = not (x == 10)

plain_letter : (x : ℕ) → is_ascii_alphanumeric x ≡ true → is_plain x ≡ true
plain_letter x is = rw (letter_not 10 x (inl (omega arith)) is) refl

plain_step : (x : ℕ) → is_plain x ≡ true → (x == 10) ≡ false
plain_step x is = by (x == 10) is
  where
    by : (t : Bool) → not t ≡ true → t ≡ false
    by true is = cc
    by false is = refl

add_zero : (o : Option ℕ) → o ≡ option_map (λ n. 0 + n) o
add_zero None = refl
add_zero (Some n) = ap Some (omega arith)

add_suc : (k : ℕ) (o : Option ℕ) → option_map suc (option_map (λ n. k + n) o) ≡ option_map (λ n. suc k + n) o
add_suc k None = refl
add_suc k (Some n) = ap Some (omega arith)

lines_past : (a b : List ℕ) → list_all is_plain a ≡ true → lines_end (a ++ b) ≡ option_map (λ n. length a + n) (lines_end b)
unfolding lines_end
lines_past [] b all = add_zero (lines_end b)
lines_past (x ∷ a) b all =
    rw (plain_step x (and_left (is_plain x) (list_all is_plain a) all))
    (ap (option_map suc) (lines_past a b (and_right (is_plain x) (list_all is_plain a) all)) ∙ add_suc (length a) (lines_end b))

-- what stands before the token, and behind it
abbrev pub before : Wish → List ℕ
before wish = codes "GET " ++ order_path wish ++ codes "?token="

abbrev pub behind : List ℕ
behind = codes " HTTP/1.1\r\nHost: localhost\r\nConnection: close\r\n\r\n"

before_plain : (wish : Wish) → list_all is_plain (before wish) ≡ true
before_plain Stats = refl
before_plain Phased = refl
before_plain Stop = refl
before_plain Halt = refl

behind_ends : lines_end behind ≡ Some (length behind)
unfolding lines_end empty_line
behind_ends = refl

not_skipped : (wish : Wish) (more : List ℕ) → skipped (before wish ++ more) ≡ 0
unfolding skipped
not_skipped Stats more = refl
not_skipped Phased more = refl
not_skipped Stop more = refl
not_skipped Halt more = refl

-- the request ends where its head does
pub wish_ends : (token : List ℕ) (wish : Wish) → is_control_token token ≡ true → head_len (wish_bytes token wish) ≡ Some (length (wish_bytes token wish))
unfolding head_len
wish_ends token wish is =
    let plain : list_all is_plain (before wish ++ token) ≡ true =
    list_all-append is_plain (before wish) token ∙ rw (before_plain wish, all_pass is_ascii_alphanumeric is_plain plain_letter token (letters token is).all) refl in
    let none : skipped (wish_bytes token wish) ≡ 0 = ap skipped (append_assoc (before wish) token behind) ∙ not_skipped wish (token ++ behind) in
    let end : lines_end (wish_bytes token wish) ≡ Some (length (wish_bytes token wish)) =
    lines_past (before wish ++ token) behind plain ∙ ap (option_map (λ n. length (before wish ++ token) + n)) behind_ends
    ∙ ap Some (sym (length-append (before wish ++ token) behind)) in
    ap (λ (k : ℕ). option_map (λ n. k + n) (lines_end (drop k (wish_bytes token wish)))) none ∙ sym (add_zero (lines_end (wish_bytes token wish))) ∙ end

-- it is short
before_short : (wish : Wish) → length (before wish) ≤ 40
before_short Stats = omega arith
before_short Phased = omega arith
before_short Stop = omega arith
before_short Halt = omega arith

short : (token : List ℕ) (wish : Wish) → is_control_token token ≡ true → length (wish_bytes token wish) ≤ head_limit
short token wish is =
    omega (arith, before_short wish, (letters token is).few, length-append (before wish ++ token) behind, length-append (before wish) token)

-- it has four lines
abbrev feeds : List ℕ → ℕ
feeds bytes = count_by is_line_feed bytes

feeds-append : (a b : List ℕ) → feeds (a ++ b) ≡ feeds a + feeds b
feeds-append a b = sum_by-append (λ y. cond (is_line_feed y) 1 0) a b

plain_feeds : (bytes : List ℕ) → list_all is_plain bytes ≡ true → feeds bytes ≡ 0
plain_feeds [] all = refl
plain_feeds (x ∷ bytes) all =
    sum_by-cons (λ y. cond (is_line_feed y) 1 0) x bytes
    ∙ rw (plain_step x (and_left (is_plain x) (list_all is_plain bytes) all)) (omega (arith, plain_feeds bytes (and_right (is_plain x) (list_all is_plain bytes) all)))

few_lines : (token : List ℕ) (wish : Wish) → is_control_token token ≡ true → has_too_many_lines (wish_bytes token wish) ≡ false
unfolding has_too_many_lines
few_lines token wish is =
    let plain : list_all is_plain (before wish ++ token) ≡ true =
    list_all-append is_plain (before wish) token ∙ rw (before_plain wish, all_pass is_ascii_alphanumeric is_plain plain_letter token (letters token is).all) refl in
    let four : feeds (wish_bytes token wish) ≡ 4 = feeds-append (before wish ++ token) behind ∙ ap (λ (k : ℕ). k + feeds behind) (plain_feeds (before wish ++ token) plain) in
    rw four refl

-- its head
abbrev target_of_wish : List ℕ → Wish → List ℕ
target_of_wish token wish = order_path wish ++ codes "?token=" ++ token

abbrev wish_head : List ℕ → Wish → RequestHead
wish_head token wish = record {
  blank = [];
  method = codes "GET";
  target = target_of_wish token wish;
  minor = 1;
  line_end = grammar.crlf;
  fields = record { name = codes "Host"; raw = codes " localhost"; end = grammar.crlf } ∷ record { name = codes "Connection"; raw = codes " close"; end = grammar.crlf } ∷ [];
  last = grammar.crlf;
}

-- its target, by any test that letters and the front pass
target_passes : (q : ℕ → Bool) (token : List ℕ) (wish : Wish) → is_control_token token ≡ true
    → ((x : ℕ) → is_ascii_alphanumeric x ≡ true → q x ≡ true) → list_all q (order_path wish ++ codes "?token=") ≡ true
    → list_all q (target_of_wish token wish) ≡ true
target_passes q token wish is on front =
    list_all-append q (order_path wish ++ codes "?token=") token ∙ rw (front, all_pass is_ascii_alphanumeric q on token (letters token is).all) refl

in_bounds : (low high x : ℕ) → low ≤ 48 → 122 ≤ high → is_ascii_alphanumeric x ≡ true → (nat_le low x && nat_le x high) ≡ true
in_bounds low high x down up is =
    let r = letter_range x is in
    rw (le-leb low x (omega (arith, r.0, down)), le-leb x high (omega (arith, r.1, up))) refl

uri_letter : (x : ℕ) → is_ascii_alphanumeric x ≡ true → is_uri_byte x ≡ true
uri_letter x is =
    let r = letter_range x is in
    rw (lt-ltb 32 x (omega (arith, r.0)), not_byte 127 x (λ same. omega (arith, same, r.1))) refl

target_letter : (x : ℕ) → is_ascii_alphanumeric x ≡ true → is_target_byte x ≡ true
target_letter x is =
    let r = letter_range x is in
    rw (le-leb 33 x (omega (arith, r.0)), le-leb x 126 (omega (arith, r.1)), letter_not 35 x (inl (omega arith)) is) refl

ascii_letter : (x : ℕ) → is_ascii_alphanumeric x ≡ true → nat_lt x 128 ≡ true
ascii_letter x is = lt-ltb x 128 (omega (arith, (letter_range x is).1))

uri_front : (wish : Wish) → list_all is_uri_byte (order_path wish ++ codes "?token=") ≡ true
uri_front Stats = refl
uri_front Phased = refl
uri_front Stop = refl
uri_front Halt = refl

target_front : (wish : Wish) → list_all is_target_byte (order_path wish ++ codes "?token=") ≡ true
target_front Stats = refl
target_front Phased = refl
target_front Stop = refl
target_front Halt = refl

ascii_front : (wish : Wish) → list_all (λ x. nat_lt x 128) (order_path wish ++ codes "?token=") ≡ true
ascii_front Stats = refl
ascii_front Phased = refl
ascii_front Stop = refl
ascii_front Halt = refl

ascii_at : (xs : List ℕ) (i : ℕ) → list_all (λ x. nat_lt x 128) xs ≡ true → get_or xs i 0 < 128
ascii_at [] i all = omega arith
ascii_at (x ∷ xs) zero all = ltb-true x 128 (and_left (nat_lt x 128) (list_all (λ y. nat_lt y 128) xs) all)
ascii_at (x ∷ xs) (suc i) all = ascii_at xs i (and_right (nat_lt x 128) (list_all (λ y. nat_lt y 128) xs) all)

target_utf8 : (token : List ℕ) (wish : Wish) → is_control_token token ≡ true → IsUtf8 (target_of_wish token wish)
target_utf8 token wish is =
    IsUtf8-from_ascii (target_of_wish token wish) (λ i. ascii_at (target_of_wish token wish) i
    (target_passes (λ x. nat_lt x 128) token wish is ascii_letter (ascii_front wish)))

some_target : (token : List ℕ) (wish : Wish) → 0 < length (target_of_wish token wish)
some_target token Stats = omega arith
some_target token Phased = omega arith
some_target token Stop = omega arith
some_target token Halt = omega arith

host_is : IsField (record { name = codes "Host"; raw = codes " localhost"; end = grammar.crlf })
unfolding is_token_byte
host_is = record {
  name = (omega arith, AllPass-from_list_all is_token_byte (codes "Host") refl);
  raw = AllPass-from_list_all is_value_byte (codes " localhost") refl;
}

connection_is : IsField (record { name = codes "Connection"; raw = codes " close"; end = grammar.crlf })
unfolding is_token_byte
connection_is = record {
  name = (omega arith, AllPass-from_list_all is_token_byte (codes "Connection") refl);
  raw = AllPass-from_list_all is_value_byte (codes " close") refl;
}

two_fields : (a b : Field) → IsField a → IsField b → (k : ℕ) (d : Field) → k < 2 → IsField (get_or (a ∷ b ∷ []) k d)
two_fields a b x y zero d below = x
two_fields a b x y (suc zero) d below = y
two_fields a b x y (suc (suc k)) d below = absurd (omega (arith, below))

is_head : (token : List ℕ) (wish : Wish) → is_control_token token ≡ true → IsRequestHead (wish_head token wish)
unfolding is_token_byte
is_head token wish is = record {
  method = (omega arith, AllPass-from_list_all is_token_byte (codes "GET") refl);
  target = (some_target token wish, AllPass-from_list_all is_uri_byte (target_of_wish token wish) (target_passes is_uri_byte token wish is uri_letter (uri_front wish)));
  target_text = target_utf8 token wish is;
  minor = omega arith;
  fields = two_fields _ _ host_is connection_is;
}

tail_is : (token a b c : List ℕ) → token ++ (a ++ (b ++ c)) ≡ (((token ++ a) ++ b) ++ c) ++ []
tail_is token a b c = sym (append-nil _ ∙ append_assoc (token ++ a) b c ∙ append_assoc token a (b ++ c))

whole_head : (token : List ℕ) (wish : Wish) → wish_bytes token wish ≡ print_request (wish_head token wish) ++ []
unfolding print_request
whole_head token Stats =
    ap (λ (w : List ℕ). before Stats ++ w) (tail_is token (codes " HTTP/1.1") (codes "\r\n") (codes "Host: localhost\r\nConnection: close\r\n\r\n"))
whole_head token Phased =
    ap (λ (w : List ℕ). before Phased ++ w) (tail_is token (codes " HTTP/1.1") (codes "\r\n") (codes "Host: localhost\r\nConnection: close\r\n\r\n"))
whole_head token Stop =
    ap (λ (w : List ℕ). before Stop ++ w) (tail_is token (codes " HTTP/1.1") (codes "\r\n") (codes "Host: localhost\r\nConnection: close\r\n\r\n"))
whole_head token Halt =
    ap (λ (w : List ℕ). before Halt ++ w) (tail_is token (codes " HTTP/1.1") (codes "\r\n") (codes "Host: localhost\r\nConnection: close\r\n\r\n"))

target_is : (token : List ℕ) (wish : Wish) → is_control_token token ≡ true → target_of (codes "GET") (target_of_wish token wish)
    ≡ Some (record { authority = None; path = order_path wish; query = order_query token })
unfolding target_of from_path
target_is token Stats is = rw (target_passes is_target_byte token Stats is target_letter (target_front Stats)) refl
target_is token Phased is = rw (target_passes is_target_byte token Phased is target_letter (target_front Phased)) refl
target_is token Stop is = rw (target_passes is_target_byte token Stop is target_letter (target_front Stop)) refl
target_is token Halt is = rw (target_passes is_target_byte token Halt is target_letter (target_front Halt)) refl

no_fault : (token : List ℕ) (wish : Wish) → is_control_token token ≡ true → head_fault (wish_head token wish) ≡ None
unfolding head_fault fields_fault trim_ows host_parts is_name_byte is_address_byte elements
no_fault token wish is = rw (target_is token wish is) refl

says : (token : List ℕ) (wish : Wish) → wish_parts token wish
    ≡ request_with (wish_head token wish) (record { authority = None; path = order_path wish; query = order_query token }) []
unfolding request_with framing_of trim_ows
says token wish = refl

good_head : (token : List ℕ) (wish : Wish) → is_control_token token ≡ true → IsGoodHead (wish_bytes token wish) [] (wish_parts token wish)
unfolding framing_of trim_ows
good_head token wish is = (
  wish_head token wish,
  [],
  ((is_head token wish is, whole_head token wish), omega arith),
  no_fault token wish is,
  (refl, refl),
  (record { authority = None; path = order_path wish; query = order_query token }, target_is token wish is, says token wish),
)

-- the bytes are that request
pub wish_is_request : (token : List ℕ) (wish : Wish) → is_control_token token ≡ true → IsRequest (wish_bytes token wish) (wish_parts token wish)
wish_is_request token wish is =
    let b : List ℕ = wish_bytes token wish in
    let n : ℕ = length b in
    let whole : n ≤ length b = omega arith in
    let within : head_within b ≡ Some n = ap head_len (take_all head_limit b (short token wish is)) ∙ wish_ends token wish is in
    let none : skipped b ≡ 0 = ap skipped (append_assoc (before wish) token behind) ∙ not_skipped wish (token ++ behind) in
    let text : head_text (take n b) ≡ b = ap head_text (take_all n b whole) ∙ ap (λ (k : ℕ). drop k b) none in
    let rest : drop n b ≡ [] = drop_all n b whole in
    let lines : IsGoodText b [] (wish_parts token wish) =
    subst (λ (t : Bool). MatchBool t ⊥ (IsGoodHead b [] (wish_parts token wish))) (sym (few_lines token wish is)) (good_head token wish is) in
    let behind_it : IsGoodText b (drop n b) (wish_parts token wish) = subst (λ (w : List ℕ). IsGoodText b w (wish_parts token wish)) (sym rest) lines in
    let at : RequestAt (Some n) b (wish_parts token wish) = subst (λ (w : List ℕ). IsGoodText w (drop n b) (wish_parts token wish)) (sym text) behind_it in
    subst (λ (o : Option ℕ). RequestAt o b (wish_parts token wish)) (sym within) at

-- its query has one pair, and that is the token
abbrev no_ampersand : ℕ → Bool
no_ampersand x = not (x == 38)

split_whole : (xs : List ℕ) → list_all no_ampersand xs ≡ true → split 38 xs ≡ xs ∷ []
unfolding split
split_whole [] all = refl
split_whole (x ∷ xs) all =
    rw (other (x == 38) (and_left (no_ampersand x) (list_all no_ampersand xs) all))
    (ap (onto_first x) (split_whole xs (and_right (no_ampersand x) (list_all no_ampersand xs) all)))
  where
    other : (t : Bool) → not t ≡ true → t ≡ false
    other true is = cc
    other false is = refl

apart_letter : (x : ℕ) → is_ascii_alphanumeric x ≡ true → no_ampersand x ≡ true
apart_letter x is = rw (letter_not 38 x (inl (omega arith)) is) refl

kept_plain : (x : ℕ) → is_ascii_alphanumeric x ≡ true → IsPlain x
kept_plain x is = (
  λ same. (let r = letter_range x is in omega (arith, r.0, same)),
  λ same. (let r = letter_range x is in omega (arith, r.0, same)),
)

all_plain : (xs : List ℕ) → list_all is_ascii_alphanumeric xs ≡ true → (k : ℕ) (d : ℕ) → k < length xs → IsPlain (get_or xs k d)
all_plain [] all k d below = absurd (omega (arith, below))
all_plain (x ∷ xs) all zero d below = kept_plain x (and_left (is_ascii_alphanumeric x) (list_all is_ascii_alphanumeric xs) all)
all_plain (x ∷ xs) all (suc k) d below =
    all_plain xs (and_right (is_ascii_alphanumeric x) (list_all is_ascii_alphanumeric xs) all) k d (omega (arith, below))

name_plain : (k : ℕ) (d : ℕ) → k < length (codes "token") → IsPlain (get_or (codes "token") k d)
name_plain = all_plain (codes "token") refl

pub query_is : (token : List ℕ) → is_control_token token ≡ true → parse (order_query token) ≡ (codes "token", token) ∷ []
unfolding raw_pairs
query_is token is =
    let apart : list_all no_ampersand (order_query token) ≡ true =
    list_all-append no_ampersand (codes "token=") token ∙ all_pass is_ascii_alphanumeric no_ampersand apart_letter token (letters token is).all in
    let one : split 38 (order_query token) ≡ order_query token ∷ [] = split_whole (order_query token) apart in
    let some : nat_lt 0 (length (order_query token)) ≡ true = lt-ltb 0 (length (order_query token)) (omega arith) in
    let raw : raw_pairs (order_query token) ≡ split_pair (order_query token) ∷ [] = ap (λ (ps : List (List ℕ)). map split_pair (filter is_nonempty ps)) one ∙ rw some refl in
    let parts : split_pair (order_query token) ≡ (codes "token", token) = refl in
    ap (map (λ (p : List ℕ × List ℕ). (decode p.0, decode p.1))) (raw ∙ ap (λ (p : List ℕ × List ℕ). p ∷ []) parts)
    ∙ ap (λ (n : List ℕ). (n, decode token) ∷ []) (decode_plain (codes "token") name_plain)
    ∙ ap (λ (v : List ℕ). (codes "token", v) ∷ []) (decode_plain token (all_plain token (letters token is).all))
