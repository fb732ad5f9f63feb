-- A request that message framing takes is one whose environment breaks no rule.
use mathlib.Core.Bool.{cond}
use Rattle.std.proofs.Common.{◌≡◌, ℕ, suc, ◌+◌, Bool, true, false, ◌&&◌, ◌||◌, ◌==◌, not, nat_lt, if◌then◌else◌, MatchBool, List, [], ◌∷◌, length, take, drop, Option, None, Some, refl, ap, sym, ◌∙◌, subst, arith, codes}
use Rattle.std.specs.List.{position_or_len, before_first, list_all}
use Rattle.std.specs.Str.{bytes_eq}
use Rattle.std.proofs.lemmas.Bool.{lt-ltb}
use Rattle.std.proofs.lemmas.Slice.Eq.{bytes_eq-Decides}
use Rattle.std.proofs.lemmas.List.Sums.{list_all-from_AllPass}
use Rattle.httparse.specs.Grammar.{RequestHead, IsToken, is_token, is_token_byte}
use Rattle.rack_text.specs.Decimal.{is_decimal, decimal_value}
use Rattle.rack_text.specs.Host.{is_valid_host}
use Rattle.rack_types.specs.declared.fault.Fault.TheVariants.{F}
use Rattle.rack_types.specs.declared.limits.Version.{Version}
use Rattle.rack_types.specs.declared.limits.Version.TheVariants.{Http10, Http11}
use Rattle.rack_types.specs.Fields.{values_of}
use Rattle.rack_types.specs.Request.{Parts, path_or_root}
use Rattle.rack_types.specs.Rules.{begins_with_slash}
use Rattle.message_framing.specs.HeadText.{head_text}
use Rattle.message_framing.specs.declared.fields.Framing.{Framing}
use Rattle.message_framing.specs.Head.{IsHead, IsRequestOf, head_fault, fault_with, fields_of, version_of, request_with}
use Rattle.message_framing.specs.Framing.{body_limit, is_host_right, length_fault, lengths_fault, transfer_fault, body_fault, fields_fault}
use Rattle.message_framing.specs.Places.{StandsIn}
use Rattle.message_framing.specs.Target.{Target, target_of, absolute, from_path, ends_authority, is_question, is_target_byte, scheme_len}
use Rattle.message_framing.specs.Request.{has_too_many_lines, IsGoodHead, IsRequest}
use Rattle.message_framing.proofs.RequestLemmas.{request_head}
use Rattle.message_framing.proofs.TargetLemmas.{target_unclean, target_slash, target_scheme, target_asterisk, target_other}
use Rattle.rack_types.specs.Sound.{IsSound, is_path_right, is_length_right}

is_token_so : (m : List ℕ) → IsToken m → is_token m ≡ true
is_token_so m h =
    let some : nat_lt 0 (length m) ≡ true = lt-ltb 0 (length m) h.0 in
    let all : list_all is_token_byte m ≡ true = list_all-from_AllPass is_token_byte m h.1 in
    rw (some, all) refl

-- what begins with a slash still does before its first question mark
slash_before : (rest : List ℕ) → begins_with_slash rest ≡ true → begins_with_slash (path_or_root (before_first is_question rest)) ≡ true
slash_before [] is = absurd (let clash : false ≡ true = is in cc)
slash_before (b ∷ rest) is = go (b == 63)
  where
    go : (q : Bool) → begins_with_slash (path_or_root (take (cond (not q) (1 + position_or_len is_question rest) 0) (b ∷ rest))) ≡ true
    go true = refl
    go false =
        let one : 1 + position_or_len is_question rest ≡ suc (position_or_len is_question rest) = omega arith in
        subst (λ (n : ℕ). begins_with_slash (path_or_root (take n (b ∷ rest))) ≡ true) (sym one) is

-- nothing stands before a question mark at the front
question_before : (b : ℕ) (rest : List ℕ) → b == 63 ≡ true → begins_with_slash (path_or_root (before_first is_question (b ∷ rest))) ≡ true
question_before b rest is =
    subst (λ (q : Bool). begins_with_slash (path_or_root (take (cond (not q) (1 + position_or_len is_question rest) 0) (b ∷ rest))) ≡ true) (sym is) refl

-- what stands behind an authority
abbrev Behind : List ℕ → ℕ → Type 0
Behind rest n = begins_with_slash (path_or_root (before_first is_question (drop (length (take n rest)) rest))) ≡ true

-- it is a path that begins with a slash, or none
slash_behind : (rest : List ℕ) → Behind rest (position_or_len ends_authority rest)
slash_behind [] = refl
slash_behind (b ∷ rest) = go (b == 47) (b == 63) refl refl (slash_behind rest)
  where
    go : (s q : Bool) → b == 47 ≡ s → b == 63 ≡ q → Behind rest (position_or_len ends_authority rest)
        → Behind (b ∷ rest) (cond (not (s || q)) (1 + position_or_len ends_authority rest) 0)
    go true q slash question h = slash_before (b ∷ rest) slash
    go false true slash question h = question_before b rest question
    go false false slash question h =
        let one : 1 + position_or_len ends_authority rest ≡ suc (position_or_len ends_authority rest) = omega arith in
        subst (Behind (b ∷ rest)) (sym one) h

-- the path of a target
slash_absolute : (rest : List ℕ) (t : Target) → absolute rest ≡ Some t → begins_with_slash t.path ≡ true
unfolding from_path
slash_absolute rest t is = go (nat_lt 0 (length authority) && is_valid_host authority) is
  where
    authority : List ℕ
    authority = before_first ends_authority rest

    go : (b : Bool) → (if b then Some (from_path (Some authority) (drop (length authority) rest)) else None) ≡ Some t → begins_with_slash t.path ≡ true
    go true found =
        let same : from_path (Some authority) (drop (length authority) rest) ≡ t = cc in
        subst (λ (w : Target). begins_with_slash w.path ≡ true) same (slash_behind rest)
    go false found = absurd (let clash : None ≡ Some t = found in cc)

slash_origin : (target : List ℕ) (t : Target) → begins_with_slash target ≡ true → from_path None target ≡ t → begins_with_slash t.path ≡ true
unfolding from_path
slash_origin target t slash is = subst (λ (w : Target). begins_with_slash w.path ≡ true) is (slash_before target slash)

star_path : (target : List ℕ) (t : Target) → target ≡ codes "*" → from_path None target ≡ t → bytes_eq t.path (codes "*") ≡ true
unfolding from_path
star_path target t star is =
    subst (λ (w : Target). bytes_eq w.path (codes "*") ≡ true) is
    (subst (λ (w : List ℕ). bytes_eq (path_or_root (before_first is_question w)) (codes "*") ≡ true) (sym star) refl)

passes_right : (a b : Bool) → b ≡ true → (a || b) ≡ true
passes_right true b h = refl
passes_right false b h = h

path_right : (method target : List ℕ) (t : Target) → target_of method target ≡ Some t → is_path_right t.path method ≡ true
path_right method target t is = go (list_all is_target_byte target) (begins_with_slash target) (nat_lt 0 (scheme_len target))
    (bytes_eq target (codes "*")) (bytes_eq method (codes "OPTIONS")) refl refl refl refl refl
  where
    by_slash : begins_with_slash t.path ≡ true → is_path_right t.path method ≡ true
    by_slash slash = rw slash refl

    go : (clean slash scheme star options : Bool) → list_all is_target_byte target ≡ clean → begins_with_slash target ≡ slash
        → nat_lt 0 (scheme_len target) ≡ scheme → bytes_eq target (codes "*") ≡ star → bytes_eq method (codes "OPTIONS") ≡ options
        → is_path_right t.path method ≡ true
    go false slash scheme star options c s h a o =
        absurd (let clash : None ≡ Some t = sym (target_unclean method target c) ∙ is in cc)
    go true true scheme star options c s h a o =
        let found : Some (from_path None target) ≡ Some t = sym (target_slash method target c s) ∙ is in
        let same : from_path None target ≡ t = cc in
        by_slash (slash_origin target t s same)
    go true false true star options c s h a o =
        by_slash (slash_absolute (drop (scheme_len target) target) t (sym (target_scheme method target c s h) ∙ is))
    go true false false true true c s h a o =
        let found : Some (from_path None target) ≡ Some t = sym (target_asterisk method target c s h a o) ∙ is in
        let same : from_path None target ≡ t = cc in
        let star : bytes_eq t.path (codes "*") ≡ true = star_path target t ((bytes_eq-Decides target (codes "*")).0 a) same in
        passes_right (begins_with_slash t.path) _ (rw (star, o) refl)
    go true false false true false c s h a o =
        absurd (let other : (bytes_eq target (codes "*") && bytes_eq method (codes "OPTIONS")) ≡ false = rw (a, o) refl in
        let clash : None ≡ Some t = sym (target_other method target c s h other) ∙ is in cc)
    go true false false false options c s h a o =
        absurd (let other : (bytes_eq target (codes "*") && bytes_eq method (codes "OPTIONS")) ≡ false = rw a refl in
        let clash : None ≡ Some t = sym (target_other method target c s h other) ∙ is in cc)

-- the values of Content-Length
length_right : (value : List ℕ) → length_fault value ≡ None → is_decimal value ≡ true
length_right value is = go (is_decimal value) refl is
  where
    go : (b : Bool) → is_decimal value ≡ b
        → (if not b then Some (F 11) else if nat_lt body_limit (decimal_value value) then Some (F 12) else None) ≡ None
        → is_decimal value ≡ true
    go true so none = so
    go false so none = absurd (let clash : Some (F 11) ≡ None = none in cc)

lengths_right : (values : List (List ℕ)) → lengths_fault values ≡ None → is_length_right values ≡ true
lengths_right [] is = refl
lengths_right (value ∷ []) is = length_right value is
lengths_right (value ∷ next ∷ more) is = absurd (let clash : Some (F 11) ≡ None = is in cc)

-- with Transfer-Encoding there is none
transfer_right : (v : Version) (codings lengths : List (List ℕ)) → transfer_fault v codings lengths ≡ None → is_length_right lengths ≡ true
transfer_right Http10 codings lengths is = absurd (let clash : Some (F 7) ≡ None = is in cc)
transfer_right Http11 codings [] is = refl
transfer_right Http11 codings (value ∷ more) is = absurd (let clash : Some (F 8) ≡ None = is in cc)

body_right : (v : Version) (transfer lengths : List (List ℕ)) → body_fault v transfer lengths ≡ None → is_length_right lengths ≡ true
body_right v [] lengths is = lengths_right lengths is
body_right v (value ∷ more) lengths is = transfer_right v _ lengths is

fields_right : (v : Version) (fields : List (List ℕ × List ℕ)) → fields_fault v fields ≡ None → is_length_right (values_of (codes "content-length") fields) ≡ true
unfolding fields_fault
fields_right v fields is = go (is_host_right v (values_of (codes "host") fields)) is
  where
    go : (b : Bool) → (if not b then Some (F 6) else body_fault v (values_of (codes "transfer-encoding") fields) (values_of (codes "content-length") fields)) ≡ None
        → is_length_right (values_of (codes "content-length") fields) ≡ true
    go true none = body_right v (values_of (codes "transfer-encoding") fields) (values_of (codes "content-length") fields) none
    go false none = absurd (let clash : Some (F 6) ≡ None = none in cc)

head_right : (h : RequestHead) (target : Target) → target_of h.method h.target ≡ Some target → head_fault h ≡ None
    → is_length_right (values_of (codes "content-length") (fields_of h)) ≡ true
unfolding head_fault
head_right h target is none = go (bytes_eq h.method (codes "CONNECT")) none
  where
    go : (b : Bool) → (if b then Some (F 4) else fault_with (target_of h.method h.target) h) ≡ None
        → is_length_right (values_of (codes "content-length") (fields_of h)) ≡ true
    go true none = absurd (let clash : Some (F 4) ≡ None = none in cc)
    go false none = fields_right (version_of h.minor) (fields_of h) (sym (ap (λ (o : Option Target). fault_with o h) is) ∙ none)

-- a head that earns no refusal has what the rules of an environment rest on, whatever its body is
head_sound : (h : RequestHead) (text body : List ℕ) (r : Parts) → IsHead text h → head_fault h ≡ None → IsRequestOf h body r → IsSound r
unfolding request_with
head_sound h text body r head none of =
    subst (λ (q : Parts). IsSound q) (sym of.2) (record {
      method = is_token_so h.method head.0.0.method;
      path = path_right h.method h.target of.0 of.1;
      length = head_right h of.0 of.1 none;
    })

-- the request of a head that stands
pub stands_sound : (text : List ℕ) (r : Parts) (g : Framing) → StandsIn text r g → IsSound r
stands_sound text r g stands = head_sound stands.0 text [] r stands.1 stands.2 stands.4

-- a request of a head that earns no refusal
good_sound : (text body : List ℕ) (r : Parts) → IsGoodHead text body r → IsSound r
good_sound text body r good = head_sound good.0 text good.1 r good.2 good.3 good.5

pub request_sound : (b : List ℕ) (r : Parts) → IsRequest b r → IsSound r
request_sound b r is =
    let whole = request_head b r is in
    let text : List ℕ = head_text (take whole.n b) in
    let body : List ℕ = drop whole.n b in
    go text body (has_too_many_lines text) whole.good
  where
    go : (text body : List ℕ) (many : Bool) → MatchBool many ⊥ (IsGoodHead text body r) → IsSound r
    go text body true good = absurd good
    go text body false good = good_sound text body r good
