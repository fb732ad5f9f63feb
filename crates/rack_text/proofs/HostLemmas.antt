-- The laws of hosts.
use Rattle.std.proofs.Common.{◌≡◌, ℕ, ◌+◌, ◌<◌, Bool, true, false, List, [], ◌∷◌, ◌++◌, length, get_or, take, drop, Option, Some, None, option_map, IsTrue, inl, inr, refl, sym, ap, ◌∙◌, arith, length-append, take-append-drop, length-take-le, add_comm, add-one, add-suc, append_assoc, MatchOption, subst, suc, ◌&&◌}
use Rattle.std.specs.Prelude.{nat_lt, ◌==◌}
use Rattle.std.specs.List.{list_all, prefix_len}
use Rattle.std.proofs.lemmas.Bool.{and_parts, and_from, both_ways, cases_lt, cases_eq, cond-true, cond-false, lt-ltb, le-ltb, ltb-true, eqb-true, eq-eqb, ne_eqb, cases_Bool}
use Rattle.std.proofs.lemmas.List.{nil_from_length, take_more, get_or_past, get_or_at, take_at, drop_at}
use Rattle.std.proofs.lemmas.List.Sums.{prefix_len-le-length}
use Rattle.httparse.specs.Ascii.{colon}
use Rattle.rack_text.specs.Host.{left_bracket, right_bracket, is_name_byte, is_address_byte, is_run_of, IsHostName, IsHost, IsNoHost, port_behind, bracketed_len, name_len, host_parts}

-- a name without brackets goes on while its bytes do
pub name_len_plain : (text : List ℕ) → (get_or text 0 0 ≡ left_bracket → ⊥) → name_len text ≡ prefix_len is_name_byte text
name_len_plain [] other = refl
name_len_plain (b ∷ bytes) other = cond-false _ _ _ (ne_eqb b left_bracket other)

-- the empty text is the empty host
pub host_parts-nil : host_parts [] ≡ Some ([], None)
unfolding host_parts
host_parts-nil = refl

-- a text that begins with a name is that name's host, where a port or nothing stands behind
pub host_parts_named : (text : List ℕ) → 0 < name_len text → host_parts text ≡ option_map (λ port. (take (name_len text) text, port)) (port_behind (drop (name_len text) text))
unfolding host_parts
host_parts_named [] some = absurd (omega arith)
host_parts_named (b ∷ bytes) some = cond-true _ _ _ (lt-ltb 0 (name_len (b ∷ bytes)) some)

-- any other text is no host, but the empty one
pub host_parts_nameless : (text : List ℕ) → 0 < length text → name_len text ≡ 0 → host_parts text ≡ None
unfolding host_parts
host_parts_nameless [] some none = absurd (omega arith)
host_parts_nameless (b ∷ bytes) some none = cond-false _ _ _ (le-ltb 0 (name_len (b ∷ bytes)) (omega arith))

-- a run in front of what does not go on is all of the run
prefix_len-run : (p : ℕ → Bool) (name behind : List ℕ) → list_all p name ≡ true → (0 < length behind → p (get_or behind 0 0) ≡ false) → prefix_len p (name ++ behind) ≡ length name
prefix_len-run p [] [] passes stops = refl
prefix_len-run p [] (b ∷ behind) passes stops = cond-false _ _ _ (stops (omega arith))
prefix_len-run p (x ∷ name) behind passes stops =
    let each = and_parts _ _ passes in
    let later = prefix_len-run p name behind each.1 stops in
    cond-true _ _ _ each.0 ∙ ap (λ n. 1 + n) later ∙ add_comm 1 (length name) ∙ add-one (length name)

-- what passes in front passes
run_passes : (p : ℕ → Bool) (bytes : List ℕ) → list_all p (take (prefix_len p bytes) bytes) ≡ true
run_passes p [] = refl
run_passes p (b ∷ bytes) =
    elim (cases_Bool (p b)) [
      | inl passes ↦ rw passes (rw (add_comm 1 (prefix_len p bytes), add-one) (and_from _ _ passes (run_passes p bytes)))
      | inr fails ↦ rw fails refl
    ]

run_is : (p : ℕ → Bool) (bytes : List ℕ) → 0 < prefix_len p bytes → IsTrue (is_run_of p (take (prefix_len p bytes) bytes))
run_is p bytes some =
    and_from _ _ (lt-ltb 0 (length (take (prefix_len p bytes) bytes)) (omega (arith, length-take-le (prefix_len p bytes) bytes (prefix_len-le-length p bytes)))) (run_passes p bytes)

-- the name in brackets that a text begins with is one
bracketed_is : (bytes : List ℕ) → 0 < bracketed_len bytes → IsHostName (take (bracketed_len bytes) (left_bracket ∷ bytes))
bracketed_is bytes some =
    let end = prefix_len is_address_byte bytes in
    elim (cases_Bool (nat_lt 0 end && get_or bytes end 0 == right_bracket)) [
      | inl closed ↦
          let parts = and_parts (nat_lt 0 end) (get_or bytes end 0 == right_bracket) closed in
          let last : get_or bytes end 0 ≡ right_bracket = eqb-true (get_or bytes end 0) right_bracket parts.1 in
          let long : bracketed_len bytes ≡ suc (end + 1) = cond-true _ _ _ closed ∙ add-suc end 1 in
          let within : end < length bytes = elim (cases_lt end (length bytes)) [
            | inl below ↦ below
            | inr past ↦ absurd (omega (arith, last, get_or_past bytes end 0 past))
          ] in
          inr (
            take end bytes,
            ap (λ n. take n (left_bracket ∷ bytes)) long ∙ ap (λ rest. left_bracket ∷ rest) (take_more bytes end 0 within ∙ ap (λ b. take end bytes ++ b ∷ []) last),
            run_is is_address_byte bytes (ltb-true 0 end parts.0),
          )
      | inr unclosed ↦ let none : bracketed_len bytes ≡ 0 = cond-false _ _ _ unclosed in absurd (omega (arith, none, some))
    ]

-- the name that a text begins with is one
name_is : (text : List ℕ) → 0 < name_len text → IsHostName (take (name_len text) text)
name_is [] some = absurd (omega arith)
name_is (b ∷ bytes) some =
    elim (cases_Bool (b == left_bracket)) [
      | inl here ↦
          let first : b ≡ left_bracket = eqb-true _ _ here in
          let long : name_len (b ∷ bytes) ≡ bracketed_len bytes = cond-true _ _ _ here in
          subst (λ n. IsHostName (take n (b ∷ bytes))) (sym long)
          (subst (λ x. IsHostName (take (bracketed_len bytes) (x ∷ bytes))) (sym first) (bracketed_is bytes (omega (arith, some, long))))
      | inr other ↦
          let long : name_len (b ∷ bytes) ≡ prefix_len is_name_byte (b ∷ bytes) = cond-false _ _ _ other in
          subst (λ n. IsHostName (take n (b ∷ bytes))) (sym long) (inl (run_is is_name_byte (b ∷ bytes) (omega (arith, some, long))))
    ]

-- what stands behind a name begins with a `:`
behind_first : (behind : List ℕ) (port : Option ℕ) → port_behind behind ≡ Some port → 0 < length behind → get_or behind 0 0 ≡ colon
behind_first [] port ported some = absurd (omega arith)
behind_first (b ∷ digits) port ported some =
    elim (cases_Bool (b == colon)) [
      | inl here ↦ eqb-true _ _ here
      | inr other ↦ let none : port_behind (b ∷ digits) ≡ None = cond-false _ _ _ other in cc
    ]

-- what ends a name is no byte of one
left_bracket_is_other : is_name_byte left_bracket ≡ false
unfolding is_name_byte
left_bracket_is_other = refl

colon_is_other : is_name_byte colon ≡ false
unfolding is_name_byte
colon_is_other = refl

right_bracket_is_other : is_address_byte right_bracket ≡ false
unfolding is_address_byte
right_bracket_is_other = refl

-- a name before that is found, whole
name_len-run : (name behind : List ℕ) → IsTrue (is_run_of is_name_byte name) → (0 < length behind → get_or behind 0 0 ≡ colon) → name_len (name ++ behind) ≡ length name
name_len-run [] behind run stops = cc
name_len-run (b ∷ bytes) behind run stops =
    let passes = (and_parts _ _ run).1 in
    let first : is_name_byte b ≡ true = (and_parts _ _ passes).0 in
    let other : b ≡ left_bracket → ⊥ = λ e. both_ways (is_name_byte left_bracket) left_bracket_is_other (ap is_name_byte (sym e) ∙ first) in
    name_len_plain ((b ∷ bytes) ++ behind) other ∙ prefix_len-run is_name_byte (b ∷ bytes) behind passes (λ more. ap is_name_byte (stops more) ∙ colon_is_other)

bracketed_len-closed : (address behind : List ℕ) → IsTrue (is_run_of is_address_byte address) → bracketed_len (address ++ right_bracket ∷ behind) ≡ length address + 2
bracketed_len-closed address behind run =
    let parts = and_parts _ _ run in
    let end : prefix_len is_address_byte (address ++ right_bracket ∷ behind) ≡ length address = prefix_len-run is_address_byte address (right_bracket ∷ behind) parts.1 (λ _. right_bracket_is_other) in
    let last : get_or (address ++ right_bracket ∷ behind) (length address) 0 ≡ right_bracket = get_or_at address right_bracket behind 0 (length address) refl in
    rw end (cond-true _ _ _ (and_from _ _ parts.0 (eq-eqb _ _ last)))

-- a name in brackets before that too
name_len-bracketed : (address behind : List ℕ) → IsTrue (is_run_of is_address_byte address) → name_len ((left_bracket ∷ address ++ right_bracket ∷ []) ++ behind) ≡ length (left_bracket ∷ address ++ right_bracket ∷ [])
name_len-bracketed address behind run =
    let long : length (address ++ right_bracket ∷ []) ≡ length address + 1 = length-append address (right_bracket ∷ []) in
    let whole : length address + 2 ≡ length (left_bracket ∷ address ++ right_bracket ∷ []) = omega (arith, long) in
    ap bracketed_len (append_assoc address (right_bracket ∷ []) behind) ∙ bracketed_len-closed address behind run ∙ whole

name_len-written : (name behind : List ℕ) → IsHostName name → (0 < length behind → get_or behind 0 0 ≡ colon) → name_len (name ++ behind) ≡ length name
name_len-written name behind (inl plain) stops = name_len-run name behind plain stops
name_len-written name behind (inr (address, is, run)) stops = rw is (name_len-bracketed address behind run)

-- a name has bytes
length-name : (name : List ℕ) → IsHostName name → 0 < length name
length-name name (inl plain) = ltb-true _ _ (and_parts _ _ plain).0
length-name name (inr (address, is, run)) = rw is (omega arith)

-- a name and what may stand behind it are that host
pub host_parts-written : (text name : List ℕ) (port : Option ℕ) → IsHost text name port → host_parts text ≡ Some (name, port)
host_parts-written text name port (inl (empty, no_name, no_port)) = rw (empty, no_name, no_port) host_parts-nil
host_parts-written text name port (inr (behind, parts, named, ported)) =
    let long : name_len text ≡ length name = ap name_len parts ∙ name_len-written name behind named (behind_first behind port ported) in
    let front : take (name_len text) text ≡ name = rw (long, parts) (take_at name behind (length name) refl) in
    let back : drop (name_len text) text ≡ behind = rw (long, parts) (drop_at name behind (length name) refl) in
    host_parts_named text (omega (arith, long, length-name name named)) ∙ rw (back, ported, front) refl

-- a text is a host in no way where the definition answers none, and else in the way that it tells
pub host_parts_exactly : (text : List ℕ) → MatchOption (host_parts text) (IsNoHost text) (λ h. IsHost text h.0 h.1)
host_parts_exactly text = elim (cases_eq (length text) 0) [
  | inl empty ↦ let is : text ≡ [] = nil_from_length text empty in rw is (rw host_parts-nil (inl (refl, refl, refl)))
  | inr some ↦ elim (cases_eq (name_len text) 0) [
    | inl none ↦ refused text (host_parts_nameless text (omega arith) none)
    | inr named ↦ told text (omega arith)
  ]
]
  where
    refused : (text : List ℕ) → host_parts text ≡ None → MatchOption (host_parts text) (IsNoHost text) (λ h. IsHost text h.0 h.1)
    refused text none = rw none (λ name port host. let is = host_parts-written text name port host in cc)

    told : (text : List ℕ) → 0 < name_len text → MatchOption (host_parts text) (IsNoHost text) (λ h. IsHost text h.0 h.1)
    told text named = by (port_behind (drop (name_len text) text)) refl
      where
        by : (port : Option (Option ℕ)) → port_behind (drop (name_len text) text) ≡ port → MatchOption (host_parts text) (IsNoHost text) (λ h. IsHost text h.0 h.1)
        by None none = refused text (host_parts_named text named ∙ ap (option_map (λ port. (take (name_len text) text, port))) none)
        by (Some port) is =
            let read : host_parts text ≡ Some (take (name_len text) text, port) = host_parts_named text named ∙ ap (option_map (λ port. (take (name_len text) text, port))) is in
            rw read (inr (drop (name_len text) text, sym (take-append-drop (name_len text) text), name_is text named, is))

-- where it answers none, and where it tells a name and a port
pub IsNoHost-told : (text : List ℕ) → host_parts text ≡ None → IsNoHost text
IsNoHost-told text none = let exactly = host_parts_exactly text in rw none at exactly

pub IsHost-told : (text name : List ℕ) (port : Option ℕ) → host_parts text ≡ Some (name, port) → IsHost text name port
IsHost-told text name port told = let exactly = host_parts_exactly text in rw told at exactly

-- a valid host that isn't empty has a name that isn't
pub length-host_name : (text name : List ℕ) (port : Option ℕ) → host_parts text ≡ Some (name, port) → 0 < length text → 0 < length name
length-host_name text name port told some = elim (IsHost-told text name port told) [
  | inl empty ↦ absurd (omega (arith, ap length empty.0))
  | inr host ↦ length-name name host.2
]
