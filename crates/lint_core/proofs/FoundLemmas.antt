-- What a walk from the last header to the first finds.
use Rattle.std.proofs.Common.{◌≡◌, ℕ, ◌<◌, Bool, true, false, cond, not, ◌||◌, zero, suc, List, [], ◌∷◌, length, drop, Some, is_some, slice_get, refl, ap, subst, sym, ◌∙◌, bytes_eq, codes, arith}
use Rattle.std.specs.List.{list_any}
use Rattle.std.proofs.lemmas.Slice.Eq.{bytes_eq-Decides}
use Rattle.httparse.specs.Grammar.{is_token, is_token_byte}
use Rattle.rack_types.specs.AnswerRules.{is_control, is_upper}
use Rattle.rack_types.specs.Headers.{HeaderList, header_names, header_values, values_at}
use Rattle.lint_core.specs.declared.found.Found.{Found}
use Rattle.lint_core.specs.declared.found.Stated.{Stated}
use Rattle.lint_core.specs.Found.{found_in, with_header, stated_by}

-- one header more, at the front
pub found_in-cons : (h : List ℕ × List (List ℕ)) (headers : HeaderList) → found_in (h ∷ headers) ≡ with_header h.0 h.1 (found_in headers)
found_in-cons h headers = rw (kind (bytes_eq (codes "content-type") h.0), stated (bytes_eq (codes "content-length") h.0)) refl
  where
    kind : (t : Bool) → is_some (cond t (Some h.1) (header_values (codes "content-type") headers)) ≡ cond t true (is_some (header_values (codes "content-type") headers))
    kind true = refl
    kind false = refl

    stated : (t : Bool) → stated_by (cond t (Some h.1) (header_values (codes "content-length") headers)) ≡ cond t (stated_by (Some h.1)) (stated_by (header_values (codes "content-length") headers))
    stated true = refl
    stated false = refl

-- the header at a place, and those behind it
pub header_at : (headers : HeaderList) (i : ℕ) → i < length headers
    → (h : List ℕ × List (List ℕ)) × (slice_get (header_names headers) i ≡ Some h.0) × (values_at i headers ≡ h.1) × (drop i headers ≡ h ∷ drop (suc i) headers)
header_at [] i within = absurd (omega (arith, within))
header_at (h ∷ headers) zero within = (h, refl, refl, refl)
header_at (h ∷ headers) (suc i) within = header_at headers i (omega (arith, within))

-- what is found from a place on, by what is found behind it
pub found_in-drop : (headers : HeaderList) (i : ℕ) (name : List ℕ) → i < length headers → slice_get (header_names headers) i ≡ Some name
    → with_header name (values_at i headers) (found_in (drop (suc i) headers)) ≡ found_in (drop i headers)
found_in-drop headers i name within named =
    let at : (h : List ℕ × List (List ℕ)) × (slice_get (header_names headers) i ≡ Some h.0) × (values_at i headers ≡ h.1) × (drop i headers ≡ h ∷ drop (suc i) headers) = header_at headers i within in
    let same : name ≡ at.0.0 = by name at.0.0 (sym named ∙ at.1) in
    let behind = found_in (drop (suc i) headers) in
    ap (λ n. with_header n (values_at i headers) behind) same
    ∙ ap (λ vs. with_header at.0.0 vs behind) at.2
    ∙ sym (found_in-cons at.0 (drop (suc i) headers)) ∙ ap found_in (sym at.3)
  where
    by : (a b : List ℕ) → Some a ≡ Some b → a ≡ b
    by a b same = cc

-- a header whose name is known: nothing is wrong with its name
abbrev pub known_header : List (List ℕ) → Bool → Stated → Found → Found
known_header values kind length behind = record {
  no_token = behind.no_token;
  status = behind.status;
  upper = behind.upper;
  control = list_any (list_any is_control) values || behind.control;
  kind = kind;
  length = length;
}

pub type_header : (name : List ℕ) (values : List (List ℕ)) (behind : Found) → bytes_eq (codes "content-type") name ≡ true
    → known_header values true behind.length behind ≡ with_header name values behind
unfolding is_token_byte
type_header name values behind is =
    let e : codes "content-type" ≡ name = (bytes_eq-Decides (codes "content-type") name).0 is in
    subst (λ n. known_header values true behind.length behind ≡ with_header n values behind) e refl

pub length_header : (name : List ℕ) (values : List (List ℕ)) (behind : Found) → bytes_eq (codes "content-length") name ≡ true
    → known_header values behind.kind (stated_by (Some values)) behind ≡ with_header name values behind
unfolding is_token_byte
length_header name values behind is =
    let e : codes "content-length" ≡ name = (bytes_eq-Decides (codes "content-length") name).0 is in
    subst (λ n. known_header values behind.kind (stated_by (Some values)) behind ≡ with_header n values behind) e refl

-- another one
abbrev pub other_name : List ℕ → List (List ℕ) → Found → Found
other_name name values behind = record {
  no_token = not (is_token name) || behind.no_token;
  status = bytes_eq name (codes "status") || behind.status;
  upper = list_any is_upper name || behind.upper;
  control = list_any (list_any is_control) values || behind.control;
  kind = behind.kind;
  length = behind.length;
}

pub other_header : (name : List ℕ) (values : List (List ℕ)) (behind : Found) → bytes_eq (codes "content-type") name ≡ false → bytes_eq (codes "content-length") name ≡ false
    → other_name name values behind ≡ with_header name values behind
other_header name values behind no_type no_length = rw (no_type, no_length) refl

-- the same for a test of values: the value at a place, and those behind it
pub any-drop : (test : List ℕ → Bool) (values : List (List ℕ)) (j : ℕ) (v : List ℕ) → slice_get values j ≡ Some v
    → list_any test (drop j values) ≡ (test v || list_any test (drop (suc j) values))
any-drop test [] j v at = cc
any-drop test (w ∷ values) zero v at =
    let same : w ≡ v = cc in
    ap (λ u. test u || list_any test values) same
any-drop test (w ∷ values) (suc j) v at = any-drop test values j v at
