-- The names of fields in an environment: what they can't be.
use Rattle.std.proofs.Common.{◌≡◌, ℕ, Bool, true, false, cond, ◌==◌, List, [], ◌∷◌, ◌++◌, map, drop, Option, Some, None, refl, sym, ap, ◌∙◌, bytes_eq, codes, arith}
use Rattle.std.proofs.lemmas.Bool.{or_parts, or_right, or_left, false_from_ne_true}
use Rattle.std.proofs.lemmas.Bool.Decides.{nat_tests}
use Rattle.std.proofs.lemmas.Slice.Eq.{bytes_eq-Decides}
use Rattle.std.specs.Char.{to_ascii_lowercase}
use Rattle.std.specs.List.{fold, list_any}
use Rattle.rack_text.specs.Case.{lowered, same_ignoring_case}
use Rattle.rack_types.specs.Env.{Pairs, get_pair}
use Rattle.rack_types.proofs.CallerLemmas.{get_pair-set_pair-other}
use Rattle.rack_env.specs.Fields.{field_pairs, http_name, is_left_out, is_underscore, join_pair, name_byte, put_field, with_authority, with_more}

-- a byte of an environment's name, as it is in a field's name in lower case
abbrev pub back : ℕ → ℕ
back b = cond (b == 95) 45 (to_ascii_lowercase b)

back_byte : (b : ℕ) → is_underscore b ≡ false → back (name_byte b) ≡ to_ascii_lowercase b
back_byte b other = grind (arith, nat_tests)

pub back_name : (name : List ℕ) → list_any is_underscore name ≡ false → map back (map name_byte name) ≡ lowered name
back_name [] none = refl
back_name (b ∷ name) none =
    let parts = or_parts (is_underscore b) (list_any is_underscore name) none in
    ap (λ c. c ∷ map back (map name_byte name)) (back_byte b parts.0) ∙ ap (λ cs. to_ascii_lowercase b ∷ cs) (back_name name parts.1)

-- a name without `_` tells the field
pub name_back : (name word env : List ℕ) → list_any is_underscore name ≡ false → http_name name ≡ codes "HTTP_" ++ env → map back env ≡ lowered word
    → same_ignoring_case name word ≡ true
name_back name word env none is tells =
    let bare : map name_byte name ≡ env = ap (drop 5) is in
    let same : lowered name ≡ lowered word = sym (back_name name none) ∙ ap (map back) bare ∙ tells in
    (bytes_eq-Decides (lowered name) (lowered word)).1 same

-- no field that is not left out has the name
pub record IsNoField (k : List ℕ) : Type 0 where
  pub other : (name : List ℕ) → is_left_out name ≡ false → bytes_eq k (http_name name) ≡ false

pub join_other : (k name value : List ℕ) (ps : Pairs) → bytes_eq k name ≡ false → get_pair k (join_pair name value ps) ≡ get_pair k ps
join_other k name value [] other = ap (λ b. cond b (Some value) None) other
join_other k name value (p ∷ ps) other =
    by (bytes_eq name p.0) refl (join_other k name value ps other)
  where
    by : (t : Bool) → bytes_eq name p.0 ≡ t → get_pair k (join_pair name value ps) ≡ get_pair k ps
        → get_pair k (cond t ((p.0, with_more p.1 value) ∷ ps) (p ∷ join_pair name value ps)) ≡ cond (bytes_eq k p.0) (Some p.1) (get_pair k ps)
    by true e rest =
        let same : name ≡ p.0 = (bytes_eq-Decides name p.0).0 e in
        let differs : bytes_eq k p.0 ≡ false = ap (bytes_eq k) (sym same) ∙ other in
        ap (λ b. cond b (Some (with_more p.1 value)) (get_pair k ps)) differs ∙ sym (ap (λ b. cond b (Some p.1) (get_pair k ps)) differs)
    by false e rest = ap (λ o. cond (bytes_eq k p.0) (Some p.1) o) rest

put_other : (k : List ℕ) (ps : Pairs) (f : List ℕ × List ℕ) → IsNoField k → get_pair k (put_field ps f) ≡ get_pair k ps
put_other k ps f apart = by (is_left_out f.0) refl
  where
    by : (t : Bool) → is_left_out f.0 ≡ t → get_pair k (cond t ps (join_pair (http_name f.0) f.1 ps)) ≡ get_pair k ps
    by true e = refl
    by false e = join_other k (http_name f.0) f.1 ps (apart.other f.0 e)

put_others : (k : List ℕ) (ps : Pairs) (fields : List (List ℕ × List ℕ)) → IsNoField k → get_pair k (fold put_field ps fields) ≡ get_pair k ps
put_others k ps [] apart = refl
put_others k ps (f ∷ fields) apart = put_others k (put_field ps f) fields apart ∙ put_other k ps f apart

-- such a name is not among the fields' pairs
pub no_field_pair : (k : List ℕ) (authority : Option (List ℕ)) (fields : List (List ℕ × List ℕ)) → IsNoField k → bytes_eq k (codes "HTTP_HOST") ≡ false
    → get_pair k (with_authority authority (field_pairs fields)) ≡ None
unfolding field_pairs
no_field_pair k None fields apart other = put_others k [] fields apart
no_field_pair k (Some authority) fields apart other =
    get_pair-set_pair-other k (codes "HTTP_HOST") authority (fold put_field [] fields)
    (λ same. let yes : bytes_eq k (codes "HTTP_HOST") ≡ true = (bytes_eq-Decides k (codes "HTTP_HOST")).1 same in
    let both : true ≡ false = sym yes ∙ other in cc)
    ∙ put_others k [] fields apart

-- CONTENT_LENGTH is none of them, since they begin with HTTP_
pub length_is_no_field : IsNoField (codes "CONTENT_LENGTH")
length_is_no_field = record { other = λ name kept. refl }

-- nor are the two names that have no HTTP_
kept_apart : (name word env : List ℕ) → is_left_out name ≡ false → (same_ignoring_case name word ≡ true → is_left_out name ≡ true) → map back env ≡ lowered word
    → bytes_eq (codes "HTTP_" ++ env) (http_name name) ≡ false
kept_apart name word env kept out tells =
    let none = (or_parts _ _ (or_parts _ _ (or_parts _ _ kept).0).0).0 in
    false_from_ne_true _ (λ yes.
    let is : codes "HTTP_" ++ env ≡ http_name name = (bytes_eq-Decides (codes "HTTP_" ++ env) (http_name name)).0 yes in
    let both : true ≡ false = sym (out (name_back name word env none (sym is) tells)) ∙ kept in cc)

pub http_type_is_no_field : IsNoField (codes "HTTP_CONTENT_TYPE")
http_type_is_no_field = record {
  other = λ name kept. kept_apart name (codes "content-type") (codes "CONTENT_TYPE") kept
      (λ same. or_left _ _ (or_right _ _ same)) refl;
}

pub http_length_is_no_field : IsNoField (codes "HTTP_CONTENT_LENGTH")
http_length_is_no_field = record {
  other = λ name kept. kept_apart name (codes "content-length") (codes "CONTENT_LENGTH") kept
      (λ same. or_right _ _ same) refl;
}
