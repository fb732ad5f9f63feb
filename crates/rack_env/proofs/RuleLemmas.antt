-- An environment of a sound request breaks no rule.
use Rattle.std.proofs.Common.{◌≡◌, ℕ, ◌<◌, ◌^◌, Bool, true, false, cond, not, ◌||◌, ◌&&◌, ◌==◌, List, [], ◌∷◌, ◌++◌, length, Option, Some, None, is_some, decimal, refl, ap, ◌∙◌, bytes_eq, codes, arith, nat_lt}
use Rattle.rack_text.specs.Decimal.{is_decimal, decimal_value}
use Rattle.rack_text.proofs.CallerLemmas.{decimal_number-decimal}
use Rattle.rack_types.specs.Env.{Pairs, get_pair}
use Rattle.rack_types.specs.Fields.{values_of}
use Rattle.rack_types.specs.Request.{Parts, with_body}
use Rattle.rack_types.specs.Rules.{broken_env_rule, env_rule, first_broken, if_there, is_empty, begins_with_slash, breaks_E1, breaks_E2, breaks_E3, breaks_E4, breaks_E5, breaks_E6, breaks_E7, breaks_E8, breaks_E9, breaks_E10}
use Rattle.rack_types.specs.declared.limits.Version.{Version}
use Rattle.rack_types.specs.declared.limits.Version.TheVariants.{Http10, Http11}
use Rattle.rack_types.specs.declared.peer.Local.{Local}
use Rattle.rack_env.specs.Environment.{content_length, content_pairs, env_pairs, fixed_pairs, pair_if, protocol, scheme}
use Rattle.rack_env.specs.Fields.{field_pairs, joined, with_authority}
use Rattle.rack_env.specs.Host.{host_or_local, host_text, server}
use Rattle.rack_types.specs.Sound.{IsSound, is_path_right, is_length_right}
use Rattle.rack_text.specs.Host.{host_parts}
use Rattle.rack_env.proofs.NameLemmas.{no_field_pair, length_is_no_field, http_type_is_no_field, http_length_is_no_field}

-- each rule is kept
abbrev AllKept : {R : Type 0} → List (R × Bool) → Type 0
AllKept [] = Unit {0}
AllKept (rule ∷ rules) = (rule.1 ≡ false) × AllKept rules

none_broken : {R : Type 0} (rules : List (R × Bool)) → AllKept rules → first_broken rules ≡ None
none_broken [] kept = refl
none_broken (rule ∷ rules) kept = ap (λ b. cond b (Some rule.0) (first_broken rules)) kept.0 ∙ none_broken rules kept.1

module _ (r : Parts) (peer : List ℕ) (local : Local) where
  -- the pairs behind the fixed ones
  abbrev later : Pairs
  later = content_pairs r ++ with_authority r.authority (field_pairs r.fields)

  keeps_E1 : IsSound r → breaks_E1 (env_pairs r peer local) ≡ false
  unfolding env_pairs fixed_pairs
  keeps_E1 sound = ap not sound.method

  keeps_E2 : 0 < length local.name → breaks_E2 (env_pairs r peer local) ≡ false
  unfolding env_pairs fixed_pairs server
  keeps_E2 some = by (host_parts (host_text r.authority (values_of (codes "host") r.fields)))
    where
      named : (name : List ℕ) → 0 < length name → is_empty name ≡ false
      named [] some = absurd (omega arith)
      named (b ∷ name) some = refl

      by : (o : Option (List ℕ × Option ℕ)) → is_empty (host_or_local o local).0 ≡ false
      by None = named local.name some
      by (Some ([], port)) = named local.name some
      by (Some (b ∷ name, port)) = refl

  keeps_E3 : breaks_E3 (env_pairs r peer local) ≡ false
  unfolding env_pairs fixed_pairs
  keeps_E3 = refl

  keeps_E4 : breaks_E4 (env_pairs r peer local) ≡ false
  unfolding env_pairs fixed_pairs
  keeps_E4 = by r.version
    where
      by : (v : Version) → not (bytes_eq (protocol v) (codes "HTTP/1.0") || bytes_eq (protocol v) (codes "HTTP/1.1")) ≡ false
      by Http10 = refl
      by Http11 = refl

  keeps_E5 : breaks_E5 (env_pairs r peer local) ≡ false
  unfolding env_pairs fixed_pairs
  keeps_E5 = by local.https
    where
      by : (b : Bool) → not (bytes_eq (scheme b) (codes "http") || bytes_eq (scheme b) (codes "https")) ≡ false
      by true = refl
      by false = refl

  keeps_E6 : breaks_E6 (env_pairs r peer local) ≡ false
  unfolding env_pairs fixed_pairs
  keeps_E6 = refl

  keeps_E7 : breaks_E7 (env_pairs r peer local) ≡ false
  unfolding env_pairs fixed_pairs
  keeps_E7 = refl

  keeps_E8 : IsSound r → breaks_E8 (env_pairs r peer local) ≡ false
  unfolding env_pairs fixed_pairs
  keeps_E8 sound = by r.path sound.path
    where
      tests : (x y : Bool) → (x || y) ≡ true → ((not x && not y) || false) ≡ false
      tests true y h = refl
      tests false true h = refl
      tests false false h = cc

      by : (path : List ℕ) → is_path_right path r.method ≡ true
          → ((not (is_empty path) && not (begins_with_slash path) && not (bytes_eq path (codes "*") && bytes_eq r.method (codes "OPTIONS"))) || (true && is_empty path)) ≡ false
      by [] right = cc
      by (b ∷ path) right = tests (b == 47) (bytes_eq (b ∷ path) (codes "*") && bytes_eq r.method (codes "OPTIONS")) right

  keeps_E9 : breaks_E9 (env_pairs r peer local) ≡ false
  unfolding env_pairs fixed_pairs
  keeps_E9 =
      ap (λ (o : Option (List ℕ)). is_some o || is_some (get_pair (codes "HTTP_CONTENT_LENGTH") later)) (type_absent (joined (values_of (codes "content-type") r.fields)) (content_length r))
      ∙ ap (λ (o : Option (List ℕ)). is_some o) (length_absent (joined (values_of (codes "content-type") r.fields)) (content_length r))
    where
      fields : Pairs
      fields = with_authority r.authority (field_pairs r.fields)

      type_absent : (o p : Option (List ℕ)) → get_pair (codes "HTTP_CONTENT_TYPE") ((pair_if (codes "CONTENT_TYPE") o ++ pair_if (codes "CONTENT_LENGTH") p) ++ with_authority r.authority (field_pairs r.fields)) ≡ None
      type_absent None None = no_field_pair (codes "HTTP_CONTENT_TYPE") r.authority r.fields http_type_is_no_field refl
      type_absent None (Some w) = no_field_pair (codes "HTTP_CONTENT_TYPE") r.authority r.fields http_type_is_no_field refl
      type_absent (Some v) None = no_field_pair (codes "HTTP_CONTENT_TYPE") r.authority r.fields http_type_is_no_field refl
      type_absent (Some v) (Some w) = no_field_pair (codes "HTTP_CONTENT_TYPE") r.authority r.fields http_type_is_no_field refl

      length_absent : (o p : Option (List ℕ)) → get_pair (codes "HTTP_CONTENT_LENGTH") ((pair_if (codes "CONTENT_TYPE") o ++ pair_if (codes "CONTENT_LENGTH") p) ++ with_authority r.authority (field_pairs r.fields)) ≡ None
      length_absent None None = no_field_pair (codes "HTTP_CONTENT_LENGTH") r.authority r.fields http_length_is_no_field refl
      length_absent None (Some w) = no_field_pair (codes "HTTP_CONTENT_LENGTH") r.authority r.fields http_length_is_no_field refl
      length_absent (Some v) None = no_field_pair (codes "HTTP_CONTENT_LENGTH") r.authority r.fields http_length_is_no_field refl
      length_absent (Some v) (Some w) = no_field_pair (codes "HTTP_CONTENT_LENGTH") r.authority r.fields http_length_is_no_field refl

  -- the length is decimal, where it is there
  length_right : IsSound r → length r.body < 2 ^ 64 → if_there (λ value. not (is_decimal value)) (content_length r) ≡ false
  length_right sound small = by r.chunked
    where
      written : (n : ℕ) → n < 2 ^ 64 → is_decimal (decimal n) ≡ true
      written n fits = told (is_decimal (decimal n)) (decimal_number-decimal n (omega arith))
        where
          told : (t : Bool) → cond (t && nat_lt (decimal_value (decimal n)) (2 ^ 128)) (Some (decimal_value (decimal n))) None ≡ Some n → t ≡ true
          told true e = refl
          told false e = cc

      stated : (values : List (List ℕ)) → is_length_right values ≡ true → if_there (λ value. not (is_decimal value)) (joined values) ≡ false
      stated [] right = refl
      stated (value ∷ []) right = ap not right
      stated (value ∷ next ∷ more) right = cc

      by : (b : Bool) → if_there (λ value. not (is_decimal value)) (cond b (Some (decimal (length r.body))) (joined (values_of (codes "content-length") r.fields))) ≡ false
      by true = ap not (written (length r.body) small)
      by false = stated (values_of (codes "content-length") r.fields) sound.length

  keeps_E10 : IsSound r → length r.body < 2 ^ 64 → breaks_E10 (env_pairs r peer local) ≡ false
  unfolding env_pairs fixed_pairs
  keeps_E10 sound small = by (joined (values_of (codes "content-type") r.fields)) (content_length r) (length_right sound small)
    where
      none : if_there (λ value. not (is_decimal value)) (get_pair (codes "CONTENT_LENGTH") (with_authority r.authority (field_pairs r.fields))) ≡ false
      none = ap (if_there (λ value. not (is_decimal value))) (no_field_pair (codes "CONTENT_LENGTH") r.authority r.fields length_is_no_field refl)

      by : (o p : Option (List ℕ)) → if_there (λ value. not (is_decimal value)) p ≡ false
          → if_there (λ value. not (is_decimal value)) (get_pair (codes "CONTENT_LENGTH") ((pair_if (codes "CONTENT_TYPE") o ++ pair_if (codes "CONTENT_LENGTH") p) ++ with_authority r.authority (field_pairs r.fields))) ≡ false
      by None None right = none
      by None (Some w) right = right
      by (Some v) None right = none
      by (Some v) (Some w) right = right

  -- the environment of a sound request breaks no rule, where the local name is not empty
  pub keeps_rules : IsSound r → 0 < length local.name → length r.body < 2 ^ 64 → broken_env_rule (env_pairs r peer local) ≡ None
  unfolding broken_env_rule
  keeps_rules sound some small =
      let env = env_pairs r peer local in
      none_broken ((env_rule 1, breaks_E1 env) ∷ (env_rule 2, breaks_E2 env) ∷ (env_rule 3, breaks_E3 env) ∷ (env_rule 4, breaks_E4 env) ∷ (env_rule 5, breaks_E5 env)
      ∷ (env_rule 6, breaks_E6 env) ∷ (env_rule 7, breaks_E7 env) ∷ (env_rule 8, breaks_E8 env) ∷ (env_rule 9, breaks_E9 env) ∷ (env_rule 10, breaks_E10 env) ∷ [])
      (keeps_E1 sound, (keeps_E2 some, (keeps_E3, (keeps_E4, (keeps_E5, (keeps_E6, (keeps_E7, (keeps_E8 sound, (keeps_E9, (keeps_E10 sound small, tt))))))))))

-- and so is the one with its body
pub sound_whole : (r : Parts) (bytes : List ℕ) → IsSound r → IsSound (with_body bytes r)
sound_whole r bytes sound = record { method = sound.method; path = sound.path; length = sound.length }
