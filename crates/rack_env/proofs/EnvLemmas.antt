-- The parts of an environment, put one behind the other.
use Rattle.std.proofs.Common.{◌≡◌, ℕ, List, ◌++◌, Option, Some, None, refl, ap, ◌∙◌, codes}
use Rattle.std.proofs.lemmas.List.{append_assoc}
use Rattle.std.specs.List.{fold}
use Rattle.rack_types.specs.Env.{Environment, Pairs, get_pair, with_pairs, empty_env}
use Rattle.rack_types.specs.Input.{Reading}
use Rattle.rack_types.specs.Request.{Parts, with_body}
use Rattle.rack_types.specs.declared.peer.Local.{Local}
use Rattle.rack_env.specs.Environment.{content_length, content_pairs, env_pairs, fixed_pairs, pair_if}
use Rattle.rack_env.specs.Fields.{field_pairs, joined, with_authority}
use Rattle.rack_env.specs.Host.{server}
use Rattle.rack_env.specs.Placing.{host_last, place_field}
use Rattle.rack_env.proofs.JoinLemmas.{get_pair-append}
use Rattle.rack_env.proofs.PlaceLemmas.{HasNoFields, placed_behind}
use Rattle.rack_types.specs.Fields.{values_of}

-- neither type nor length is among the fixed pairs
pub no_type_fixed : (r : Parts) (peer : List ℕ) (local : Local) → get_pair (codes "CONTENT_TYPE") (fixed_pairs r peer local) ≡ None
unfolding fixed_pairs
no_type_fixed r peer local = refl

pub no_length_fixed : (r : Parts) (peer : List ℕ) (local : Local) → get_pair (codes "CONTENT_LENGTH") (fixed_pairs r peer local) ≡ None
unfolding fixed_pairs
no_length_fixed r peer local = refl

-- the fixed pairs do not speak of the body
fixed_whole : (r : Parts) (bytes peer : List ℕ) (local : Local) → fixed_pairs r peer local ≡ fixed_pairs (with_body bytes r) peer local
unfolding fixed_pairs server
fixed_whole r bytes peer local = refl

fields_fixed : (r : Parts) (peer : List ℕ) (local : Local) (rest : List ℕ) → get_pair (codes "HTTP_" ++ rest) (fixed_pairs r peer local) ≡ None
unfolding fixed_pairs
fields_fixed r peer local rest = refl

fields_content : (o p : Option (List ℕ)) (rest : List ℕ) → get_pair (codes "HTTP_" ++ rest) (pair_if (codes "CONTENT_TYPE") o ++ pair_if (codes "CONTENT_LENGTH") p) ≡ None
fields_content None None rest = refl
fields_content None (Some w) rest = refl
fields_content (Some v) None rest = refl
fields_content (Some v) (Some w) rest = refl

-- no HTTP_ name is there before the fields are put
pub no_fields_before : (r : Parts) (peer : List ℕ) (local : Local) → HasNoFields (fixed_pairs r peer local ++ content_pairs r)
no_fields_before r peer local = record {
  none = λ rest. get_pair-append (codes "HTTP_" ++ rest) (fixed_pairs r peer local) (content_pairs r) (fields_fixed r peer local rest)
      ∙ fields_content (joined (values_of (codes "content-type") r.fields)) (content_length r) rest;
}

-- the three parts make the whole
pub env_whole : (e fixed content fields : Environment) (r : Parts) (bytes peer : List ℕ) (local : Local) (input : Reading) → e ≡ empty_env input
    → fixed ≡ with_pairs e (fixed_pairs r peer local)
    → content ≡ with_pairs fixed (fixed.pairs ++ content_pairs (with_body bytes r))
    → fields ≡ with_pairs content (host_last r.authority (fold (place_field r.authority) content.pairs r.fields))
    → fields.pairs ≡ env_pairs (with_body bytes r) peer local
unfolding env_pairs
env_whole e fixed content fields r bytes peer local input empty is_fixed is_content is_fields =
    let whole = with_body bytes r in
    let at : content.pairs ≡ fixed_pairs whole peer local ++ content_pairs whole =
    ap (λ (m : Environment). m.pairs) is_content
    ∙ ap (λ (m : Environment). m.pairs ++ content_pairs whole) is_fixed
    ∙ ap (λ (ps : Pairs). ps ++ content_pairs whole) (fixed_whole r bytes peer local) in
    ap (λ (m : Environment). m.pairs) is_fields
    ∙ ap (λ (ps : Pairs). host_last r.authority (fold (place_field r.authority) ps r.fields)) at
    ∙ placed_behind r.authority (fixed_pairs whole peer local ++ content_pairs whole) r.fields (no_fields_before whole peer local)
    ∙ append_assoc (fixed_pairs whole peer local) (content_pairs whole) (with_authority r.authority (field_pairs r.fields))

-- and the input stays
pub input_kept : (e fixed content fields : Environment) (input : Reading) (ps qs rs : Pairs) → e ≡ empty_env input
    → fixed ≡ with_pairs e ps → content ≡ with_pairs fixed qs → fields ≡ with_pairs content rs → fields.input ≡ input
input_kept e fixed content fields input ps qs rs empty is_fixed is_content is_fields =
    ap (λ (m : Environment). m.input) is_fields
    ∙ ap (λ (m : Environment). m.input) is_content
    ∙ ap (λ (m : Environment). m.input) is_fixed
    ∙ ap (λ (m : Environment). m.input) empty
