-- What an environment has of the fields, by their names.
use Rattle.std.proofs.Common.{◌≡◌, ◌⊎◌, inl, inr, ℕ, Bool, true, false, cond, ◌||◌, List, [], ◌∷◌, ◌++◌, map, filter, Option, Some, None, refl, sym, ap, ◌∙◌, bytes_eq, codes, arith, if◌then◌else◌}
use Rattle.std.proofs.lemmas.Bool.{or_parts, false_from_ne_true}
use Rattle.std.proofs.lemmas.Bool.Decides.{nat_tests}
use Rattle.std.proofs.lemmas.List.{append_assoc}
use Rattle.std.proofs.lemmas.Slice.Eq.{bytes_eq-Decides}
use Rattle.std.specs.Char.{to_ascii_lowercase}
use Rattle.std.specs.List.{fold, list_any}
use Rattle.rack_text.specs.Case.{lowered, same_ignoring_case}
use Rattle.rack_types.specs.Env.{Pairs, get_pair}
use Rattle.rack_types.specs.Fields.{values_of}
use Rattle.rack_types.specs.Request.{Parts}
use Rattle.rack_types.specs.declared.peer.Local.{Local}
use Rattle.rack_types.proofs.CallerLemmas.{get_pair-set_pair-other, get_pair-set_pair-same}
use Rattle.rack_env.specs.Environment.{content_pairs, env_pairs, fixed_pairs}
use Rattle.rack_env.specs.Fields.{field_pairs, http_name, is_left_out, is_underscore, join_pair, joined, name_byte, put_field, with_authority, with_more}
use Rattle.rack_env.proofs.EnvLemmas.{no_fields_before}
use Rattle.rack_env.proofs.JoinLemmas.{get_pair-append, is_same}
use Rattle.rack_env.proofs.NameLemmas.{back_name, join_other, name_back}

underscore_byte : (b : ℕ) → is_underscore (to_ascii_lowercase b) ≡ is_underscore b
underscore_byte b = grind (arith, nat_tests)

underscore_lowered : (name : List ℕ) → list_any is_underscore (lowered name) ≡ list_any is_underscore name
underscore_lowered [] = refl
underscore_lowered (b ∷ name) =
    ap (λ t. t || list_any is_underscore (lowered name)) (underscore_byte b) ∙ ap (λ t. is_underscore b || t) (underscore_lowered name)

-- whether a field is left out is told by its name in lower case
abbrev lower_left_out : List ℕ → Bool
lower_left_out low =
    list_any is_underscore low || bytes_eq low (lowered (codes "transfer-encoding"))
    || bytes_eq low (lowered (codes "content-type")) || bytes_eq low (lowered (codes "content-length"))

left_out_lowered : (name : List ℕ) → is_left_out name ≡ lower_left_out (lowered name)
left_out_lowered name =
    sym (ap (λ t. t || bytes_eq (lowered name) (lowered (codes "transfer-encoding"))
    || bytes_eq (lowered name) (lowered (codes "content-type")) || bytes_eq (lowered name) (lowered (codes "content-length"))) (underscore_lowered name))

-- and so is its name in the environment
lowered_byte : (b : ℕ) → name_byte (to_ascii_lowercase b) ≡ name_byte b
lowered_byte b = grind (arith, nat_tests)

lowered_name : (name : List ℕ) → map name_byte (lowered name) ≡ map name_byte name
lowered_name [] = refl
lowered_name (b ∷ name) =
    ap (λ c. c ∷ map name_byte (lowered name)) (lowered_byte b) ∙ ap (λ cs. name_byte b ∷ cs) (lowered_name name)

same_http : (a b : List ℕ) → lowered a ≡ lowered b → http_name a ≡ http_name b
same_http a b same = ap (λ n. codes "HTTP_" ++ n) (sym (lowered_name a) ∙ ap (map name_byte) same ∙ lowered_name b)

no_underscore : (name : List ℕ) → is_left_out name ≡ false → list_any is_underscore name ≡ false
no_underscore name kept = (or_parts _ _ (or_parts _ _ (or_parts _ _ kept).0).0).0

-- names that differ but for case differ in the environment
other_http : (name field : List ℕ) → is_left_out name ≡ false → is_left_out field ≡ false → same_ignoring_case field name ≡ false
    → bytes_eq (http_name name) (http_name field) ≡ false
other_http name field kept stays other =
    false_from_ne_true _ (λ yes.
    let is : http_name name ≡ http_name field = (bytes_eq-Decides (http_name name) (http_name field)).0 yes in
    let same = name_back field name (map name_byte name) (no_underscore field stays) (sym is) (back_name name (no_underscore name kept)) in
    let both : true ≡ false = sym same ∙ other in cc)

-- a value, and one more behind it
abbrev with_one : Option (List ℕ) → List ℕ → List ℕ
with_one None more = more
with_one (Some value) more = with_more value more

join_found : (k more : List ℕ) (ps : Pairs) → get_pair k (join_pair k more ps) ≡ Some (with_one (get_pair k ps) more)
join_found k more [] = ap (λ b. cond b (Some more) None) (is_same k)
join_found k more (p ∷ ps) = by (bytes_eq k p.0) refl (join_found k more ps)
  where
    by : (t : Bool) → bytes_eq k p.0 ≡ t → get_pair k (join_pair k more ps) ≡ Some (with_one (get_pair k ps) more)
        → get_pair k (cond t ((p.0, with_more p.1 more) ∷ ps) (p ∷ join_pair k more ps)) ≡ Some (with_one (cond t (Some p.1) (get_pair k ps)) more)
    by true e rest = ap (λ b. cond b (Some (with_more p.1 more)) (get_pair k ps)) e
    by false e rest = ap (λ b. cond b (Some p.1) (get_pair k (join_pair k more ps))) e ∙ rest

-- a value that is there, and all these behind it
abbrev with_all : Option (List ℕ) → List (List ℕ) → Option (List ℕ)
with_all None values = joined values
with_all (Some value) values = Some (fold with_more value values)

one_first : (o : Option (List ℕ)) (value : List ℕ) (values : List (List ℕ)) → with_all (Some (with_one o value)) values ≡ with_all o (value ∷ values)
one_first None value values = refl
one_first (Some w) value values = refl

-- what one field adds to its own name
put_here : (name : List ℕ) (ps : Pairs) (f : List ℕ × List ℕ) → is_left_out name ≡ false → same_ignoring_case f.0 name ≡ true
    → get_pair (http_name name) (put_field ps f) ≡ Some (with_one (get_pair (http_name name) ps) f.1)
put_here name ps f kept here =
    let same : lowered f.0 ≡ lowered name = (bytes_eq-Decides (lowered f.0) (lowered name)).0 here in
    let stays : is_left_out f.0 ≡ false = left_out_lowered f.0 ∙ ap lower_left_out same ∙ sym (left_out_lowered name) ∙ kept in
    ap (λ t. get_pair (http_name name) (cond t ps (join_pair (http_name f.0) f.1 ps))) stays
    ∙ ap (λ (n : List ℕ). get_pair (http_name name) (join_pair n f.1 ps)) (same_http f.0 name same)
    ∙ join_found (http_name name) f.1 ps

-- and to another
put_there : (name : List ℕ) (ps : Pairs) (f : List ℕ × List ℕ) → is_left_out name ≡ false → same_ignoring_case f.0 name ≡ false
    → get_pair (http_name name) (put_field ps f) ≡ get_pair (http_name name) ps
put_there name ps f kept other = by (is_left_out f.0) refl
  where
    by : (t : Bool) → is_left_out f.0 ≡ t → get_pair (http_name name) (cond t ps (join_pair (http_name f.0) f.1 ps)) ≡ get_pair (http_name name) ps
    by true e = refl
    by false e = join_other (http_name name) (http_name f.0) f.1 ps (other_http name f.0 kept e other)

all_found : (name : List ℕ) (ps : Pairs) (fields : List (List ℕ × List ℕ)) → is_left_out name ≡ false
    → get_pair (http_name name) (fold put_field ps fields) ≡ with_all (get_pair (http_name name) ps) (values_of name fields)
all_found name ps [] kept = nothing (get_pair (http_name name) ps)
  where
    nothing : (o : Option (List ℕ)) → o ≡ with_all o []
    nothing None = refl
    nothing (Some v) = refl
all_found name ps (f ∷ fields) kept =
    all_found name (put_field ps f) fields kept ∙ by (same_ignoring_case f.0 name) refl
  where
    by : (t : Bool) → same_ignoring_case f.0 name ≡ t
        → with_all (get_pair (http_name name) (put_field ps f)) (values_of name fields)
        ≡ with_all (get_pair (http_name name) ps) (map (λ (g : List ℕ × List ℕ). g.1) (if t then f ∷ filter (λ g. same_ignoring_case g.0 name) fields else filter (λ g. same_ignoring_case g.0 name) fields))
    by true e =
        ap (λ (o : Option (List ℕ)). with_all o (values_of name fields)) (put_here name ps f kept e)
        ∙ one_first (get_pair (http_name name) ps) f.1 (values_of name fields)
    by false e = ap (λ (o : Option (List ℕ)). with_all o (values_of name fields)) (put_there name ps f kept e)

-- the authority takes no other name's place
host_apart : (name : List ℕ) → is_left_out name ≡ false → same_ignoring_case name (codes "host") ≡ false → http_name name ≡ codes "HTTP_HOST" → ⊥
host_apart name kept other is =
    let same = name_back name (codes "host") (codes "HOST") (no_underscore name kept) is refl in
    let both : true ≡ false = sym same ∙ other in cc

found_with : (authority : Option (List ℕ)) (name : List ℕ) (fields : List (List ℕ × List ℕ)) → is_left_out name ≡ false
    → (authority ≡ None) ⊎ (same_ignoring_case name (codes "host") ≡ false)
    → get_pair (http_name name) (with_authority authority (field_pairs fields)) ≡ joined (values_of name fields)
unfolding field_pairs
found_with None name fields kept free = all_found name [] fields kept
found_with (Some authority) name fields kept (inl none) = cc
found_with (Some authority) name fields kept (inr other) =
    get_pair-set_pair-other (http_name name) (codes "HTTP_HOST") authority (fold put_field [] fields) (host_apart name kept other)
    ∙ all_found name [] fields kept

-- behind the other pairs
behind : (r : Parts) (peer : List ℕ) (local : Local) (rest : List ℕ)
    → get_pair (codes "HTTP_" ++ rest) (env_pairs r peer local) ≡ get_pair (codes "HTTP_" ++ rest) (with_authority r.authority (field_pairs r.fields))
unfolding env_pairs
behind r peer local rest =
    ap (get_pair (codes "HTTP_" ++ rest)) (sym (append_assoc (fixed_pairs r peer local) (content_pairs r) (with_authority r.authority (field_pairs r.fields))))
    ∙ get_pair-append (codes "HTTP_" ++ rest) (fixed_pairs r peer local ++ content_pairs r) (with_authority r.authority (field_pairs r.fields)) ((no_fields_before r peer local).none rest)

pub field_found : (r : Parts) (peer : List ℕ) (local : Local) (name : List ℕ) → is_left_out name ≡ false
    → (r.authority ≡ None) ⊎ (same_ignoring_case name (codes "host") ≡ false)
    → get_pair (http_name name) (env_pairs r peer local) ≡ joined (values_of name r.fields)
field_found r peer local name kept free = behind r peer local (map name_byte name) ∙ found_with r.authority name r.fields kept free

pub authority_found : (r : Parts) (peer : List ℕ) (local : Local) (authority : List ℕ) → r.authority ≡ Some authority
    → get_pair (codes "HTTP_HOST") (env_pairs r peer local) ≡ Some authority
authority_found r peer local authority is =
    behind r peer local (codes "HOST")
    ∙ ap (λ (o : Option (List ℕ)). get_pair (codes "HTTP_HOST") (with_authority o (field_pairs r.fields))) is
    ∙ get_pair-set_pair-same (codes "HTTP_HOST") authority (field_pairs r.fields)
