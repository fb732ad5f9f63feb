-- The authority in Host's place, and the fields behind other pairs.
use Rattle.std.proofs.Common.{◌≡◌, ℕ, Bool, true, false, cond, List, [], ◌∷◌, ◌++◌, Option, Some, None, is_some, refl, sym, ap, ◌∙◌, bytes_eq, codes, map}
use Rattle.std.proofs.lemmas.Slice.Eq.{bytes_eq-Decides}
use Rattle.std.proofs.lemmas.List.{append-nil}
use Rattle.std.specs.List.{fold}
use Rattle.rack_types.specs.Env.{Pairs, get_pair, set_pair}
use Rattle.rack_env.specs.Fields.{field_pairs, http_name, is_left_out, join_pair, name_byte, put_field, with_authority, with_more}
use Rattle.rack_env.specs.Placing.{host_last, place_field}
use Rattle.rack_env.proofs.JoinLemmas.{is_same, join_pair-append, set_pair-append}

-- the name h has that value, where it is there
abbrev in_place : List ℕ → List ℕ → Pairs → Pairs
in_place h value [] = []
in_place h value (p ∷ ps) = cond (bytes_eq h p.0) ((p.0, value) ∷ ps) (p ∷ in_place h value ps)

in_place-absent : (h value : List ℕ) (ps : Pairs) → get_pair h ps ≡ None → in_place h value ps ≡ ps
in_place-absent h value [] absent = refl
in_place-absent h value (p ∷ ps) absent =
    by (bytes_eq h p.0) (in_place-absent h value ps) absent
  where
    by : (t : Bool) → (get_pair h ps ≡ None → in_place h value ps ≡ ps) → cond t (Some p.1) (get_pair h ps) ≡ None → cond t ((p.0, value) ∷ ps) (p ∷ in_place h value ps) ≡ p ∷ ps
    by true rest absent = cc
    by false rest absent = ap (λ qs. p ∷ qs) (rest absent)

-- a value more of h does not count there
in_place-join_same : (h value more : List ℕ) (ps : Pairs) → in_place h value (join_pair h more ps) ≡ set_pair h value (in_place h value ps)
in_place-join_same h value more [] = ap (λ b. cond b ((h, value) ∷ []) ((h, more) ∷ [])) (is_same h)
in_place-join_same h value more (p ∷ ps) =
    by (bytes_eq h p.0) refl (in_place-join_same h value more ps)
  where
    by : (t : Bool) → bytes_eq h p.0 ≡ t → in_place h value (join_pair h more ps) ≡ set_pair h value (in_place h value ps)
        → in_place h value (cond t ((p.0, with_more p.1 more) ∷ ps) (p ∷ join_pair h more ps)) ≡ set_pair h value (cond t ((p.0, value) ∷ ps) (p ∷ in_place h value ps))
    by true e rest =
        ap (λ b. cond b ((p.0, value) ∷ ps) ((p.0, with_more p.1 more) ∷ in_place h value ps)) e
        ∙ sym (ap (λ b. cond b ((p.0, value) ∷ ps) ((p.0, value) ∷ set_pair h value ps)) e)
    by false e rest =
        ap (λ b. cond b ((p.0, value) ∷ join_pair h more ps) (p ∷ in_place h value (join_pair h more ps))) e
        ∙ ap (λ qs. p ∷ qs) rest
        ∙ sym (ap (λ b. cond b ((p.0, value) ∷ in_place h value ps) (p ∷ set_pair h value (in_place h value ps))) e)

-- a value more of another name goes where it went
in_place-join_other : (h value name more : List ℕ) (ps : Pairs) → bytes_eq h name ≡ false → in_place h value (join_pair name more ps) ≡ join_pair name more (in_place h value ps)
in_place-join_other h value name more [] other = ap (λ b. cond b ((name, value) ∷ []) ((name, more) ∷ [])) other
in_place-join_other h value name more (p ∷ ps) other =
    by (bytes_eq h p.0) (bytes_eq name p.0) refl refl (in_place-join_other h value name more ps other)
  where
    by : (t u : Bool) → bytes_eq h p.0 ≡ t → bytes_eq name p.0 ≡ u → in_place h value (join_pair name more ps) ≡ join_pair name more (in_place h value ps)
        → in_place h value (cond u ((p.0, with_more p.1 more) ∷ ps) (p ∷ join_pair name more ps)) ≡ join_pair name more (cond t ((p.0, value) ∷ ps) (p ∷ in_place h value ps))
    by true true e d rest =
        let same : h ≡ name = (bytes_eq-Decides h p.0).0 e ∙ sym ((bytes_eq-Decides name p.0).0 d) in
        let yes : bytes_eq h name ≡ true = (bytes_eq-Decides h name).1 same in
        absurd (let both : true ≡ false = sym yes ∙ other in cc)
    by true false e d rest =
        ap (λ b. cond b ((p.0, value) ∷ join_pair name more ps) (p ∷ in_place h value (join_pair name more ps))) e
        ∙ sym (ap (λ b. cond b ((p.0, with_more value more) ∷ ps) ((p.0, value) ∷ join_pair name more ps)) d)
    by false true e d rest =
        ap (λ b. cond b ((p.0, value) ∷ ps) ((p.0, with_more p.1 more) ∷ in_place h value ps)) e
        ∙ sym (ap (λ b. cond b ((p.0, with_more p.1 more) ∷ in_place h value ps) (p ∷ join_pair name more (in_place h value ps))) d)
    by false false e d rest =
        ap (λ b. cond b ((p.0, value) ∷ join_pair name more ps) (p ∷ in_place h value (join_pair name more ps))) e
        ∙ ap (λ qs. p ∷ qs) rest
        ∙ sym (ap (λ b. cond b ((p.0, with_more p.1 more) ∷ in_place h value ps) (p ∷ join_pair name more (in_place h value ps))) d)

one_behind : (b : Bool) (p : List ℕ × List ℕ) (ps qs : Pairs) → cond b (p ∷ ps) (p ∷ qs) ≡ p ∷ cond b ps qs
one_behind true p ps qs = refl
one_behind false p ps qs = refl

-- the value is there, or goes last
last_in_place : (h value : List ℕ) (ps : Pairs)
    → cond (is_some (get_pair h (in_place h value ps))) (in_place h value ps) (set_pair h value (in_place h value ps)) ≡ set_pair h value ps
last_in_place h value [] = refl
last_in_place h value (p ∷ ps) =
    by (bytes_eq h p.0) refl (last_in_place h value ps)
  where
    done : Pairs → Pairs
    done qs = cond (is_some (get_pair h qs)) qs (set_pair h value qs)

    by : (t : Bool) → bytes_eq h p.0 ≡ t
        → cond (is_some (get_pair h (in_place h value ps))) (in_place h value ps) (set_pair h value (in_place h value ps)) ≡ set_pair h value ps
        → let qs = cond t ((p.0, value) ∷ ps) (p ∷ in_place h value ps) in
        cond (is_some (get_pair h qs)) qs (set_pair h value qs) ≡ cond t ((p.0, value) ∷ ps) (p ∷ set_pair h value ps)
    by true e rest =
        ap (λ b. cond (is_some (cond b (Some value) (get_pair h ps))) ((p.0, value) ∷ ps) (set_pair h value ((p.0, value) ∷ ps))) e
    by false e rest =
        let qs = in_place h value ps in
        ap (λ b. cond (is_some (cond b (Some p.1) (get_pair h qs))) (p ∷ qs) (cond b ((p.0, value) ∷ qs) (p ∷ set_pair h value qs))) e
        ∙ one_behind (is_some (get_pair h qs)) p qs (set_pair h value qs)
        ∙ ap (λ rs. p ∷ rs) rest

-- one field: with the authority for Host at once, or afterwards
place_one : (authority : List ℕ) (ps : Pairs) (f : List ℕ × List ℕ)
    → in_place (codes "HTTP_HOST") authority (put_field ps f) ≡ place_field (Some authority) (in_place (codes "HTTP_HOST") authority ps) f
place_one authority ps f =
    by (is_left_out f.0) (bytes_eq (http_name f.0) (codes "HTTP_HOST")) refl
  where
    by : (t u : Bool) → bytes_eq (http_name f.0) (codes "HTTP_HOST") ≡ u
        → in_place (codes "HTTP_HOST") authority (cond t ps (join_pair (http_name f.0) f.1 ps))
        ≡ cond t (in_place (codes "HTTP_HOST") authority ps) (cond u (set_pair (http_name f.0) authority (in_place (codes "HTTP_HOST") authority ps)) (join_pair (http_name f.0) f.1 (in_place (codes "HTTP_HOST") authority ps)))
    by true u e = refl
    by false true e =
        let same : http_name f.0 ≡ codes "HTTP_HOST" = (bytes_eq-Decides _ _).0 e in
        ap (λ (n : List ℕ). in_place (codes "HTTP_HOST") authority (join_pair n f.1 ps)) same
        ∙ in_place-join_same (codes "HTTP_HOST") authority f.1 ps
        ∙ sym (ap (λ (n : List ℕ). set_pair n authority (in_place (codes "HTTP_HOST") authority ps)) same)
    by false false e = in_place-join_other (codes "HTTP_HOST") authority (http_name f.0) f.1 ps (turned (http_name f.0) (codes "HTTP_HOST") e)
      where
        turned : (a b : List ℕ) → bytes_eq a b ≡ false → bytes_eq b a ≡ false
        turned a b e = no (bytes_eq b a) refl
          where
            no : (t : Bool) → bytes_eq b a ≡ t → t ≡ false
            no false d = refl
            no true d =
                let yes : bytes_eq a b ≡ true = (bytes_eq-Decides a b).1 (sym ((bytes_eq-Decides b a).0 d)) in
                sym yes ∙ e

place_all : (authority : List ℕ) (ps : Pairs) (fields : List (List ℕ × List ℕ))
    → in_place (codes "HTTP_HOST") authority (fold put_field ps fields) ≡ fold (place_field (Some authority)) (in_place (codes "HTTP_HOST") authority ps) fields
place_all authority ps [] = refl
place_all authority ps (f ∷ fields) =
    place_all authority (put_field ps f) fields ∙ ap (λ (qs : Pairs). fold (place_field (Some authority)) qs fields) (place_one authority ps f)

-- the fields placed one by one are the pairs with the authority
placed : (authority : Option (List ℕ)) (ps : Pairs) (fields : List (List ℕ × List ℕ)) → get_pair (codes "HTTP_HOST") ps ≡ None
    → host_last authority (fold (place_field authority) ps fields) ≡ with_authority authority (fold put_field ps fields)
placed None ps fields absent = refl
placed (Some authority) ps fields absent =
    let at : fold (place_field (Some authority)) ps fields ≡ in_place (codes "HTTP_HOST") authority (fold put_field ps fields) =
    sym (place_all authority ps fields ∙ ap (λ (qs : Pairs). fold (place_field (Some authority)) qs fields) (in_place-absent (codes "HTTP_HOST") authority ps absent)) in
    ap (host_last (Some authority)) at ∙ last_in_place (codes "HTTP_HOST") authority (fold put_field ps fields)

-- no HTTP_ name is there
pub record HasNoFields (ps : Pairs) : Type 0 where
  pub none : (rest : List ℕ) → get_pair (codes "HTTP_" ++ rest) ps ≡ None

-- pairs with no HTTP_ name stay in front
put_field-append : (ps qs : Pairs) (f : List ℕ × List ℕ) → HasNoFields ps → put_field (ps ++ qs) f ≡ ps ++ put_field qs f
put_field-append ps qs f apart = by (is_left_out f.0)
  where
    by : (t : Bool) → cond t (ps ++ qs) (join_pair (http_name f.0) f.1 (ps ++ qs)) ≡ ps ++ cond t qs (join_pair (http_name f.0) f.1 qs)
    by true = refl
    by false = join_pair-append (http_name f.0) f.1 ps qs (apart.none (map name_byte f.0))

put_fields-append : (ps qs : Pairs) (fields : List (List ℕ × List ℕ)) → HasNoFields ps → fold put_field (ps ++ qs) fields ≡ ps ++ fold put_field qs fields
put_fields-append ps qs [] apart = refl
put_fields-append ps qs (f ∷ fields) apart =
    ap (λ (rs : Pairs). fold put_field rs fields) (put_field-append ps qs f apart) ∙ put_fields-append ps (put_field qs f) fields apart

with_authority-append : (authority : Option (List ℕ)) (ps qs : Pairs) → HasNoFields ps → with_authority authority (ps ++ qs) ≡ ps ++ with_authority authority qs
with_authority-append None ps qs apart = refl
with_authority-append (Some authority) ps qs apart = set_pair-append (codes "HTTP_HOST") authority ps qs (apart.none (codes "HOST"))

-- the fields placed one by one behind other pairs
pub placed_behind : (authority : Option (List ℕ)) (ps : Pairs) (fields : List (List ℕ × List ℕ)) → HasNoFields ps
    → host_last authority (fold (place_field authority) ps fields) ≡ ps ++ with_authority authority (field_pairs fields)
unfolding field_pairs
placed_behind authority ps fields apart =
    placed authority ps fields (apart.none (codes "HOST"))
    ∙ ap (with_authority authority) (ap (λ (qs : Pairs). fold put_field qs fields) (sym (append-nil ps)) ∙ put_fields-append ps [] fields apart)
    ∙ with_authority-append authority ps (fold put_field [] fields) apart
