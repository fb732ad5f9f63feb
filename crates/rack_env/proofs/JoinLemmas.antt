-- Pairs whose names get one value more.
use Rattle.std.proofs.Common.{◌≡◌, ℕ, Bool, true, false, cond, List, [], ◌∷◌, ◌++◌, Some, None, refl, sym, ap, ◌∙◌, bytes_eq}
use Rattle.std.proofs.lemmas.Slice.Eq.{bytes_eq-Decides}
use Rattle.std.proofs.lemmas.List.{append-nil}
use Rattle.std.specs.List.{fold}
use Rattle.rack_types.specs.Env.{Pairs, get_pair, set_pair}
use Rattle.rack_env.specs.Environment.{pair_if}
use Rattle.rack_env.specs.Fields.{join_pair, joined, with_more}
use Rattle.rack_env.specs.Placing.{join_values}

pub is_same : (a : List ℕ) → bytes_eq a a ≡ true
is_same a = (bytes_eq-Decides a a).1 refl

-- a name that is not there is set
pub join_pair-new : (name value : List ℕ) (ps : Pairs) → get_pair name ps ≡ None → join_pair name value ps ≡ set_pair name value ps
join_pair-new name value [] absent = refl
join_pair-new name value (p ∷ ps) absent =
    by (bytes_eq name p.0) (join_pair-new name value ps) absent
  where
    by : (t : Bool) → (get_pair name ps ≡ None → join_pair name value ps ≡ set_pair name value ps) → cond t (Some p.1) (get_pair name ps) ≡ None
        → cond t ((p.0, with_more p.1 value) ∷ ps) (p ∷ join_pair name value ps) ≡ cond t ((p.0, value) ∷ ps) (p ∷ set_pair name value ps)
    by true rest absent = cc
    by false rest absent = ap (λ qs. p ∷ qs) (rest absent)

-- pairs without the name stay in front
pub join_pair-append : (name value : List ℕ) (ps qs : Pairs) → get_pair name ps ≡ None → join_pair name value (ps ++ qs) ≡ ps ++ join_pair name value qs
join_pair-append name value [] qs absent = refl
join_pair-append name value (p ∷ ps) qs absent =
    by (bytes_eq name p.0) (join_pair-append name value ps qs) absent
  where
    by : (t : Bool) → (get_pair name ps ≡ None → join_pair name value (ps ++ qs) ≡ ps ++ join_pair name value qs) → cond t (Some p.1) (get_pair name ps) ≡ None
        → cond t ((p.0, with_more p.1 value) ∷ (ps ++ qs)) (p ∷ join_pair name value (ps ++ qs)) ≡ p ∷ (ps ++ join_pair name value qs)
    by true rest absent = cc
    by false rest absent = ap (λ rs. p ∷ rs) (rest absent)

pub set_pair-append : (name value : List ℕ) (ps qs : Pairs) → get_pair name ps ≡ None → set_pair name value (ps ++ qs) ≡ ps ++ set_pair name value qs
set_pair-append name value [] qs absent = refl
set_pair-append name value (p ∷ ps) qs absent =
    by (bytes_eq name p.0) (set_pair-append name value ps qs) absent
  where
    by : (t : Bool) → (get_pair name ps ≡ None → set_pair name value (ps ++ qs) ≡ ps ++ set_pair name value qs) → cond t (Some p.1) (get_pair name ps) ≡ None
        → cond t ((p.0, value) ∷ (ps ++ qs)) (p ∷ set_pair name value (ps ++ qs)) ≡ p ∷ (ps ++ set_pair name value qs)
    by true rest absent = cc
    by false rest absent = ap (λ rs. p ∷ rs) (rest absent)

-- and a name that is in neither is in none
pub get_pair-append : (name : List ℕ) (ps qs : Pairs) → get_pair name ps ≡ None → get_pair name (ps ++ qs) ≡ get_pair name qs
get_pair-append name [] qs absent = refl
get_pair-append name (p ∷ ps) qs absent =
    by (bytes_eq name p.0) (get_pair-append name ps qs) absent
  where
    by : (t : Bool) → (get_pair name ps ≡ None → get_pair name (ps ++ qs) ≡ get_pair name qs) → cond t (Some p.1) (get_pair name ps) ≡ None → cond t (Some p.1) (get_pair name (ps ++ qs)) ≡ get_pair name qs
    by true rest absent = cc
    by false rest absent = rest absent

-- one value more of a name that is last
join_last : (name value more : List ℕ) (ps : Pairs) → get_pair name ps ≡ None → join_pair name more (ps ++ (name, value) ∷ []) ≡ ps ++ (name, with_more value more) ∷ []
join_last name value more ps absent =
    join_pair-append name more ps ((name, value) ∷ []) absent
    ∙ ap (λ b. ps ++ cond b ((name, with_more value more) ∷ []) ((name, value) ∷ (name, more) ∷ [])) (is_same name)

join_more : (name value : List ℕ) (ps : Pairs) (values : List (List ℕ)) → get_pair name ps ≡ None
    → join_values name (ps ++ (name, value) ∷ []) values ≡ ps ++ (name, fold with_more value values) ∷ []
join_more name value ps [] absent = refl
join_more name value ps (more ∷ values) absent =
    ap (λ qs. join_values name qs values) (join_last name value more ps absent) ∙ join_more name (with_more value more) ps values absent

-- all values of a name that is not there make one pair behind the others
pub join_values-new : (name : List ℕ) (ps : Pairs) (values : List (List ℕ)) → get_pair name ps ≡ None
    → join_values name ps values ≡ ps ++ pair_if name (joined values)
join_values-new name ps [] absent = sym (append-nil ps)
join_values-new name ps (value ∷ values) absent =
    let first : join_pair name value ps ≡ ps ++ (name, value) ∷ [] = sym (ap (join_pair name value) (append-nil ps)) ∙ join_pair-append name value ps [] absent in
    ap (λ qs. join_values name qs values) first ∙ join_more name value ps values absent
