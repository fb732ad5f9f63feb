-- Laws of pairs, for those who read and write an environment.
use Rattle.std.proofs.Common.{◌≡◌, ◌≢◌, ℕ, Bool, true, false, cond, List, [], ◌∷◌, ◌++◌, Some, None, refl, sym, ap, ◌∙◌, bytes_eq}
use Rattle.std.proofs.lemmas.Slice.Eq.{bytes_eq-Decides}
use Rattle.rack_types.specs.Env.{Pairs, get_pair, set_pair}

same_name : (a b : List ℕ) → bytes_eq a b ≡ true → a ≡ b
same_name a b = (bytes_eq-Decides a b).0

is_same : (a : List ℕ) → bytes_eq a a ≡ true
is_same a = (bytes_eq-Decides a a).1 refl

other_name : (a b : List ℕ) → a ≢ b → bytes_eq a b ≡ false
other_name a b other = by (bytes_eq a b) refl
  where
    by : (t : Bool) → bytes_eq a b ≡ t → t ≡ false
    by true e = absurd (other (same_name a b e))
    by false e = refl

-- a name that is set has the value
pub get_pair-set_pair-same : (name value : List ℕ) (ps : Pairs) → get_pair name (set_pair name value ps) ≡ Some value
get_pair-set_pair-same name value [] = ap (λ b. cond b (Some value) None) (is_same name)
get_pair-set_pair-same name value (p ∷ ps) =
    by (bytes_eq name p.0) refl (get_pair-set_pair-same name value ps)
  where
    by : (t : Bool) → bytes_eq name p.0 ≡ t → get_pair name (set_pair name value ps) ≡ Some value → get_pair name (cond t ((p.0, value) ∷ ps) (p ∷ set_pair name value ps)) ≡ Some value
    by true e rest = ap (λ b. cond b (Some value) (get_pair name ps)) e
    by false e rest = ap (λ b. cond b (Some p.1) (get_pair name (set_pair name value ps))) e ∙ rest

-- and each other name what it had
pub get_pair-set_pair-other : (other name value : List ℕ) (ps : Pairs) → other ≢ name → get_pair other (set_pair name value ps) ≡ get_pair other ps
get_pair-set_pair-other other name value [] apart =
    ap (λ b. cond b (Some value) None) (other_name other name apart)
get_pair-set_pair-other other name value (p ∷ ps) apart =
    by (bytes_eq name p.0) refl (get_pair-set_pair-other other name value ps apart)
  where
    by : (t : Bool) → bytes_eq name p.0 ≡ t → get_pair other (set_pair name value ps) ≡ get_pair other ps → get_pair other (cond t ((p.0, value) ∷ ps) (p ∷ set_pair name value ps)) ≡ get_pair other (p ∷ ps)
    by true e rest =
        let none : bytes_eq other p.0 ≡ false = other_name other p.0 (λ same. apart (same ∙ sym (same_name name p.0 e))) in
        ap (λ b. cond b (Some value) (get_pair other ps)) none ∙ sym (ap (λ b. cond b (Some p.1) (get_pair other ps)) none)
    by false e rest = ap (λ r. cond (bytes_eq other p.0) (Some p.1) r) rest

-- a new name goes last
pub set_pair-new : (name value : List ℕ) (ps : Pairs) → get_pair name ps ≡ None → set_pair name value ps ≡ ps ++ (name, value) ∷ []
set_pair-new name value [] absent = refl
set_pair-new name value (p ∷ ps) absent =
    by (bytes_eq name p.0) (set_pair-new name value ps) absent
  where
    by : (t : Bool) → (get_pair name ps ≡ None → set_pair name value ps ≡ ps ++ (name, value) ∷ []) → cond t (Some p.1) (get_pair name ps) ≡ None → cond t ((p.0, value) ∷ ps) (p ∷ set_pair name value ps) ≡ p ∷ (ps ++ (name, value) ∷ [])
    by true rest absent = cc
    by false rest absent = ap (λ qs. p ∷ qs) (rest absent)
