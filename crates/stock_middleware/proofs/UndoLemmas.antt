-- A pair that was set is brought back.
use Rattle.std.proofs.Common.{◌≡◌, ℕ, Bool, true, false, cond, List, [], ◌∷◌, Option, Some, None, IsSome, refl, sym, ap, subst, ◌∙◌, bytes_eq}
use Rattle.std.proofs.lemmas.Slice.Eq.{bytes_eq-Decides}
use Rattle.rack_types.specs.Env.{Pairs, get_pair, set_pair, remove_pair}
use Rattle.rack_types.proofs.CallerLemmas.{get_pair-set_pair-same}
use Rattle.stock_middleware.specs.Undo.{put_back, CanPutBack}

is_same : (a : List ℕ) → bytes_eq a a ≡ true
is_same a = (bytes_eq-Decides a a).1 refl

-- another pair at the front stays
behind_other : (name : List ℕ) (o : Option (List ℕ)) (p : List ℕ × List ℕ) (qs : Pairs) → bytes_eq name p.0 ≡ false → put_back name o (p ∷ qs) ≡ p ∷ put_back name o qs
behind_other name None p qs e = ap (λ b. cond b qs (p ∷ remove_pair name qs)) e
behind_other name (Some v) p qs e = ap (λ b. cond b ((p.0, v) ∷ qs) (p ∷ set_pair name v qs)) e

-- a name that was set has again what it had
pub put_back-set_pair : (name value : List ℕ) (ps : Pairs) → put_back name (get_pair name ps) (set_pair name value ps) ≡ ps
put_back-set_pair name value [] = ap (λ b. cond b [] ((name, value) ∷ [])) (is_same name)
put_back-set_pair name value (p ∷ ps) = by (bytes_eq name p.0) refl (put_back-set_pair name value ps)
  where
    by : (t : Bool) → bytes_eq name p.0 ≡ t → put_back name (get_pair name ps) (set_pair name value ps) ≡ ps → put_back name (cond t (Some p.1) (get_pair name ps)) (cond t ((p.0, value) ∷ ps) (p ∷ set_pair name value ps)) ≡ p ∷ ps
    by true e rest = ap (λ b. cond b ((p.0, p.1) ∷ ps) ((p.0, value) ∷ set_pair name p.1 ps)) e
    by false e rest =
        behind_other name (get_pair name ps) p (set_pair name value ps) e ∙ ap (λ qs. p ∷ qs) rest

-- and that can be done, whatever it had
pub CanPutBack-set_pair : (name value : List ℕ) (ps : Pairs) (o : Option (List ℕ)) → CanPutBack name o (set_pair name value ps)
CanPutBack-set_pair name value ps None = tt
CanPutBack-set_pair name value ps (Some was) =
    subst (λ (o : Option (List ℕ)). IsSome o) (sym (get_pair-set_pair-same name value ps)) refl
