-- Pairs set one behind the other, and the body's pairs behind others.
use Rattle.std.proofs.Common.{◌≡◌, ℕ, true, false, cond, List, [], ◌∷◌, ◌++◌, Option, Some, None, length, decimal, refl, sym, ap, ◌∙◌, codes}
use Rattle.std.proofs.lemmas.List.{append_assoc}
use Rattle.rack_types.specs.Env.{Environment, Pairs, get_pair, set_pair, with_pairs}
use Rattle.rack_types.specs.Fields.{values_of}
use Rattle.rack_types.specs.Request.{Parts, with_body}
use Rattle.rack_env.specs.Environment.{content_pairs, pair_if}
use Rattle.rack_env.specs.Fields.{joined}
use Rattle.rack_env.proofs.JoinLemmas.{set_pair-append, get_pair-append}

-- one pair more
pub set_behind : (e mid new : Environment) (name given value : List ℕ) (ps : Pairs) → mid ≡ with_pairs e ps → given ≡ value
    → new ≡ with_pairs mid (set_pair name given mid.pairs) → new ≡ with_pairs e (set_pair name value ps)
set_behind e mid new name given value ps is same put =
    put ∙ ap (λ (m : Environment). with_pairs m (set_pair name given m.pairs)) is ∙ ap (λ (v : List ℕ). with_pairs e (set_pair name v ps)) same

-- the length goes behind the type
length_behind : (value : List ℕ) (o : Option (List ℕ)) → set_pair (codes "CONTENT_LENGTH") value (pair_if (codes "CONTENT_TYPE") o) ≡ pair_if (codes "CONTENT_TYPE") o ++ (codes "CONTENT_LENGTH", value) ∷ []
length_behind value None = refl
length_behind value (Some t) = refl

pub no_length : (o : Option (List ℕ)) → get_pair (codes "CONTENT_LENGTH") (pair_if (codes "CONTENT_TYPE") o) ≡ None
no_length None = refl
no_length (Some t) = refl

abbrev type_of : Parts → Pairs
type_of r = pair_if (codes "CONTENT_TYPE") (joined (values_of (codes "content-type") r.fields))

-- no length is there behind the type
pub length_absent : (e mid : Environment) (r : Parts) → mid ≡ with_pairs e (e.pairs ++ type_of r) → get_pair (codes "CONTENT_LENGTH") e.pairs ≡ None
    → get_pair (codes "CONTENT_LENGTH") mid.pairs ≡ None
length_absent e mid r is absent =
    ap (λ (m : Environment). get_pair (codes "CONTENT_LENGTH") m.pairs) is
    ∙ get_pair-append (codes "CONTENT_LENGTH") e.pairs (type_of r) absent
    ∙ no_length (joined (values_of (codes "content-type") r.fields))

-- the length of a body that came in chunks
pub chunks_put : (e mid : Environment) (r : Parts) (bytes : List ℕ) (n : ℕ) (text : List ℕ) → mid ≡ with_pairs e (e.pairs ++ type_of r)
    → get_pair (codes "CONTENT_LENGTH") e.pairs ≡ None → r.chunked ≡ true → length bytes ≡ n → text ≡ decimal n
    → with_pairs mid (set_pair (codes "CONTENT_LENGTH") text mid.pairs) ≡ with_pairs e (e.pairs ++ content_pairs (with_body bytes r))
chunks_put e mid r bytes n text is absent chunked long written =
    let ty = joined (values_of (codes "content-type") r.fields) in
    ap (λ (m : Environment). with_pairs m (set_pair (codes "CONTENT_LENGTH") text m.pairs)) is
    ∙ ap (with_pairs e) (set_pair-append (codes "CONTENT_LENGTH") text e.pairs (type_of r) absent)
    ∙ ap (λ (ps : Pairs). with_pairs e (e.pairs ++ ps)) (length_behind text ty)
    ∙ ap (λ (t : List ℕ). with_pairs e (e.pairs ++ (type_of r ++ (codes "CONTENT_LENGTH", t) ∷ []))) (written ∙ ap decimal (sym long))
    ∙ ap (λ b. with_pairs e (e.pairs ++ (type_of r ++ pair_if (codes "CONTENT_LENGTH") (cond b (Some (decimal (length bytes))) (joined (values_of (codes "content-length") r.fields)))))) (sym chunked)

-- the length that the field says
pub length_put : (e mid new : Environment) (r : Parts) (bytes : List ℕ) → mid ≡ with_pairs e (e.pairs ++ type_of r) → r.chunked ≡ false
    → new ≡ with_pairs mid (mid.pairs ++ pair_if (codes "CONTENT_LENGTH") (joined (values_of (codes "content-length") r.fields)))
    → new ≡ with_pairs e (e.pairs ++ content_pairs (with_body bytes r))
length_put e mid new r bytes is whole put =
    let size = joined (values_of (codes "content-length") r.fields) in
    put
    ∙ ap (λ (m : Environment). with_pairs m (m.pairs ++ pair_if (codes "CONTENT_LENGTH") size)) is
    ∙ ap (with_pairs e) (append_assoc e.pairs (type_of r) (pair_if (codes "CONTENT_LENGTH") size))
    ∙ ap (λ b. with_pairs e (e.pairs ++ (type_of r ++ pair_if (codes "CONTENT_LENGTH") (cond b (Some (decimal (length bytes))) size)))) (sym whole)
