-- One step of a cascade.
use Rattle.std.proofs.Common.{◌≡◌, ℕ, suc, ◌<◌, true, false, cond, List, [], ◌∷◌, ◌++◌, length, drop, get_or, drop-cons, refl, sym, ap, ◌∙◌}
use Rattle.rack_types.specs.declared.answer.Answer.{Answer}
use Rattle.rack_types.specs.Body.{Content}
use Rattle.rack_types.specs.Env.{Pairs}
use Rattle.builder_core.specs.Meaning.{Answering, is_passed, from_first, tried}

module _ {E H : Type 0} (answer : E → Answering H) (ps : Pairs) (input : List ℕ) where
  -- an answer that isn't passed over is the answer
  pub tried-kept : (e : E) (es : List E) → is_passed (answer e ps input) ≡ false → tried answer (e ∷ es) ps input ≡ answer e ps input
  tried-kept e [] kept = refl
  tried-kept e (x ∷ es) kept =
      ap (λ b. cond b (from_first answer (answer x ps input) es ps input) (answer e ps input)) kept

  -- and behind one that is passed over the next one counts
  pub tried-passed : (e x : E) (es : List E) → is_passed (answer e ps input) ≡ true → tried answer (e ∷ (es ++ x ∷ [])) ps input ≡ tried answer (es ++ x ∷ []) ps input
  tried-passed e x [] passed = ap (λ b. cond b (answer x ps input) (answer e ps input)) passed
  tried-passed e x (y ∷ es) passed =
      ap (λ b. cond b (from_first answer (answer y ps input) (es ++ x ∷ []) ps input) (answer e ps input)) passed

  -- the rest of a cascade from one of its applications on
  left_from : (front : List E) (last x : E) (i : ℕ) → i < length front → x ≡ get_or front i x → drop i front ≡ x ∷ drop (suc i) front
  left_from front last x i within item =
      drop-cons front i x within ∙ ap (λ y. y ∷ drop (suc i) front) (sym item)

  -- the same in the middle of the loop: t is what application i answered
  pub kept_at : (apps front : List E) (last x : E) (i : ℕ) (t : Answer Content H) → i < length front → x ≡ get_or front i x → tried answer (drop i front ++ last ∷ []) ps input ≡ tried answer apps ps input → t ≡ answer x ps input → is_passed t ≡ false → t ≡ tried answer apps ps input
  kept_at apps front last x i t within item left is kept =
      is
      ∙ sym (tried-kept x (drop (suc i) front ++ last ∷ []) (ap is_passed (sym is) ∙ kept))
      ∙ ap (λ es. tried answer (es ++ last ∷ []) ps input) (sym (left_from front last x i within item))
      ∙ left

  pub passed_at : (apps front : List E) (last x : E) (i : ℕ) (t : Answer Content H) → i < length front → x ≡ get_or front i x → tried answer (drop i front ++ last ∷ []) ps input ≡ tried answer apps ps input → t ≡ answer x ps input → is_passed t ≡ true → tried answer (drop (suc i) front ++ last ∷ []) ps input ≡ tried answer apps ps input
  passed_at apps front last x i t within item left is passed =
      sym (tried-passed x last (drop (suc i) front) (ap is_passed (sym is) ∙ passed))
      ∙ ap (λ es. tried answer (es ++ last ∷ []) ps input) (sym (left_from front last x i within item))
      ∙ left
