use Rattle.std.proofs.Common.{◌≡◌, false, true, refl, sym, ◌∙◌, arith}
use Rattle.message_framing.proofs.ScanLemmas.{skipping_is, not_skipping}
use Rattle.message_framing.proofs.intake.Intake.begun.Goals as goal

pub returns-in-Skipping : goal.returns-in-Skipping
returns-in-Skipping c = record {
  fed = λ b fed. (
    λ no. absurd (let clash : false ≡ true = no in cc),
    λ begun. absurd (omega (arith, begun, skipping_is b (sym fed.line ∙ c.in-Skipping.is))),
  );
  spent = λ b spent. (
    λ no. absurd (let clash : false ≡ true = no in cc),
    λ begun. absurd (omega (arith, begun, skipping_is b (sym spent.line ∙ c.in-Skipping.is))),
  );
  lacked = λ b h. (
    λ no. absurd (let clash : false ≡ true = no in cc),
    λ begun. absurd (omega (arith, begun, skipping_is b (sym h.line ∙ c.in-Skipping.is))),
  );
}

pub returns-in_default : goal.returns-in_default
returns-in_default c = record {
  fed = λ b fed. (λ _. not_skipping b (λ is. c.in_default.not-Skipping (fed.line ∙ is)), λ _. refl);
  spent = λ b spent. (λ _. not_skipping b (λ is. c.in_default.not-Skipping (spent.line ∙ is)), λ _. refl);
  lacked = λ b h. (λ _. not_skipping b (λ is. c.in_default.not-Skipping (h.line ∙ is)), λ _. refl);
}
