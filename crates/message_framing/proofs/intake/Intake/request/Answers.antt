use Rattle.std.proofs.Common.{◌≡◌, false, true, refl}
use Rattle.message_framing.proofs.FedLemmas.{stands_whole, spent_whole, spent_request, not_whole_else}
use Rattle.message_framing.proofs.intake.Intake.request.Goals as goal

pub returns-in-Whole-clause-spent : goal.returns-in-Whole-clause-spent
returns-in-Whole-clause-spent c = λ b r spent is. spent_request c.args.self.now b c.in-Whole.request r c.in-Whole.is spent is

pub returns-in_default : goal.returns-in_default
returns-in_default c = record {
  there = λ b fed. tt;
  none = λ b r fed is. absurd (let h = stands_whole c.args.self.now b r fed is in c.in_default.not-Whole h.0 h.1);
  spent = λ b r spent is. (let h = spent_whole c.args.self.now b spent in c.in_default.not-Whole h.0 h.1);
  whole = (
    λ some. absurd (let clash : false ≡ true = some in cc),
    λ whole. absurd (not_whole_else c.args.self.now.standing c.in_default.not-Whole whole),
  );
  lacking = λ lacks. refl;
}
