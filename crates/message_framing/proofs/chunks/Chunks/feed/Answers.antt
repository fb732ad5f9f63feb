use Rattle.std.proofs.Common.{◌≡◌, sym, subst, arith, ap, List, ℕ, Ok, length, take, ◌++◌, length-drop}
use Rattle.std.proofs.lemmas.List.{append-nil, take_all}
use Rattle.std.proofs.lemmas.Result.{err_from_is_err_and}
use Rattle.message_framing.specs.Decoding.{HasRead, Steps}
use Rattle.message_framing.specs.declared.chunks.Step.{Step}
use Rattle.message_framing.specs.declared.chunks.Step.TheVariants as step
use Rattle.message_framing.proofs.DecodingLemmas.{fed_on, fed_whole, fed_refused}
use Rattle.message_framing.proofs.chunks.Chunks.feed.Goals as goal

pub loop-at-init : goal.loop-at-init
loop-at-init c = record {
  within = omega arith;
  fed = λ b fed. subst (λ (w : List ℕ). HasRead c.args.self.now w) (sym (append-nil b)) fed;
}

pub loop-at-preserved : goal.loop-at-preserved
loop-at-preserved c =
    let one : Steps c.loop-at.self c.suffix.result.now (Ok (step.On c.in-On.n)) c.step.new.self =
    subst (λ (r : Step). Steps c.loop-at.self c.suffix.result.now (Ok r) c.step.new.self) c.in-On.is c.in_ok-n.ensures in
    record {
      within = omega (arith, one.1, ap length c.suffix.ensures, length-drop c.loop-at.at c.args.piece.now, c.loop-at.invariant.within);
      fed = fed_on c.args.self.now c.loop-at.self c.step.new.self c.args.piece.now c.suffix.result.now c.loop-at.at c.in-On.n
          c.suffix.ensures c.loop-at.invariant.fed one.2;
    }

pub returns-in-Whole : goal.returns-in-Whole
returns-in-Whole c =
    let one : Steps c.loop-at.self c.suffix.result.now (Ok (step.Whole c.in-Whole.n)) c.step.new.self =
    subst (λ (r : Step). Steps c.loop-at.self c.suffix.result.now (Ok r) c.step.new.self) c.in-Whole.is c.in_ok-n.ensures in (
      omega (arith, one.0, ap length c.suffix.ensures, length-drop c.loop-at.at c.args.piece.now, c.loop-at.invariant.within),
      fed_whole c.args.self.now c.loop-at.self c.args.piece.now c.suffix.result.now c.step.new.self.bytes.items c.loop-at.at c.in-Whole.n
          c.suffix.ensures c.loop-at.invariant.fed one.1,
    )

pub returns-in-Refused : goal.returns-in-Refused
returns-in-Refused c =
    let one : Steps c.loop-at.self c.suffix.result.now (Ok (step.Refused c.in-Refused.fault)) c.step.new.self =
    subst (λ (r : Step). Steps c.loop-at.self c.suffix.result.now (Ok r) c.step.new.self) c.in-Refused.is c.in_ok-n.ensures in
    fed_refused c.args.self.now c.loop-at.self c.args.piece.now c.suffix.result.now c.loop-at.at c.in-Refused.fault
    c.suffix.ensures c.loop-at.invariant.fed one

pub returns : goal.returns
returns c = λ b fed.
    let all : take c.loop-at.at c.args.piece.now ≡ c.args.piece.now = take_all c.loop-at.at c.args.piece.now c.loop-at-test.false in
    subst (λ (w : List ℕ). HasRead c.loop-at.self (b ++ w)) all (c.loop-at.invariant.fed b fed)

pub returns-in_err-n : goal.returns-in_err-n
returns-in_err-n c =
    let failed = err_from_is_err_and c.from_residual.result c.from_residual.ensures.1 in
    rw failed.1 (λ b fed. (c.loop-at.at, c.loop-at-test.true, c.in_err-n.ensures (b ++ take c.loop-at.at c.args.piece.now) (c.loop-at.invariant.fed b fed)))
