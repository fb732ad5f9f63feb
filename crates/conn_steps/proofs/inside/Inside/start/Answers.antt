use Rattle.std.proofs.Common.{◌≡◌, ◌-◌, [], refl, ap, arith, inl, inr}
use Rattle.talk_core.specs.Tail.{Voice, voice_of}
use Rattle.talk_core.proofs.CallerLemmas.{appended_none}
use Rattle.conn_steps.specs.declared.at.At.{At}
use Rattle.conn_steps.specs.Shown.{fault_at}
use Rattle.conn_steps.proofs.MovesOfSteps.{unrefused}
use Rattle.conn_steps.proofs.RanLemmas.{ran_none}
use Rattle.conn_steps.proofs.WorkLemmas.{over_falls}
use Rattle.conn_steps.proofs.inside.Inside.start.Goals as goal

pub returns-else-answer : goal.returns-else-answer
returns-else-answer g c = record {
  holds = λ steady T s by h. c.if-answer.ensures.holds steady T s by h;
  any = λ T s h. c.if-answer.ensures.any T s h;
  takes = inr (omega arith, inr (unrefused c.args.self.now.at c.requires.ready c.in_default.not-Refused, c.if-answer.ensures.runs.0, c.if-answer.ensures.runs.1));
  budget = refl;
  few = omega arith;
  falls = over_falls c.args.budget.now c.args.self.now.at c.answer.new.self.at c.requires.ready c.if-answer.ensures.runs.0.state;
  counts = omega (arith, c.if-answer.ensures.counts);
  becomes = c.if-answer.ensures.becomes;
  steady = c.if-answer.ensures.steady;
}

pub returns-in-Refused-clause-any : goal.returns-in-Refused-clause-any
returns-in-Refused-clause-any g c = λ T s h.
    let V : Voice g.row.H.Denot = voice_of g.H.Hijack in
    ran_none V T g.R.Runner.answer c.args.self.now.calls s s [] c.refuse.new.self (g.R.Runner.answered c.args.runner.now) (g.R.Runner.asked c.args.runner.now)
    c.refuse.ensures.names.calls (appended_none s.given) (c.refuse.ensures.holds T s h)

pub returns-then-answer-clause-takes : goal.returns-then-answer-clause-takes
returns-then-answer-clause-takes g c =
    let one : c.args.budget.now.runs - (c.args.budget.now.runs - 1) ≡ 1 = omega (arith, c.requires.budget) in
    inl (one, unrefused c.args.self.now.at c.requires.ready c.in_default.not-Refused, c.if-answer.ensures.runs.0, c.if-answer.ensures.runs.1)

pub returns-in-Refused-clause-takes : goal.returns-in-Refused-clause-takes
returns-in-Refused-clause-takes g c =
    let none : c.args.budget.now.runs - c.args.budget.now.runs ≡ 0 = omega arith in
    let stands = ap (λ (a : At g.row.B.Denot g.row.H.Denot). fault_at a) c.in-Refused.is in
    inr (none, inl (c.in-Refused.fault, stands, c.refuse.ensures.names, c.refuse.ensures.keeps))
