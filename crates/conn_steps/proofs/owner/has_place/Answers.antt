use Rattle.std.proofs.Common.{sym, ◌∙◌, inl, inr}
use Rattle.std.proofs.lemmas.Bool.{false≢true}
use Rattle.conn_steps.proofs.RoomLemmas.{above_front, kept_test, more_test, above_test}
use Rattle.conn_steps.proofs.owner.has_place.Goals as goal
use Rattle.conn_steps.proofs.owner.has_place.Goals.{then-last-phase-via-then-last-phase, then-last-phase-via-else-last-phase+then-last-calls}

pub returns-then-not-stay_below : goal.returns-then-not-stay_below
returns-then-not-stay_below c = (
  λ t. absurd (false≢true t),
  λ h. absurd (above_front c.args.phase c.args.calls c.args.lives.now c.in-Some.front.now c.in-Some.last.now c.in-Some.ensures.cases.0
      (λ e. false≢true (sym c.if-not-stay_below.true ∙ c.stay_below.ensures ∙ e)) h),
)

pub returns-then-last-phase : goal.returns-then-last-phase
returns-then-last-phase c =
    kept_test c.args.phase c.args.calls c.args.lives.now c.in-Some.front.now c.in-Some.last.now c.in-Some.ensures.cases.0
    (sym c.stay_below.ensures ∙ c.if-not-stay_below.false)
    (elim c.then-last-phase.branch [
      | then-last-phase-via-then-last-phase w ↦ inl w.if-last-phase.true
      | then-last-phase-via-else-last-phase+then-last-calls w ↦ inr w.if-last-calls.true
    ])

pub returns-then-last-phase-2 : goal.returns-then-last-phase-2
returns-then-last-phase-2 c =
    more_test c.args.phase c.args.calls c.args.lives.now c.in-Some.front.now c.in-Some.last.now c.in-Some.ensures.cases.0
    (sym c.stay_below.ensures ∙ c.if-not-stay_below.false) c.if-last-phase.false c.if-last-calls.false c.if-last-phase-2.true

pub returns-else-last-phase-2 : goal.returns-else-last-phase-2
returns-else-last-phase-2 c =
    above_test c.args.phase c.args.calls c.args.lives.now c.in-Some.front.now c.in-Some.last.now c.in-Some.ensures.cases.0
    (sym c.stay_below.ensures ∙ c.if-not-stay_below.false) c.if-last-phase.false c.if-last-calls.false c.if-last-phase-2.false
