use Rattle.std.proofs.Common.{◌≡◌, ℕ, true, false, List, [], length, refl, ap, sym, ◌∙◌, arith, None, inl, inr}
use Rattle.rack_outside.specs.declared.link.LinkRead.TheVariants as read
use Rattle.talk_core.specs.Counts.{counted_by}
use Rattle.talk_core.specs.Tail.{Voice, voice_of}
use Rattle.talk_core.proofs.CallerLemmas.{appended_none}
use Rattle.conn_steps.specs.declared.state.State.TheVariants as state
use Rattle.conn_steps.specs.At.{state_at as place_as}
use Rattle.conn_steps.specs.Shown.{shows, why_at}
use Rattle.conn_steps.proofs.CallerLemmas.{ran_none}
use Rattle.conn_steps.proofs.CallerLemmas.{counted_sum}
use Rattle.conn_core.proofs.TurnLemmas.{unspent, nothing_read, stays, read_steps, start_steps, ready_unended}
use Rattle.conn_core.proofs.WhyLemmas.{no_why_at}
use Rattle.conn_steps.proofs.CallerLemmas.{owes_rightly, hearing_owes, silent_hears}
use Rattle.conn_core.proofs.MovesOfCalls.{is_open, takes_makes, ended_read, read_makes, over_stops, handed_stops, spent_stops}
use Rattle.conn_core.proofs.turn.step.Goals as goal

pub returns-then-is_spent-clause-steps : goal.returns-then-is_spent-clause-steps
returns-then-is_spent-clause-steps g c = stays (shows c.args.inside.now) (g.L.Link.seen c.args.link.now) c.args.budget.now

pub returns-then-is_spent-2-clause-steps : goal.returns-then-is_spent-2-clause-steps
returns-then-is_spent-2-clause-steps g c = stays (shows c.args.inside.now) (g.L.Link.seen c.args.link.now) c.args.budget.now

pub returns-in-Over-clause-steps : goal.returns-in-Over-clause-steps
returns-in-Over-clause-steps g c = stays (shows c.args.inside.now) (g.L.Link.seen c.args.link.now) c.args.budget.now

pub returns-in-NotYet-clause-steps : goal.returns-in-NotYet-clause-steps
returns-in-NotYet-clause-steps g c =
    let h = c.in-NotYet.ensures.reads in
    let some = unspent c.is_spent.result c.args.budget.now c.is_spent.ensures c.if-is_spent.false in
    let reading : place_as c.args.inside.now.at ≡ state.Reading = sym c.state_at.ensures ∙ c.in-Reading.is in
    let none : why_at c.args.inside.now.at ≡ None = no_why_at c.args.inside.now.at state.Reading reading (λ e. cc) in
    read_steps read.NotYet (shows c.args.inside.now) (shows c.read.new.self) (g.L.Link.seen c.args.link.now) (g.L.Link.seen c.read.new.link)
    c.args.budget.now c.args.budget.now.came h (ap (λ (x : List ℕ). counted_by (length x) c.args.budget.now.came) (sym h.leaves.0)) some.1 reading none
    c.in-NotYet.ensures.keeps.ending

pub returns-in-Bytes-clause-steps : goal.returns-in-Bytes-clause-steps
returns-in-Bytes-clause-steps g c =
    let h = c.in-Bytes.ensures.reads in
    let some = unspent c.is_spent.result c.args.budget.now c.is_spent.ensures c.if-is_spent.false in
    let reading : place_as c.args.inside.now.at ≡ state.Reading = sym c.state_at.ensures ∙ c.in-Reading.is in
    let none : why_at c.args.inside.now.at ≡ None = no_why_at c.args.inside.now.at state.Reading reading (λ e. cc) in
    read_steps (read.Bytes c.in-Bytes.n) (shows c.args.inside.now) (shows c.read.new.self) (g.L.Link.seen c.args.link.now) (g.L.Link.seen c.read.new.link)
    c.args.budget.now c.saturating_add-budget.result h
    (c.saturating_add-budget.ensures ∙ sym (counted_sum c.in-Bytes.n c.args.budget.now.came h.leaves.1)
    ∙ ap (λ (x : ℕ). counted_by x c.args.budget.now.came) h.leaves.0) some.1 reading none c.in-Bytes.ensures.keeps.ending

pub returns-in-End-clause-steps : goal.returns-in-End-clause-steps
returns-in-End-clause-steps g c =
    let h = c.read.ensures.reads in
    let some = unspent c.is_spent.result c.args.budget.now c.is_spent.ensures c.if-is_spent.false in
    let reading : place_as c.args.inside.now.at ≡ state.Reading = sym c.state_at.ensures ∙ c.in-Reading.is in
    let none : why_at c.args.inside.now.at ≡ None = no_why_at c.args.inside.now.at state.Reading reading (λ e. cc) in
    let nothing = nothing_read c.read.result (shows c.read.new.self) h.moved.came (g.L.Link.seen c.args.link.now) (g.L.Link.seen c.read.new.link)
    c.in-End.is h.leaves in
    read_steps c.read.result (shows c.args.inside.now) (shows c.read.new.self) (g.L.Link.seen c.args.link.now) (g.L.Link.seen c.read.new.link)
    c.args.budget.now c.args.budget.now.came h (ap (λ (x : List ℕ). counted_by (length x) c.args.budget.now.came) (sym nothing)) some.1 reading none
    c.read.ensures.keeps.ending

pub returns-else-is_spent-2-clause-steps : goal.returns-else-is_spent-2-clause-steps
returns-else-is_spent-2-clause-steps g c =
    let p = c.args.inside.now in
    let ready : place_as c.args.inside.now.at ≡ state.Ready = sym c.state_at.ensures ∙ c.in-Ready.is in
    let none : why_at c.args.inside.now.at ≡ None = no_why_at c.args.inside.now.at state.Ready ready (λ e. cc) in
    start_steps c.args.now (shows c.args.inside.now) (shows c.start.new.self) (g.L.Link.seen c.args.link.now) c.args.budget.now c.start.new.budget
    c.start.ensures.takes c.start.ensures.budget c.start.ensures.few ready none
    (ready_unended p.at p.intake p.unfed p.ring.items p.calls p.ending p.rests ready).0

pub returns-in-NotYet-clause-any : goal.returns-in-NotYet-clause-any
returns-in-NotYet-clause-any g c = λ T h.
    let V : Voice g.row.H.Denot = voice_of g.H.Hijack in
    let reads = c.in-NotYet.ensures.reads in
    ran_none V T g.R.Runner.answer c.args.inside.now.calls (g.L.Link.seen c.args.link.now) (g.L.Link.seen c.read.new.link) reads.moved.came c.read.new.self
    (g.R.Runner.answered c.args.runner.now) (g.R.Runner.asked c.args.runner.now) reads.calls reads.moved.given (c.read.ensures.holds T h)

pub returns-in-Bytes-clause-any : goal.returns-in-Bytes-clause-any
returns-in-Bytes-clause-any g c = λ T h.
    let V : Voice g.row.H.Denot = voice_of g.H.Hijack in
    let reads = c.in-Bytes.ensures.reads in
    ran_none V T g.R.Runner.answer c.args.inside.now.calls (g.L.Link.seen c.args.link.now) (g.L.Link.seen c.read.new.link) reads.moved.came c.read.new.self
    (g.R.Runner.answered c.args.runner.now) (g.R.Runner.asked c.args.runner.now) reads.calls reads.moved.given (c.read.ensures.holds T h)

pub returns-in-End-clause-any : goal.returns-in-End-clause-any
returns-in-End-clause-any g c = λ T h.
    let V : Voice g.row.H.Denot = voice_of g.H.Hijack in
    let reads = c.read.ensures.reads in
    ran_none V T g.R.Runner.answer c.args.inside.now.calls (g.L.Link.seen c.args.link.now) (g.L.Link.seen c.read.new.link) reads.moved.came c.read.new.self
    (g.R.Runner.answered c.args.runner.now) (g.R.Runner.asked c.args.runner.now) reads.calls reads.moved.given (c.read.ensures.holds T h)

pub returns-then-is_spent-clause-moves : goal.returns-then-is_spent-clause-moves
returns-then-is_spent-clause-moves g c =
    let reading : place_as c.args.inside.now.at ≡ state.Reading = sym c.state_at.ensures ∙ c.in-Reading.is in (
      refl,
      refl,
      refl,
      spent_stops (shows c.args.inside.now) (g.L.Link.seen c.args.link.now) c.args.budget.now (inl reading) (c.is_spent.ensures.0 c.if-is_spent.true),
    )

pub returns-then-is_spent-2-clause-moves : goal.returns-then-is_spent-2-clause-moves
returns-then-is_spent-2-clause-moves g c =
    let ready : place_as c.args.inside.now.at ≡ state.Ready = sym c.state_at.ensures ∙ c.in-Ready.is in (
      refl,
      refl,
      refl,
      spent_stops (shows c.args.inside.now) (g.L.Link.seen c.args.link.now) c.args.budget.now (inr ready) (c.is_spent-in-Ready.ensures.0 c.if-is_spent-2.true),
    )

pub returns-in-Over-clause-moves : goal.returns-in-Over-clause-moves
returns-in-Over-clause-moves g c =
    let over : place_as c.args.inside.now.at ≡ state.Over = sym c.state_at.ensures ∙ c.in-Over.is in
    (refl, refl, refl, over_stops (shows c.args.inside.now) (g.L.Link.seen c.args.link.now) c.args.budget.now over)

pub returns-in-NotYet-clause-moves : goal.returns-in-NotYet-clause-moves
returns-in-NotYet-clause-moves g c =
    let some = unspent c.is_spent.result c.args.budget.now c.is_spent.ensures c.if-is_spent.false in
    let reading : place_as c.args.inside.now.at ≡ state.Reading = sym c.state_at.ensures ∙ c.in-Reading.is in
    read_makes c.args.now read.NotYet (shows c.args.inside.now) (shows c.read.new.self) (g.L.Link.seen c.args.link.now) (g.L.Link.seen c.read.new.link)
    c.args.budget.now c.args.budget.now.came true refl c.in-NotYet.ensures.once c.in-NotYet.ensures.keeps reading some (owes_rightly c.read.new.self)

pub returns-in-Bytes-clause-moves : goal.returns-in-Bytes-clause-moves
returns-in-Bytes-clause-moves g c =
    let some = unspent c.is_spent.result c.args.budget.now c.is_spent.ensures c.if-is_spent.false in
    let reading : place_as c.args.inside.now.at ≡ state.Reading = sym c.state_at.ensures ∙ c.in-Reading.is in
    read_makes c.args.now (read.Bytes c.in-Bytes.n) (shows c.args.inside.now) (shows c.read.new.self) (g.L.Link.seen c.args.link.now) (g.L.Link.seen c.read.new.link)
    c.args.budget.now c.saturating_add-budget.result false refl c.in-Bytes.ensures.once c.in-Bytes.ensures.keeps reading some (owes_rightly c.read.new.self)

pub returns-in-End-clause-moves : goal.returns-in-End-clause-moves
returns-in-End-clause-moves g c =
    let some = unspent c.is_spent.result c.args.budget.now c.is_spent.ensures c.if-is_spent.false in
    let reading : place_as c.args.inside.now.at ≡ state.Reading = sym c.state_at.ensures ∙ c.in-Reading.is in
    read_makes c.args.now c.read.result (shows c.args.inside.now) (shows c.read.new.self) (g.L.Link.seen c.args.link.now) (g.L.Link.seen c.read.new.link)
    c.args.budget.now c.args.budget.now.came false (ended_read c.read.result c.in-End.is) c.read.ensures.once c.read.ensures.keeps reading some (owes_rightly c.read.new.self)

pub returns-else-is_spent-2-clause-moves : goal.returns-else-is_spent-2-clause-moves
returns-else-is_spent-2-clause-moves g c =
    let some = unspent c.is_spent-in-Ready.result c.args.budget.now c.is_spent-in-Ready.ensures c.if-is_spent-2.false in
    let ready : place_as c.args.inside.now.at ≡ state.Ready = sym c.state_at.ensures ∙ c.in-Ready.is in
    takes_makes c.args.now (shows c.args.inside.now) (shows c.start.new.self) (g.L.Link.seen c.args.link.now) c.args.budget.now c.start.new.budget
    c.start.ensures.takes c.start.ensures.budget c.start.ensures.few ready (is_open (shows c.args.inside.now) (g.L.Link.seen c.args.link.now) c.args.budget.now some)
    (owes_rightly c.start.new.self)

pub returns-else-is_saying-clause-steps : goal.returns-else-is_saying-clause-steps
returns-else-is_saying-clause-steps g c = stays (shows c.args.inside.now) (g.L.Link.seen c.args.link.now) c.args.budget.now

pub returns-else-is_saying-clause-moves : goal.returns-else-is_saying-clause-moves
returns-else-is_saying-clause-moves g c =
    let unfed : place_as c.args.inside.now.at ≡ state.Hijacked = sym c.state_at.ensures ∙ c.in-Hijacked.is in
    let hears = silent_hears c.args.inside.now.at c.is_saying.result unfed c.is_saying.ensures c.if-is_saying.false in
    let owes = hearing_owes c.args.inside.now hears in
    (refl, refl, refl, handed_stops (shows c.args.inside.now) (g.L.Link.seen c.args.link.now) c.args.budget.now owes.0 owes.1)

pub returns-else-is_saying-clause-leaves : goal.returns-else-is_saying-clause-leaves
returns-else-is_saying-clause-leaves g c =
    let unfed : place_as c.args.inside.now.at ≡ state.Hijacked = sym c.state_at.ensures ∙ c.in-Hijacked.is in
    let hears = silent_hears c.args.inside.now.at c.is_saying.result unfed c.is_saying.ensures c.if-is_saying.false in
    inr (inl hears)

pub returns-then-is_saying-clause-any : goal.returns-then-is_saying-clause-any
returns-then-is_saying-clause-any g c = λ T h.
    let V : Voice g.row.H.Denot = voice_of g.H.Hijack in
    let steps = c.speak.ensures.steps in
    let none : c.speak.new.inside.calls ≡ c.args.inside.now.calls = omega (arith, steps.calls, c.speak.ensures.runs) in
    ran_none V T g.R.Runner.answer c.args.inside.now.calls (g.L.Link.seen c.args.link.now) (g.L.Link.seen c.speak.new.link) steps.moved.came c.speak.new.inside
    (g.R.Runner.answered c.args.runner.now) (g.R.Runner.asked c.args.runner.now) none steps.moved.given (c.speak.ensures.holds T h)

pub returns-in-Answering-clause-any : goal.returns-in-Answering-clause-any
returns-in-Answering-clause-any g c = λ T h.
    let V : Voice g.row.H.Denot = voice_of g.H.Hijack in
    let steps = c.speak-in-Answering.ensures.steps in
    let none : c.speak-in-Answering.new.inside.calls ≡ c.args.inside.now.calls = omega (arith, steps.calls, c.speak-in-Answering.ensures.runs) in
    ran_none V T g.R.Runner.answer c.args.inside.now.calls (g.L.Link.seen c.args.link.now) (g.L.Link.seen c.speak-in-Answering.new.link) steps.moved.came c.speak-in-Answering.new.inside
    (g.R.Runner.answered c.args.runner.now) (g.R.Runner.asked c.args.runner.now) none steps.moved.given (c.speak-in-Answering.ensures.holds T h)

pub returns-then-is_spent-clause-any : goal.returns-then-is_spent-clause-any
returns-then-is_spent-clause-any g c = λ T h.
    let V : Voice g.row.H.Denot = voice_of g.H.Hijack in
    ran_none V T g.R.Runner.answer c.args.inside.now.calls (g.L.Link.seen c.args.link.now) (g.L.Link.seen c.args.link.now) [] c.args.inside.now
    (g.R.Runner.answered c.args.runner.now) (g.R.Runner.asked c.args.runner.now) refl (appended_none (g.L.Link.seen c.args.link.now).given) h

pub returns-then-is_spent-2-clause-any : goal.returns-then-is_spent-2-clause-any
returns-then-is_spent-2-clause-any g c = λ T h.
    let V : Voice g.row.H.Denot = voice_of g.H.Hijack in
    ran_none V T g.R.Runner.answer c.args.inside.now.calls (g.L.Link.seen c.args.link.now) (g.L.Link.seen c.args.link.now) [] c.args.inside.now
    (g.R.Runner.answered c.args.runner.now) (g.R.Runner.asked c.args.runner.now) refl (appended_none (g.L.Link.seen c.args.link.now).given) h

pub returns-in-Over-clause-any : goal.returns-in-Over-clause-any
returns-in-Over-clause-any g c = λ T h.
    let V : Voice g.row.H.Denot = voice_of g.H.Hijack in
    ran_none V T g.R.Runner.answer c.args.inside.now.calls (g.L.Link.seen c.args.link.now) (g.L.Link.seen c.args.link.now) [] c.args.inside.now
    (g.R.Runner.answered c.args.runner.now) (g.R.Runner.asked c.args.runner.now) refl (appended_none (g.L.Link.seen c.args.link.now).given) h

pub returns-else-is_saying-clause-any : goal.returns-else-is_saying-clause-any
returns-else-is_saying-clause-any g c = λ T h.
    let V : Voice g.row.H.Denot = voice_of g.H.Hijack in
    ran_none V T g.R.Runner.answer c.args.inside.now.calls (g.L.Link.seen c.args.link.now) (g.L.Link.seen c.args.link.now) [] c.args.inside.now
    (g.R.Runner.answered c.args.runner.now) (g.R.Runner.asked c.args.runner.now) refl (appended_none (g.L.Link.seen c.args.link.now).given) h

pub returns-else-is_spent-2-clause-any : goal.returns-else-is_spent-2-clause-any
returns-else-is_spent-2-clause-any g c = λ T h. c.start.ensures.any T (g.L.Link.seen c.args.link.now) h
