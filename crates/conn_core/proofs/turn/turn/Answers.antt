use Rattle.std.proofs.Common.{◌≡◌, ◌+◌, ◌≤◌, false, ltb, refl, arith, ap, ◌∙◌, ◌-◌}
use Rattle.talk_core.specs.Tail.{Voice, voice_of}
use Rattle.conn_steps.specs.declared.budget.Budget.{Budget}
use Rattle.conn_steps.specs.Inner.{budget_at}
use Rattle.conn_steps.specs.Moves.{turn_at}
use Rattle.conn_steps.specs.Shown.{shows, replied_at}
use Rattle.conn_steps.proofs.CallerLemmas.{owes_rightly, hearing_owes}
use Rattle.conn_core.proofs.MovesOfCalls.{full, start_makes, moving_start, moving_step, moving_end}
use Rattle.conn_core.proofs.RightlyLemmas.{rightly_start, rightly_step, rightly_end, turn_of, right_of}
use Rattle.conn_core.proofs.NextRequest.{begins_rightly}
use Rattle.conn_steps.proofs.CallerLemmas.{becomes_then}
use Rattle.conn_core.proofs.RunsLemmas.{ran_step, ran_rightly}
use Rattle.conn_core.proofs.TurnLemmas.{turning_start, turning_step, turning_end, step_stops, risen, ready_unended, tells_step, tells_before}
use Rattle.conn_core.proofs.turn.turn.Goals as goal

pub loop-inside-init : goal.loop-inside-init
loop-inside-init g c =
    let p = c.args.inside.now in
    let made = start_makes c.args.now (shows c.args.inside.now) (shows c.start.new.self) (g.L.Link.seen c.args.link.now) c.new-budget.result c.start.new.budget
    c.new-budget.ensures c.start.ensures.takes c.start.ensures.budget c.start.ensures.few c.requires.ready (owes_rightly c.start.new.self) in record {
      holds = λ e T tells h. c.start.ensures.holds e T (g.L.Link.seen c.args.link.now) tells h;
      any = λ T h. c.start.ensures.any T (g.L.Link.seen c.args.link.now) h;
      turning = turning_start c.args.now (shows c.args.inside.now) (shows c.start.new.self) (g.L.Link.seen c.args.link.now) c.new-budget.result c.start.new.budget
          c.new-budget.ensures c.start.ensures.takes c.start.ensures.budget c.start.ensures.few
          (ready_unended p.at p.intake p.unfed p.ring.items p.calls p.ending p.rests c.requires.ready).0;
      moving = moving_start c.args.now (shows c.args.inside.now) (shows c.start.new.self) (g.L.Link.seen c.args.link.now) c.start.new.budget made;
      rightly = λ T h.
          rightly_start c.args.now (shows c.args.inside.now) (shows c.start.new.self) (g.L.Link.seen c.args.link.now) c.start.new.budget
          (begins_rightly (voice_of g.H.Hijack) T (g.L.Link.seen c.args.link.now) c.args.inside.now h) made
          (ran_rightly (voice_of g.H.Hijack) T g.R.Runner.answer c.args.inside.now.calls (g.L.Link.seen c.args.link.now) (g.L.Link.seen c.args.link.now) c.start.new.self
          (g.R.Runner.answered c.args.runner.now) (g.R.Runner.answered c.start.new.runner) (g.R.Runner.asked c.args.runner.now) (g.R.Runner.asked c.start.new.runner)
          (c.start.ensures.any T (g.L.Link.seen c.args.link.now) h));
      counts = c.start.ensures.counts ∙ ap (λ (l : Budget). g.R.Runner.runs c.args.runner.now + l.runs) c.new-budget.ensures;
      becomes = c.start.ensures.becomes;
      steady = c.start.ensures.steady;
    }

pub step-requires : goal.step-requires
step-requires g c = omega (arith, c.loop-inside.invariant.counts, c.requires.room)

pub loop-inside-smaller : goal.loop-inside-smaller
loop-inside-smaller g c = c.in-GoesOn.ensures.leaves

pub loop-inside-preserved : goal.loop-inside-preserved
loop-inside-preserved g c =
    let i = c.loop-inside.invariant in
    let grew : c.args.inside.now.calls ≤ c.loop-inside.inside.calls = omega (arith, i.turning.calls, i.turning.few) in
    let more : c.loop-inside.inside.calls ≤ c.step.new.inside.calls = omega (arith, c.step.ensures.steps.calls, c.step.ensures.steps.few) in
    let late = (ready_unended c.args.inside.now.at c.args.inside.now.intake c.args.inside.now.unfed c.args.inside.now.ring.items c.args.inside.now.calls
    c.args.inside.now.ending c.args.inside.now.rests c.requires.ready).1 in
    let counts : g.R.Runner.runs c.step.new.runner + c.step.new.budget.runs ≡ g.R.Runner.runs c.args.runner.now + 10 = c.step.ensures.counts ∙ i.counts in
    record {
      holds = λ e T tells h.
          c.step.ensures.holds e T
          (tells_step T (g.R.Runner.answer c.args.runner.now) (g.R.Runner.answer c.loop-inside.runner) c.args.inside.now.local c.loop-inside.inside.local
          c.args.inside.now.peer c.loop-inside.inside.peer c.step.new.inside.ending.closing c.args.inside.now.calls c.loop-inside.inside.calls c.step.new.inside.calls
          (i.steady e) i.turning.moved.local i.turning.moved.peer grew tells)
          (i.holds e T (tells_before T (g.R.Runner.answer c.args.runner.now) c.args.inside.now.local c.args.inside.now.peer c.args.inside.now.calls
          (shows c.loop-inside.inside) (shows c.step.new.inside) c.step.ensures.steps.drains more tells) h);
      any = λ T h.
          ran_step (voice_of g.H.Hijack) T g.R.Runner.answer c.args.inside.now.calls (g.L.Link.seen c.args.link.now)
          (g.L.Link.seen c.loop-inside.link) (g.L.Link.seen c.step.new.link) c.loop-inside.inside c.step.new.inside
          (g.R.Runner.answered c.args.runner.now) (g.R.Runner.answered c.loop-inside.runner) (g.R.Runner.answered c.step.new.runner)
          (g.R.Runner.asked c.args.runner.now) (g.R.Runner.asked c.loop-inside.runner) (g.R.Runner.asked c.step.new.runner)
          c.args.now c.step.result c.loop-inside.budget c.step.new.budget grew c.step.ensures.steps c.step.ensures.moves (i.any T h) (λ U u. c.step.ensures.any U u);
      turning = turning_step (shows c.args.inside.now) (shows c.loop-inside.inside) (shows c.step.new.inside) (g.L.Link.seen c.args.link.now)
          (g.L.Link.seen c.loop-inside.link) (g.L.Link.seen c.step.new.link) c.loop-inside.budget c.step.new.budget late i.turning c.step.ensures.steps;
      moving = moving_step c.args.now (budget_at (shows c.args.inside.now) (g.L.Link.seen c.args.link.now) full false)
          (budget_at (shows c.loop-inside.inside) (g.L.Link.seen c.loop-inside.link) c.loop-inside.budget false)
          (budget_at (shows c.step.new.inside) (g.L.Link.seen c.step.new.link) c.step.new.budget false) i.moving c.in-GoesOn.ensures.moves;
      rightly = λ T h.
          rightly_step c.args.now (budget_at (shows c.args.inside.now) (g.L.Link.seen c.args.link.now) full false)
          (budget_at (shows c.loop-inside.inside) (g.L.Link.seen c.loop-inside.link) c.loop-inside.budget false)
          (budget_at (shows c.step.new.inside) (g.L.Link.seen c.step.new.link) c.step.new.budget false) (i.rightly T h) c.in-GoesOn.ensures.moves
          (ran_rightly (voice_of g.H.Hijack) T g.R.Runner.answer c.args.inside.now.calls (g.L.Link.seen c.args.link.now) (g.L.Link.seen c.step.new.link) c.step.new.inside
          (g.R.Runner.answered c.args.runner.now) (g.R.Runner.answered c.step.new.runner) (g.R.Runner.asked c.args.runner.now) (g.R.Runner.asked c.step.new.runner)
          (ran_step (voice_of g.H.Hijack) T g.R.Runner.answer c.args.inside.now.calls (g.L.Link.seen c.args.link.now)
          (g.L.Link.seen c.loop-inside.link) (g.L.Link.seen c.step.new.link) c.loop-inside.inside c.step.new.inside
          (g.R.Runner.answered c.args.runner.now) (g.R.Runner.answered c.loop-inside.runner) (g.R.Runner.answered c.step.new.runner)
          (g.R.Runner.asked c.args.runner.now) (g.R.Runner.asked c.loop-inside.runner) (g.R.Runner.asked c.step.new.runner)
          c.args.now c.step.result c.loop-inside.budget c.step.new.budget grew c.step.ensures.steps c.step.ensures.moves (i.any T h) (λ U u. c.step.ensures.any U u)));
      counts = counts;
      becomes = becomes_then g.R.Runner.becomes c.args.runner.now c.loop-inside.runner c.step.new.runner i.becomes c.step.ensures.becomes;
      steady = λ e ps input. c.step.ensures.steady e ps input ∙ i.steady e ps input;
    }

pub returns-in-Waits-clause-holds : goal.returns-in-Waits-clause-holds
returns-in-Waits-clause-holds g c = λ e T tells h.
    let i = c.loop-inside.invariant in
    let grew : c.args.inside.now.calls ≤ c.loop-inside.inside.calls = omega (arith, i.turning.calls, i.turning.few) in
    let more : c.loop-inside.inside.calls ≤ c.step.new.inside.calls = omega (arith, c.step.ensures.steps.calls, c.step.ensures.steps.few) in
    c.step.ensures.holds e T
    (tells_step T (g.R.Runner.answer c.args.runner.now) (g.R.Runner.answer c.loop-inside.runner) c.args.inside.now.local c.loop-inside.inside.local
    c.args.inside.now.peer c.loop-inside.inside.peer c.step.new.inside.ending.closing c.args.inside.now.calls c.loop-inside.inside.calls c.step.new.inside.calls
    (i.steady e) i.turning.moved.local i.turning.moved.peer grew tells)
    (i.holds e T (tells_before T (g.R.Runner.answer c.args.runner.now) c.args.inside.now.local c.args.inside.now.peer c.args.inside.now.calls
    (shows c.loop-inside.inside) (shows c.step.new.inside) c.step.ensures.steps.drains more tells) h)

pub returns-in-Waits-clause-turns : goal.returns-in-Waits-clause-turns
returns-in-Waits-clause-turns g c =
    let i = c.loop-inside.invariant in
    let p = c.args.inside.now in
    let late = (ready_unended p.at p.intake p.unfed p.ring.items p.calls p.ending p.rests c.requires.ready).1 in
    let turning = turning_step (shows c.args.inside.now) (shows c.loop-inside.inside) (shows c.step.new.inside) (g.L.Link.seen c.args.link.now)
    (g.L.Link.seen c.loop-inside.link) (g.L.Link.seen c.step.new.link) c.loop-inside.budget c.step.new.budget late i.turning c.step.ensures.steps in
    let stopped = step_stops c.step.result c.loop-inside.budget c.step.new.budget c.loop-inside.inside.at c.step.new.inside.at (shows c.step.new.inside)
    (g.L.Link.seen c.args.link.now) (g.L.Link.seen c.loop-inside.link) (g.L.Link.seen c.step.new.link) c.in-Waits.is c.step.ensures.leaves
    i.turning.moved.waits refl (hearing_owes c.step.new.inside) in
    let got = risen c.replied_at-replied.result c.replied_at.result (replied_at c.args.inside.now.at c.args.inside.now.calls)
    (replied_at c.step.new.inside.at c.step.new.inside.calls) c.replied_at-replied.ensures c.replied_at.ensures in
    let made = moving_end c.args.now c.step.result (shows c.args.inside.now) (shows c.loop-inside.inside) (shows c.step.new.inside) (g.L.Link.seen c.args.link.now)
    (g.L.Link.seen c.loop-inside.link) (g.L.Link.seen c.step.new.link) c.loop-inside.budget c.step.new.budget c.in-Waits.is turning.few i.moving
    c.step.ensures.moves in
    turning_end c.step.new.inside.at (shows c.args.inside.now) (shows c.step.new.inside) (g.L.Link.seen c.args.link.now) (g.L.Link.seen c.step.new.link)
    c.step.new.budget (ltb c.replied_at-replied.result c.replied_at.result) turning refl got stopped c.args.now c.turned.result c.turned.ensures made

pub returns-in-Waits-clause-rightly : goal.returns-in-Waits-clause-rightly
returns-in-Waits-clause-rightly g c = λ T h.
    let V : Voice g.row.H.Denot = voice_of g.H.Hijack in
    let i = c.loop-inside.invariant in
    let p = c.args.inside.now in
    let grew : c.args.inside.now.calls ≤ c.loop-inside.inside.calls = omega (arith, i.turning.calls, i.turning.few) in
    let l = c.loop-inside.budget in
    let k = c.step.new.budget in
    let few : (k.runs ≤ 10) × (k.reads ≤ 160) × (k.writes ≤ 160) = (
      omega (arith, i.turning.few.0, c.step.ensures.steps.few.0),
      omega (arith, i.turning.few.1, c.step.ensures.steps.few.1),
      omega (arith, i.turning.few.2, c.step.ensures.steps.few.2),
    ) in
    let made = rightly_end c.args.now c.step.result (shows c.args.inside.now) (shows c.loop-inside.inside) (shows c.step.new.inside) (g.L.Link.seen c.args.link.now)
    (g.L.Link.seen c.loop-inside.link) (g.L.Link.seen c.step.new.link) l k c.in-Waits.is few (i.rightly T h) c.step.ensures.moves
    (ran_rightly V T g.R.Runner.answer c.args.inside.now.calls (g.L.Link.seen c.args.link.now) (g.L.Link.seen c.step.new.link) c.step.new.inside
    (g.R.Runner.answered c.args.runner.now) (g.R.Runner.answered c.step.new.runner) (g.R.Runner.asked c.args.runner.now) (g.R.Runner.asked c.step.new.runner)
    (ran_step V T g.R.Runner.answer c.args.inside.now.calls (g.L.Link.seen c.args.link.now)
    (g.L.Link.seen c.loop-inside.link) (g.L.Link.seen c.step.new.link) c.loop-inside.inside c.step.new.inside
    (g.R.Runner.answered c.args.runner.now) (g.R.Runner.answered c.loop-inside.runner) (g.R.Runner.answered c.step.new.runner)
    (g.R.Runner.asked c.args.runner.now) (g.R.Runner.asked c.loop-inside.runner) (g.R.Runner.asked c.step.new.runner)
    c.args.now c.step.result c.loop-inside.budget c.step.new.budget grew c.step.ensures.steps c.step.ensures.moves (i.any T h) (λ U u. c.step.ensures.any U u))) in
    let late = (ready_unended p.at p.intake p.unfed p.ring.items p.calls p.ending p.rests c.requires.ready).1 in
    let turning = turning_step (shows c.args.inside.now) (shows c.loop-inside.inside) (shows c.step.new.inside) (g.L.Link.seen c.args.link.now)
    (g.L.Link.seen c.loop-inside.link) (g.L.Link.seen c.step.new.link) c.loop-inside.budget c.step.new.budget late i.turning c.step.ensures.steps in
    let stopped = step_stops c.step.result c.loop-inside.budget c.step.new.budget c.loop-inside.inside.at c.step.new.inside.at (shows c.step.new.inside)
    (g.L.Link.seen c.args.link.now) (g.L.Link.seen c.loop-inside.link) (g.L.Link.seen c.step.new.link) c.in-Waits.is c.step.ensures.leaves
    i.turning.moved.waits refl (hearing_owes c.step.new.inside) in
    let got = risen c.replied_at-replied.result c.replied_at.result (replied_at c.args.inside.now.at c.args.inside.now.calls)
    (replied_at c.step.new.inside.at c.step.new.inside.calls) c.replied_at-replied.ensures c.replied_at.ensures in
    record {
      turns = turning_end c.step.new.inside.at (shows c.args.inside.now) (shows c.step.new.inside) (g.L.Link.seen c.args.link.now) (g.L.Link.seen c.step.new.link)
          c.step.new.budget (ltb c.replied_at-replied.result c.replied_at.result) turning refl got stopped c.args.now c.turned.result c.turned.ensures
          (turn_of c.args.now (shows c.args.inside.now) (shows c.step.new.inside) (g.L.Link.seen c.args.link.now) (g.L.Link.seen c.step.new.link)
          (10 - k.runs) (160 - k.reads) (160 - k.writes) made);
      rightly = right_of c.args.now made.moves (turn_at (shows c.args.inside.now) (g.L.Link.seen c.args.link.now) 0 0 0 false)
          (turn_at (shows c.step.new.inside) (g.L.Link.seen c.step.new.link) (10 - k.runs) (160 - k.reads) (160 - k.writes) made.waited) made.made;
    }

pub returns-in-Waits-clause-counts : goal.returns-in-Waits-clause-counts
returns-in-Waits-clause-counts g c =
    let i = c.loop-inside.invariant in
    omega (arith, c.step.ensures.counts, i.counts, c.step.ensures.steps.calls, i.turning.calls)

pub returns-in-Waits-clause-becomes : goal.returns-in-Waits-clause-becomes
returns-in-Waits-clause-becomes g c =
    becomes_then g.R.Runner.becomes c.args.runner.now c.loop-inside.runner c.step.new.runner c.loop-inside.invariant.becomes c.step.ensures.becomes

pub returns-in-Waits-clause-steady : goal.returns-in-Waits-clause-steady
returns-in-Waits-clause-steady g c = λ e ps input. c.step.ensures.steady e ps input ∙ c.loop-inside.invariant.steady e ps input

pub returns-in-Waits-clause-any : goal.returns-in-Waits-clause-any
returns-in-Waits-clause-any g c = λ T h.
    let V : Voice g.row.H.Denot = voice_of g.H.Hijack in
    let i = c.loop-inside.invariant in
    let grew : c.args.inside.now.calls ≤ c.loop-inside.inside.calls = omega (arith, i.turning.calls, i.turning.few) in
    ran_step V T g.R.Runner.answer c.args.inside.now.calls (g.L.Link.seen c.args.link.now)
    (g.L.Link.seen c.loop-inside.link) (g.L.Link.seen c.step.new.link) c.loop-inside.inside c.step.new.inside
    (g.R.Runner.answered c.args.runner.now) (g.R.Runner.answered c.loop-inside.runner) (g.R.Runner.answered c.step.new.runner)
    (g.R.Runner.asked c.args.runner.now) (g.R.Runner.asked c.loop-inside.runner) (g.R.Runner.asked c.step.new.runner)
    c.args.now c.step.result c.loop-inside.budget c.step.new.budget grew c.step.ensures.steps c.step.ensures.moves (i.any T h) (λ U u. c.step.ensures.any U u)
