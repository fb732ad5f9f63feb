use Rattle.std.proofs.Common.{◌≤◌, arith}
use Rattle.talk_core.specs.Tail.{Voice, voice_of}
use Rattle.talk_core.specs.Teller.{Teller}
use Rattle.conn_steps.specs.Holds.{HoldsBy}
use Rattle.conn_steps.specs.Shown.{shows}
use Rattle.conn_steps.proofs.CallerLemmas.{turn_at}
use Rattle.conn_core.proofs.RunsLemmas.{ran_of_same}
use Rattle.conn_core.proofs.RightlyLemmas.{rightly_of_same}
use Rattle.conn_core.proofs.conn.Conn.turn.Goals as goal

pub returns-clause-holds : goal.returns-clause-holds
returns-clause-holds g c = λ S steady same h.
    let moved = c.turn.ensures.turns.moved in
    let runs = c.turn.ensures.turns.calls in
    let later : c.deref_mut-inside.result.now.calls ≤ c.turn.new.inside.calls = omega (arith, runs) in
    let both = turn_at (voice_of g.H.Hijack) S c.args.self.now.inside.value c.deref_mut-inside.result.now
    c.reach.new.self c.turn.new.inside (g.L.Link.seen c.args.self.now.link) (g.L.Link.seen c.turn.new.link) (g.R.Runner.answer c.args.runner.now)
    c.deref_mut-inside.ensures.value moved.peer moved.local moved.lives c.turn.ensures.turns.drains later h.lives_are same (c.turn.ensures.holds steady) h.stands in
    record { lives_are = both.0; stands = both.1 }

pub returns-clause-any : goal.returns-clause-any
returns-clause-any g c = λ T h.
    let V : Voice g.row.H.Denot = voice_of g.H.Hijack in
    ran_of_same V T g.R.Runner.answer (g.L.Link.seen c.args.self.now.link) (g.L.Link.seen c.turn.new.link) c.args.self.now.inside.value
    c.deref_mut-inside.result.now (shows c.turn.new.inside) (λ (U : Teller g.row.H.Denot). HoldsBy V U (g.L.Link.seen c.turn.new.link) c.turn.new.inside)
    (g.R.Runner.answered c.args.runner.now) (g.R.Runner.answered c.turn.new.runner) (g.R.Runner.asked c.args.runner.now) (g.R.Runner.asked c.turn.new.runner)
    c.deref_mut-inside.ensures.value (c.turn.ensures.any T) h

pub returns-clause-rightly : goal.returns-clause-rightly
returns-clause-rightly g c = λ T h.
    rightly_of_same (voice_of g.H.Hijack) T c.args.now c.turn.result (g.L.Link.seen c.args.self.now.link) (g.L.Link.seen c.turn.new.link)
    c.args.self.now.inside.value c.deref_mut-inside.result.now c.reach.new.self c.turn.new.inside c.deref_mut-inside.ensures.value c.reach.ensures
    (c.turn.ensures.rightly T) h
