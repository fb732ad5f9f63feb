use Rattle.std.proofs.Common.{◌≡◌, ◌<◌, ◌≤◌, [], None, refl, sym, ◌∙◌, arith, inr}
use Rattle.conn_steps.specs.declared.state.State.TheVariants as state
use Rattle.conn_steps.specs.Keeps.{reaching}
use Rattle.conn_core.specs.Shown.{shown, link_of}
use Rattle.conn_core.proofs.CallerLemmas.{unended, few_calls}
use Rattle.puma_top.specs.Once.{most_taken}
use Rattle.puma_top.proofs.DriveLemmas.{driven_none, driven, feed_driven, turn_driven, feed_less, turn_less, say_less, tail_less, hear_less, room_for_turn, counts_on, counts_same, answers_then}
use Rattle.puma_top.proofs.HeardLemmas.{none_owed}
use Rattle.puma_top.proofs.drive.drive.Goals as goal

pub loop-conn-init : goal.loop-conn-init
loop-conn-init g c = record {
  drives = driven_none (shown c.args.conn.now) (g.L.Link.seen (link_of c.args.conn.now)) (unended c.args.conn.now (shown c.args.conn.now).state refl c.requires.live);
  counts = c.requires.unrun;
  steady = λ is ps input. refl;
  holds = λ S is answers h. h;
}

pub returns-then-taken-ge-MOST-clause-drives : goal.returns-then-taken-ge-MOST-clause-drives
returns-then-taken-ge-MOST-clause-drives g c = c.loop-conn.invariant.drives

pub returns-then-taken-ge-MOST-clause-done : goal.returns-then-taken-ge-MOST-clause-done
returns-then-taken-ge-MOST-clause-done g c =
    let long : most_taken ≤ (shown c.loop-conn.conn).taken = omega (arith, c.taken.ensures, c.if-taken-ge-MOST.true) in inr long

pub returns-then-taken-ge-MOST-clause-holds : goal.returns-then-taken-ge-MOST-clause-holds
returns-then-taken-ge-MOST-clause-holds g c = c.loop-conn.invariant.holds

pub returns-in-Over-clause-drives : goal.returns-in-Over-clause-drives
returns-in-Over-clause-drives g c = c.loop-conn.invariant.drives

pub returns-in-Over-clause-holds : goal.returns-in-Over-clause-holds
returns-in-Over-clause-holds g c = c.loop-conn.invariant.holds

pub loop-conn-smaller-in-Reading : goal.loop-conn-smaller-in-Reading
loop-conn-smaller-in-Reading g c =
    let o = shown c.loop-conn.conn in
    let is : o.state ≡ state.Reading = sym c.state.ensures ∙ c.in-Reading.is in
    let few : o.taken < most_taken = omega (arith, c.taken.ensures, c.if-taken-ge-MOST.false) in
    feed_less 0 c.feed-next.result (reaching 0 o) (shown c.feed-next.new.self) (g.L.Link.seen (link_of c.loop-conn.conn)) (g.L.Link.seen (link_of c.feed-next.new.self))
    is few (c.requires.patient (link_of c.loop-conn.conn)) (c.requires.patient (link_of c.feed-next.new.self)) c.feed-next.ensures.feeds

pub loop-conn-preserved-in-Reading : goal.loop-conn-preserved-in-Reading
loop-conn-preserved-in-Reading g c =
    let i = c.loop-conn.invariant in
    let o = shown c.loop-conn.conn in
    let n = shown c.feed-next.new.self in
    let f = c.feed-next.ensures.feeds in
    let none : o.why ≡ None = unended c.loop-conn.conn state.Reading (sym c.state.ensures ∙ c.in-Reading.is) (λ e. cc) in
    record {
      drives = feed_driven 0 c.feed-next.result (shown c.args.conn.now) o n (g.L.Link.seen (link_of c.args.conn.now))
          (g.L.Link.seen (link_of c.loop-conn.conn)) (g.L.Link.seen (link_of c.feed-next.new.self)) none i.drives f;
      counts = counts_same (g.R.Runner.runs c.loop-conn.runner) o.calls n.calls i.counts f.calls;
      steady = i.steady;
      holds = λ S steady answers h. c.feed-next.ensures.holds S (i.holds S steady answers h);
    }

pub turn-next-requires-clause-room : goal.turn-next-requires-clause-room
turn-next-requires-clause-room g c =
    let is : (shown c.loop-conn.conn).state ≡ state.Ready = sym c.state.ensures ∙ c.in-Ready.is in
    room_for_turn (g.R.Runner.runs c.loop-conn.runner) (shown c.loop-conn.conn).calls c.loop-conn.invariant.counts (few_calls c.loop-conn.conn is)

pub loop-conn-smaller-in-Ready : goal.loop-conn-smaller-in-Ready
loop-conn-smaller-in-Ready g c =
    let o = shown c.loop-conn.conn in
    let is : o.state ≡ state.Ready = sym c.state.ensures ∙ c.in-Ready.is in
    let few : o.taken < most_taken = omega (arith, c.taken.ensures, c.if-taken-ge-MOST.false) in
    turn_less 0 c.turn-next.result (reaching 0 o) (shown c.turn-next.new.self) (g.L.Link.seen (link_of c.loop-conn.conn)) (g.L.Link.seen (link_of c.turn-next.new.self))
    is few c.turn-next.ensures.turns

pub loop-conn-preserved-in-Ready : goal.loop-conn-preserved-in-Ready
loop-conn-preserved-in-Ready g c =
    let i = c.loop-conn.invariant in
    let a = shown c.args.conn.now in
    let o = shown c.loop-conn.conn in
    let n = shown c.turn-next.new.self in
    record {
      drives = turn_driven 0 c.turn-next.result a o n (g.L.Link.seen (link_of c.args.conn.now)) (g.L.Link.seen (link_of c.loop-conn.conn))
          (g.L.Link.seen (link_of c.turn-next.new.self)) c.requires.untold i.drives c.turn-next.ensures.turns;
      counts = counts_on (g.R.Runner.runs c.loop-conn.runner) (g.R.Runner.runs c.turn-next.new.runner) o.calls n.calls i.counts c.turn-next.ensures.runs;
      steady = λ steady ps input. c.turn-next.ensures.steady steady ps input ∙ i.steady steady ps input;
      holds = λ S steady answers h. c.turn-next.ensures.holds S steady
          (λ ps input. answers_then S (g.R.Runner.answer c.args.runner.now) (g.R.Runner.answer c.loop-conn.runner) a.lives o.lives
          i.drives.moved.lives answers (i.steady steady) ps input) (i.holds S steady answers h);
    }

pub loop-conn-smaller-in-Answering : goal.loop-conn-smaller-in-Answering
loop-conn-smaller-in-Answering g c =
    let o = shown c.loop-conn.conn in
    let is : o.state ≡ state.Answering = sym c.state.ensures ∙ c.in-Answering.is in
    let few : o.taken < most_taken = omega (arith, c.taken.ensures, c.if-taken-ge-MOST.false) in
    say_less o (shown c.say_reply.new.conn) (g.L.Link.seen (link_of c.loop-conn.conn)) (g.L.Link.seen (link_of c.say_reply.new.conn)) is few
    c.say_reply.ensures.drives c.say_reply.ensures.rests c.say_reply.ensures.said

pub loop-conn-preserved-in-Answering : goal.loop-conn-preserved-in-Answering
loop-conn-preserved-in-Answering g c =
    let i = c.loop-conn.invariant in
    let o = shown c.loop-conn.conn in
    record {
      drives = driven (shown c.args.conn.now) o (shown c.say_reply.new.conn) (g.L.Link.seen (link_of c.args.conn.now)) (g.L.Link.seen (link_of c.loop-conn.conn))
          (g.L.Link.seen (link_of c.say_reply.new.conn)) i.drives c.say_reply.ensures.drives;
      counts = i.counts ∙ sym c.say_reply.ensures.calls;
      steady = i.steady;
      holds = λ S steady answers h. c.say_reply.ensures.holds S (i.holds S steady answers h);
    }

pub loop-conn-smaller-then-wants_write : goal.loop-conn-smaller-then-wants_write
loop-conn-smaller-then-wants_write g c =
    let o = shown c.loop-conn.conn in
    let is : o.state ≡ state.Hijacked = sym c.state.ensures ∙ c.in-Hijacked.is in
    let few : o.taken < most_taken = omega (arith, c.taken.ensures, c.if-taken-ge-MOST.false) in
    tail_less o (shown c.say_tail.new.conn) (g.L.Link.seen (link_of c.loop-conn.conn)) (g.L.Link.seen (link_of c.say_tail.new.conn)) is
    (c.wants_write.ensures.bytes.0 c.if-wants_write.true) few c.say_tail.ensures.drives c.say_tail.ensures.said

pub loop-conn-preserved-then-wants_write : goal.loop-conn-preserved-then-wants_write
loop-conn-preserved-then-wants_write g c =
    let i = c.loop-conn.invariant in
    let o = shown c.loop-conn.conn in
    record {
      drives = driven (shown c.args.conn.now) o (shown c.say_tail.new.conn) (g.L.Link.seen (link_of c.args.conn.now)) (g.L.Link.seen (link_of c.loop-conn.conn))
          (g.L.Link.seen (link_of c.say_tail.new.conn)) i.drives c.say_tail.ensures.drives;
      counts = i.counts ∙ sym c.say_tail.ensures.calls;
      steady = i.steady;
      holds = λ S steady answers h. c.say_tail.ensures.holds S (i.holds S steady answers h);
    }

pub feed-next-requires-else-wants_write : goal.feed-next-requires-else-wants_write
feed-next-requires-else-wants_write g c = record {
  reading = inr (
    sym c.state.ensures ∙ c.in-Hijacked.is,
    none_owed (shown c.loop-conn.conn).owed (λ some. let says = c.wants_write.ensures.bytes.1 some in cc (says, c.if-wants_write.false)),
  );
}

pub loop-conn-smaller : goal.loop-conn-smaller
loop-conn-smaller g c =
    let o = shown c.loop-conn.conn in
    let is : o.state ≡ state.Hijacked = sym c.state.ensures ∙ c.in-Hijacked.is in
    let none : o.owed ≡ [] = none_owed o.owed (λ some. let says = c.wants_write.ensures.bytes.1 some in cc (says, c.if-wants_write.false)) in
    let few : o.taken < most_taken = omega (arith, c.taken.ensures, c.if-taken-ge-MOST.false) in
    hear_less 0 c.feed-next-else-wants_write.result (reaching 0 o) (shown c.feed-next-else-wants_write.new.self) (g.L.Link.seen (link_of c.loop-conn.conn))
    (g.L.Link.seen (link_of c.feed-next-else-wants_write.new.self)) is none few (c.requires.patient (link_of c.loop-conn.conn))
    (c.requires.patient (link_of c.feed-next-else-wants_write.new.self)) c.feed-next-else-wants_write.ensures.feeds

pub loop-conn-preserved : goal.loop-conn-preserved
loop-conn-preserved g c =
    let i = c.loop-conn.invariant in
    let o = shown c.loop-conn.conn in
    let n = shown c.feed-next-else-wants_write.new.self in
    let f = c.feed-next-else-wants_write.ensures.feeds in
    let none : o.why ≡ None = unended c.loop-conn.conn state.Hijacked (sym c.state.ensures ∙ c.in-Hijacked.is) (λ e. cc) in
    record {
      drives = feed_driven 0 c.feed-next-else-wants_write.result (shown c.args.conn.now) o n (g.L.Link.seen (link_of c.args.conn.now))
          (g.L.Link.seen (link_of c.loop-conn.conn)) (g.L.Link.seen (link_of c.feed-next-else-wants_write.new.self)) none i.drives f;
      counts = counts_same (g.R.Runner.runs c.loop-conn.runner) o.calls n.calls i.counts f.calls;
      steady = i.steady;
      holds = λ S steady answers h. c.feed-next-else-wants_write.ensures.holds S (i.holds S steady answers h);
    }
