use Rattle.std.proofs.Common.{◌≡◌, ◌+◌, ◌-◌, ◌<◌, ◌≤◌, true, false, arith, refl, inl, inr, None, ◌⊎◌}
use Rattle.rack_outside.proofs.CallerLemmas.{rose_within}
use Rattle.rack_outside.specs.declared.link.LinkWrite.TheVariants as write
use Rattle.conn_steps.specs.declared.budget.SayStep.TheVariants as said
use Rattle.conn_steps.specs.Moves.{flush_at, FlushStops, IsOwing}
use Rattle.conn_steps.specs.Shown.{shows, why_at}
use Rattle.conn_steps.proofs.CallerLemmas.{owes_rightly, saying_owing, unsaying, hearing_owes}
use Rattle.conn_core.proofs.MovesOfCalls.{moving_none, flush_made, flush_moving_step, flush_wants}
use Rattle.conn_core.proofs.FlushLemmas.{flushing_start, flushing_step, flushing_end, falling_start, falling_step, fallen, fallen_over, fallen_step}
use Rattle.conn_steps.proofs.CallerLemmas.{says_ending}
use Rattle.conn_core.proofs.WhyLemmas.{no_why_saying, owing_live}
use Rattle.conn_core.proofs.TurnLemmas.{is_below}
use Rattle.conn_core.proofs.flush.flush.Goals as goal
use Rattle.conn_core.proofs.flush.flush.Goals.{then-writes-eq16-via-then-writes-eq16, then-writes-eq16-via-else-writes-eq16+then-not-is_saying}

pub loop-writes-init : goal.loop-writes-init
loop-writes-init g c =
    let a = c.args.inside.now.at in
    let none : why_at a ≡ None = no_why_saying a c.requires in
    record {
      holds = λ T h. h;
      flushing = flushing_start (shows c.args.inside.now) (g.L.Link.seen c.args.link.now) (saying_owing c.args.inside.now c.requires) none;
      moving = moving_none c.args.now (flush_at (shows c.args.inside.now) (g.L.Link.seen c.args.link.now) 0 false);
      falling = falling_start (shows c.args.inside.now);
    }

pub returns-then-writes-eq16-clause-holds : goal.returns-then-writes-eq16-clause-holds
returns-then-writes-eq16-clause-holds g c = c.loop-writes.invariant.holds

pub returns-then-writes-eq16-clause-flushes : goal.returns-then-writes-eq16-clause-flushes
returns-then-writes-eq16-clause-flushes g c =
    let i = c.loop-writes.invariant in
    let n = c.loop-writes.inside in
    let stopped : ¬ (IsOwing (shows n)) ⊎ (c.loop-writes.writes ≡ 16) =
    elim c.then-writes-eq16.branch [
      | then-writes-eq16-via-then-writes-eq16 w ↦ inr w.if-writes-eq16.true
      | then-writes-eq16-via-else-writes-eq16+then-not-is_saying w ↦ inl (unsaying n w.is_saying.result w.is_saying.ensures w.if-not-is_saying.true)
    ] in
    let stops : FlushStops (flush_at (shows n) (g.L.Link.seen c.loop-writes.link) c.loop-writes.writes false) =
    elim stopped [ inl not ↦ inr (inl not) | inr e ↦ let none : 16 - c.loop-writes.writes ≡ 0 = omega (arith, e) in inr (inr none) ] in
    let made = flush_made c.args.now (shows c.args.inside.now) (shows n) (g.L.Link.seen c.args.link.now) (g.L.Link.seen c.loop-writes.link)
    c.loop-writes.writes false i.moving stops in
    flushing_end n.at (shows c.args.inside.now) (shows n) (g.L.Link.seen c.args.link.now) (g.L.Link.seen c.loop-writes.link)
    c.loop-writes.writes c.is_answering-answering.result i.flushing (fallen (shows c.args.inside.now) (shows n) c.loop-writes.writes i.falling) refl
    (saying_owing c.args.inside.now c.requires) c.is_answering-answering.ensures (saying_owing n) (hearing_owes n) (inr stopped)
    c.args.now c.flushed.result c.flushed.ensures made

pub returns-in-Unwritten-clause-holds : goal.returns-in-Unwritten-clause-holds
returns-in-Unwritten-clause-holds g c = λ T h. c.say.ensures.holds T (c.loop-writes.invariant.holds T h)

pub returns-in-Unwritten-clause-flushes : goal.returns-in-Unwritten-clause-flushes
returns-in-Unwritten-clause-flushes g c =
    let i = c.loop-writes.invariant in
    let o = c.loop-writes.inside in
    let n = c.say.new.self in
    let w = c.loop-writes.writes in
    let saying = c.is_saying.ensures.0 c.if-not-is_saying.false in
    let none : why_at o.at ≡ None = no_why_saying o.at saying in
    let first = saying_owing c.args.inside.now c.requires in
    let same : w + 0 ≡ w = omega arith in
    let says = c.in-Unwritten.ensures.says in
    let flushing = flushing_step said.Unwritten (shows c.args.inside.now) (shows o) (shows n) (g.L.Link.seen c.args.link.now) (g.L.Link.seen c.loop-writes.link)
    (g.L.Link.seen c.say.new.link) w w same i.flushing.few i.flushing says (saying_owing o saying) none
    (is_below n.at n.intake n.unfed n.ring.items n.calls n.ending n.rests)
    (says_ending c.args.now said.Unwritten (shows o) (shows n) (g.L.Link.seen c.loop-writes.link) (g.L.Link.seen c.say.new.link) c.in-Unwritten.ensures.once) in
    let fewer : w < 16 = omega (arith, i.flushing.few, c.if-writes-eq16.false) in
    let over : ¬ (IsOwing (shows n)) = λ owing. owing_live (shows n) owing says.leaves in
    let start = flush_at (shows c.args.inside.now) (g.L.Link.seen c.args.link.now) 0 false in
    let moving = flush_wants c.args.now start (shows o) (shows n) (g.L.Link.seen c.loop-writes.link) (g.L.Link.seen c.say.new.link) w c.in-Unwritten.ensures.once
    fewer (owes_rightly n) i.moving in
    let made = flush_made c.args.now (shows c.args.inside.now) (shows n) (g.L.Link.seen c.args.link.now) (g.L.Link.seen c.say.new.link) w false moving (inr (inl over)) in
    flushing_end n.at (shows c.args.inside.now) (shows n) (g.L.Link.seen c.args.link.now) (g.L.Link.seen c.say.new.link)
    w c.is_answering-answering.result flushing (fallen_over (shows c.args.inside.now) (shows n) w first says.leaves) refl
    first c.is_answering-answering.ensures (saying_owing n) (hearing_owes n) (inr (inl over))
    c.args.now c.flushed-in-Unwritten.result c.flushed-in-Unwritten.ensures made

pub overflow_add-writes : goal.overflow_add-writes
overflow_add-writes g c = omega (arith, c.loop-writes.invariant.flushing.few)

pub loop-writes-smaller : goal.loop-writes-smaller
loop-writes-smaller g c = omega (arith, c.loop-writes.invariant.flushing.few, c.if-writes-eq16.false)

pub loop-writes-preserved : goal.loop-writes-preserved
loop-writes-preserved g c =
    let i = c.loop-writes.invariant in
    let o = c.loop-writes.inside in
    let n = c.say.new.self in
    let w = c.loop-writes.writes in
    let saying = c.is_saying.ensures.0 c.if-not-is_saying.false in
    let none : why_at o.at ≡ None = no_why_saying o.at saying in
    let owing = saying_owing o saying in
    let one : w + 1 ≡ w + 1 = refl in
    let few : w + 1 ≤ 16 = omega (arith, i.flushing.few, c.if-writes-eq16.false) in
    let fewer : w < 16 = omega (arith, i.flushing.few, c.if-writes-eq16.false) in
    let says = c.in-Wrote.ensures.says in
    record {
      holds = λ T h. c.say.ensures.holds T (i.holds T h);
      flushing = flushing_step said.Wrote (shows c.args.inside.now) (shows o) (shows n) (g.L.Link.seen c.args.link.now) (g.L.Link.seen c.loop-writes.link)
          (g.L.Link.seen c.say.new.link) w (w + 1) one few i.flushing says owing none (is_below n.at n.intake n.unfed n.ring.items n.calls n.ending n.rests)
          (says_ending c.args.now said.Wrote (shows o) (shows n) (g.L.Link.seen c.loop-writes.link) (g.L.Link.seen c.say.new.link) c.in-Wrote.ensures.once);
      moving = flush_moving_step c.args.now c.in-Wrote.ensures.once.0 (flush_at (shows c.args.inside.now) (g.L.Link.seen c.args.link.now) 0 false) (shows o) (shows n)
          (g.L.Link.seen c.loop-writes.link) (g.L.Link.seen c.say.new.link) w false c.in-Wrote.ensures.once.1 c.in-Wrote.ensures.once.2 c.in-Wrote.ensures.once.3 owing fewer
          (owes_rightly n) i.moving;
      falling = falling_step (shows c.args.inside.now) (shows o) (shows n) (g.L.Link.seen c.args.link.now) (g.L.Link.seen c.loop-writes.link)
          (g.L.Link.seen c.say.new.link) w i.falling i.flushing says owing;
    }

pub overflow_add-writes-in-Waits : goal.overflow_add-writes-in-Waits
overflow_add-writes-in-Waits g c = omega (arith, c.loop-writes.invariant.flushing.few)

pub returns-in-Waits-clause-holds : goal.returns-in-Waits-clause-holds
returns-in-Waits-clause-holds g c = λ T h. c.say.ensures.holds T (c.loop-writes.invariant.holds T h)

pub returns-in-Waits-clause-flushes : goal.returns-in-Waits-clause-flushes
returns-in-Waits-clause-flushes g c =
    let i = c.loop-writes.invariant in
    let o = c.loop-writes.inside in
    let n = c.say.new.self in
    let w = c.loop-writes.writes in
    let saying = c.is_saying.ensures.0 c.if-not-is_saying.false in
    let none : why_at o.at ≡ None = no_why_saying o.at saying in
    let owing = saying_owing o saying in
    let one : w + 1 ≡ w + 1 = refl in
    let few : w + 1 ≤ 16 = omega (arith, i.flushing.few, c.if-writes-eq16.false) in
    let says = c.in-Waits.ensures.says in
    let flushing = flushing_step said.Waits (shows c.args.inside.now) (shows o) (shows n) (g.L.Link.seen c.args.link.now) (g.L.Link.seen c.loop-writes.link)
    (g.L.Link.seen c.say.new.link) w (w + 1) one few i.flushing says owing none (is_below n.at n.intake n.unfed n.ring.items n.calls n.ending n.rests)
    (says_ending c.args.now said.Waits (shows o) (shows n) (g.L.Link.seen c.loop-writes.link) (g.L.Link.seen c.say.new.link) c.in-Waits.ensures.once) in
    let last : (g.L.Link.seen c.say.new.link).waits ≤ (g.L.Link.seen c.say.new.link).waits = omega arith in
    let rose = rose_within (g.L.Link.seen c.args.link.now).waits (g.L.Link.seen c.loop-writes.link).waits (g.L.Link.seen c.say.new.link).waits
    (g.L.Link.seen c.say.new.link).waits i.flushing.moved.waits says.leaves.1 last in
    let fewer : w < 16 = omega (arith, i.flushing.few, c.if-writes-eq16.false) in
    let start = flush_at (shows c.args.inside.now) (g.L.Link.seen c.args.link.now) 0 false in
    let moving = flush_moving_step c.args.now write.NotYet start (shows o) (shows n) (g.L.Link.seen c.loop-writes.link) (g.L.Link.seen c.say.new.link) w true refl
    c.in-Waits.ensures.once.0 c.in-Waits.ensures.once.1 owing fewer (owes_rightly n) i.moving in
    let made = flush_made c.args.now (shows c.args.inside.now) (shows n) (g.L.Link.seen c.args.link.now) (g.L.Link.seen c.say.new.link) (w + 1) true moving (inl refl) in
    flushing_end n.at (shows c.args.inside.now) (shows n) (g.L.Link.seen c.args.link.now) (g.L.Link.seen c.say.new.link)
    (w + 1) c.is_answering-answering.result flushing
    (fallen_step (shows c.args.inside.now) (shows o) (shows n) (g.L.Link.seen c.loop-writes.link) (g.L.Link.seen c.say.new.link) w i.falling says.leaves)
    refl (saying_owing c.args.inside.now c.requires) c.is_answering-answering.ensures (saying_owing n) (hearing_owes n) (inl rose)
    c.args.now c.flushed-in-Waits.result c.flushed-in-Waits.ensures made
