use Rattle.std.proofs.Common.{◌≡◌, ◌+◌, ◌-◌, true, false, arith, refl, None, ◌⊎◌, inl, inr}
use Rattle.rack_outside.specs.declared.link.LinkWrite.TheVariants as write
use Rattle.conn_steps.specs.declared.budget.SayStep.TheVariants as said
use Rattle.conn_steps.specs.Shown.{shows, why_at}
use Rattle.conn_steps.proofs.CallerLemmas.{owes_rightly, saying_owing}
use Rattle.conn_core.proofs.MovesOfCalls.{may_write, want_makes, write_makes, unwritten_stops}
use Rattle.conn_steps.proofs.CallerLemmas.{says_ending}
use Rattle.conn_core.proofs.TurnLemmas.{stays, say_steps, is_below}
use Rattle.conn_core.proofs.WhyLemmas.{no_why_saying}
use Rattle.conn_core.proofs.turn.speak.Goals as goal
use Rattle.conn_core.proofs.turn.speak.Goals.{then-budget-eq0-via-then-budget-eq0, then-budget-eq0-via-else-budget-eq0+then-budget-eq0-2}

pub returns-then-budget-eq0-clause-steps : goal.returns-then-budget-eq0-clause-steps
returns-then-budget-eq0-clause-steps g c = stays (shows c.args.inside.now) (g.L.Link.seen c.args.link.now) c.args.budget.now

pub returns-then-budget-eq0-clause-moves : goal.returns-then-budget-eq0-clause-moves
returns-then-budget-eq0-clause-moves g c =
    let none : (c.args.budget.now.reads ≡ 0) ⊎ (c.args.budget.now.writes ≡ 0) =
    elim c.then-budget-eq0.branch [
      | then-budget-eq0-via-then-budget-eq0 w ↦ inl w.if-budget-eq0.true
      | then-budget-eq0-via-else-budget-eq0+then-budget-eq0-2 w ↦ inr w.if-budget-eq0-2.true
    ] in (
      refl,
      refl,
      refl,
      unwritten_stops (shows c.args.inside.now) (g.L.Link.seen c.args.link.now) c.args.budget.now (saying_owing c.args.inside.now c.requires.says) none,
    )

pub returns-in-Unwritten-clause-steps : goal.returns-in-Unwritten-clause-steps
returns-in-Unwritten-clause-steps g c =
    let n = c.say.new.self in
    let none : why_at c.args.inside.now.at ≡ None = no_why_saying c.args.inside.now.at c.requires.says in
    let same : c.args.budget.now.writes + 0 ≡ c.args.budget.now.writes = omega arith in
    say_steps said.Unwritten (shows c.args.inside.now) (shows n) (g.L.Link.seen c.args.link.now) (g.L.Link.seen c.say.new.link)
    c.args.budget.now c.args.budget.now.writes c.in-Unwritten.ensures.says same none (is_below n.at n.intake n.unfed n.ring.items n.calls n.ending n.rests)
    (says_ending c.args.now said.Unwritten (shows c.args.inside.now) (shows n) (g.L.Link.seen c.args.link.now) (g.L.Link.seen c.say.new.link) c.in-Unwritten.ensures.once)

pub returns-in-Wrote-clause-steps : goal.returns-in-Wrote-clause-steps
returns-in-Wrote-clause-steps g c =
    let n = c.say.new.self in
    let none : why_at c.args.inside.now.at ≡ None = no_why_saying c.args.inside.now.at c.requires.says in
    let fewer : (c.args.budget.now.writes - 1) + 1 ≡ c.args.budget.now.writes = omega (arith, c.if-budget-eq0-2.false) in
    say_steps said.Wrote (shows c.args.inside.now) (shows n) (g.L.Link.seen c.args.link.now) (g.L.Link.seen c.say.new.link)
    c.args.budget.now (c.args.budget.now.writes - 1) c.in-Wrote.ensures.says fewer none (is_below n.at n.intake n.unfed n.ring.items n.calls n.ending n.rests)
    (says_ending c.args.now said.Wrote (shows c.args.inside.now) (shows n) (g.L.Link.seen c.args.link.now) (g.L.Link.seen c.say.new.link) c.in-Wrote.ensures.once)

pub returns-in-Waits-clause-steps : goal.returns-in-Waits-clause-steps
returns-in-Waits-clause-steps g c =
    let n = c.say.new.self in
    let none : why_at c.args.inside.now.at ≡ None = no_why_saying c.args.inside.now.at c.requires.says in
    let fewer : (c.args.budget.now.writes - 1) + 1 ≡ c.args.budget.now.writes = omega (arith, c.if-budget-eq0-2.false) in
    say_steps said.Waits (shows c.args.inside.now) (shows n) (g.L.Link.seen c.args.link.now) (g.L.Link.seen c.say.new.link)
    c.args.budget.now (c.args.budget.now.writes - 1) c.in-Waits.ensures.says fewer none (is_below n.at n.intake n.unfed n.ring.items n.calls n.ending n.rests)
    (says_ending c.args.now said.Waits (shows c.args.inside.now) (shows n) (g.L.Link.seen c.args.link.now) (g.L.Link.seen c.say.new.link) c.in-Waits.ensures.once)

pub returns-in-Unwritten-clause-moves : goal.returns-in-Unwritten-clause-moves
returns-in-Unwritten-clause-moves g c =
    let n = c.say.new.self in
    let may = may_write (shows c.args.inside.now) (g.L.Link.seen c.args.link.now) c.args.budget.now c.if-budget-eq0.false c.if-budget-eq0-2.false in
    want_makes c.args.now (shows c.args.inside.now) (shows n) (g.L.Link.seen c.args.link.now) (g.L.Link.seen c.say.new.link) c.args.budget.now
    c.in-Unwritten.ensures.once may (owes_rightly n)

pub returns-in-Wrote-clause-moves : goal.returns-in-Wrote-clause-moves
returns-in-Wrote-clause-moves g c =
    let n = c.say.new.self in
    let owing = saying_owing c.args.inside.now c.requires.says in
    let may = may_write (shows c.args.inside.now) (g.L.Link.seen c.args.link.now) c.args.budget.now c.if-budget-eq0.false c.if-budget-eq0-2.false in
    let once = c.in-Wrote.ensures.once in
    write_makes c.args.now once.0 (shows c.args.inside.now) (shows n) (g.L.Link.seen c.args.link.now) (g.L.Link.seen c.say.new.link) c.args.budget.now
    false once.1 once.2 once.3 owing may (owes_rightly n)

pub returns-in-Waits-clause-moves : goal.returns-in-Waits-clause-moves
returns-in-Waits-clause-moves g c =
    let n = c.say.new.self in
    let owing = saying_owing c.args.inside.now c.requires.says in
    let may = may_write (shows c.args.inside.now) (g.L.Link.seen c.args.link.now) c.args.budget.now c.if-budget-eq0.false c.if-budget-eq0-2.false in
    write_makes c.args.now write.NotYet (shows c.args.inside.now) (shows n) (g.L.Link.seen c.args.link.now) (g.L.Link.seen c.say.new.link) c.args.budget.now
    true refl c.in-Waits.ensures.once.0 c.in-Waits.ensures.once.1 owing may (owes_rightly n)
