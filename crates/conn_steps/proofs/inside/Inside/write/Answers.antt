use Rattle.std.proofs.Common.{◌≡◌, ◌<◌, ◌≤◌, ℕ, List, [], length, take, refl, sym, ap, subst, ◌∙◌, arith, None, Some}
use Rattle.std.proofs.lemmas.Bool.Decides.{nat_tests}
use Rattle.std.proofs.lemmas.List.{nil_from_length}
use Rattle.rack_outside.specs.declared.link.LinkWrite.TheVariants as write
use Rattle.talk_core.specs.declared.ended.Why.TheVariants as why
use Rattle.talk_core.specs.Tail.{Voice, voice_of}
use Rattle.conn_steps.specs.declared.at.At.{At}
use Rattle.conn_steps.specs.declared.at.At.TheVariants as at
use Rattle.conn_steps.specs.Holds.{kept}
use Rattle.conn_steps.specs.Keeps.{Keeps, Write, ring_room}
use Rattle.conn_steps.specs.At.{state_at}
use Rattle.conn_steps.specs.Rests.{Begins}
use Rattle.conn_steps.specs.Shown.{shows, owed_at, why_at}
use Rattle.conn_steps.specs.Steps.{CompletesTo, BeginsAs}
use Rattle.conn_steps.proofs.FillShows.{shown_at}
use Rattle.conn_steps.proofs.BegunMoment.{begins_as}
use Rattle.conn_steps.proofs.KeepsLemmas.{filled_is, took_keeps, some_keeps, none_keeps, failed_keeps, lacked_keeps}
use Rattle.conn_steps.proofs.ReplySentStands.{completes_hold, completes_rest}
use Rattle.conn_steps.proofs.AtLemmas.{stands_place}
use Rattle.conn_steps.proofs.WriteShows.{moved_by_write, filled_says, filled_ring, filled_owes, SaidShown, said_on, said_over, said_whole, waiting_shown}
use Rattle.conn_steps.proofs.WriteStands.{took, write_failed, write_lacks, with_ring}
use Rattle.conn_steps.proofs.MovesOfSteps.{some_not, fills_front, took_some, took_none, took_all}
use Rattle.conn_steps.proofs.WriteBehindFill.{wrote_once}
use Rattle.conn_steps.proofs.inside.Inside.write.Goals as goal

pub returns-then-is_empty-clause-holds : goal.returns-then-is_empty-clause-holds
returns-then-is_empty-clause-holds g c = λ T h.
    let V : Voice g.row.H.Denot = voice_of g.H.Hijack in
    let s = g.L.Link.seen c.args.link.now in
    let s' = g.L.Link.seen c.send.new.link in
    let p = c.args.self.now in
    let none : c.send.new.ring.items ≡ [] =
    nil_from_length c.send.new.ring.items (grind (arith, nat_tests, c.is_empty.ensures, c.if-is_empty.true)) in
    let completes : CompletesTo p.ending.late V p.at p.intake p.unfed c.complete-at.result c.complete-at.new.intake c.complete-at.new.unfed c.complete-at.new.ring.items =
    c.complete-at.ensures.completes in
    stands_place c.complete-at.result c.put.new.at V T s' p.peer _ (sym c.put.ensures)
    (completes_hold V T s' p.peer (with_ring (kept p) c.send.new.ring.items) c.complete-at.new.intake c.complete-at.new.unfed p.ring.items
    c.complete-at.new.ring.items p.at c.complete-at.result none completes c.requires p.rests
    (took p.at V T s s' p.peer (kept p) (filled_says p.at p.ring.items c.requires) c.in-Took.ensures.keeps c.in-Took.ensures.sends.0
    c.send.new.ring.items c.in-Took.ensures.sends.1 c.in-Took.ensures.sends.3 h))

pub returns-then-is_empty-clause-says : goal.returns-then-is_empty-clause-says
returns-then-is_empty-clause-says g c =
    let V : Voice g.row.H.Denot = voice_of g.H.Hijack in
    let s = g.L.Link.seen c.args.link.now in
    let s' = g.L.Link.seen c.send.new.link in
    let p = c.args.self.now in
    let none : c.send.new.ring.items ≡ [] =
    nil_from_length c.send.new.ring.items (grind (arith, nat_tests, c.is_empty.ensures, c.if-is_empty.true)) in
    let left = c.complete-at.new.unfed in
    let ring = c.complete-at.new.ring.items in
    let completes : CompletesTo p.ending.late V p.at p.intake p.unfed c.put.new.at c.complete-at.new.intake left ring =
    subst (λ (b : At g.row.B.Denot g.row.H.Denot). CompletesTo p.ending.late V p.at p.intake p.unfed b c.complete-at.new.intake left ring) (sym c.put.ensures)
    c.complete-at.ensures.completes in
    let shown : SaidShown p.ending.late p.at c.put.new.at p.ring.items ring p.calls s s' =
    said_whole p.ending.late V p.at c.put.new.at p.ring.items ring p.calls s s' p.intake c.complete-at.new.intake p.unfed left p.ending completes c.requires p.rests
    c.in-Took.ensures.keeps.over in
    record {
      moved = moved_by_write _ _ s s' refl refl refl c.in-Took.ensures.keeps refl;
      came = refl;
      given = c.in-Took.ensures.keeps.given;
      calls = refl;
      replied = shown.replied;
      why = shown.why;
      ends = shown.ends;
      leaves = shown.less;
    }

pub returns-else-is_empty-clause-holds : goal.returns-else-is_empty-clause-holds
returns-else-is_empty-clause-holds g c = λ T h.
    let V : Voice g.row.H.Denot = voice_of g.H.Hijack in
    let s = g.L.Link.seen c.args.link.now in
    let s' = g.L.Link.seen c.send.new.link in
    let p = c.args.self.now in
    took p.at V T s s' p.peer (kept p) (filled_says p.at p.ring.items c.requires) c.in-Took.ensures.keeps c.in-Took.ensures.sends.0
    c.send.new.ring.items c.in-Took.ensures.sends.1 c.in-Took.ensures.sends.3 h

pub returns-else-is_empty-clause-says : goal.returns-else-is_empty-clause-says
returns-else-is_empty-clause-says g c =
    let s = g.L.Link.seen c.args.link.now in
    let s' = g.L.Link.seen c.send.new.link in
    let p = c.args.self.now in
    let shown : SaidShown p.ending.late p.at p.at p.ring.items c.send.new.ring.items p.calls s s' =
    said_on p.ending.late p.at p.ring.items c.in-Took.ensures.sends.0 c.send.new.ring.items p.calls s s' c.requires c.in-Took.ensures.sends.1
    c.in-Took.ensures.sends.2 c.in-Took.ensures.keeps.over in
    record {
      moved = moved_by_write _ _ s s' refl refl refl c.in-Took.ensures.keeps refl;
      came = refl;
      given = c.in-Took.ensures.keeps.given;
      calls = refl;
      replied = shown.replied;
      why = shown.why;
      ends = shown.ends;
      leaves = shown.less;
    }

pub returns-in-NotYet-clause-says : goal.returns-in-NotYet-clause-says
returns-in-NotYet-clause-says g c =
    let s = g.L.Link.seen c.args.link.now in
    let s' = g.L.Link.seen c.send.new.link in
    let p = c.args.self.now in
    let shown = waiting_shown p.ending.late p.at p.ring.items p.calls s s' c.requires c.in-NotYet.ensures.keeps.over in
    let owed : length (owed_at p.at c.send.new.ring.items) ≤ length (owed_at p.at p.ring.items) =
    subst (λ (x : List ℕ). length (owed_at p.at x) ≤ length (owed_at p.at p.ring.items)) (sym c.in-NotYet.ensures.sends.0) (omega arith) in
    let some : 0 < length c.send.new.ring.items =
    subst (λ (x : List ℕ). 0 < length x) (sym c.in-NotYet.ensures.sends.0) (filled_ring p.at p.ring.items c.requires) in
    record {
      moved = moved_by_write _ _ s s' refl refl refl c.in-NotYet.ensures.keeps refl;
      came = refl;
      given = c.in-NotYet.ensures.keeps.given;
      calls = refl;
      replied = shown.0;
      why = shown.1;
      ends = shown.2;
      leaves = (
        refl,
        c.in-NotYet.ensures.sends.2,
        owed,
        some_not (owed_at p.at c.send.new.ring.items) (filled_owes p.at p.ring.items c.send.new.ring.items c.requires some),
      );
    }

pub returns-in-Failed-clause-holds : goal.returns-in-Failed-clause-holds
returns-in-Failed-clause-holds g c = λ T h.
    let V : Voice g.row.H.Denot = voice_of g.H.Hijack in
    let s = g.L.Link.seen c.args.link.now in
    let s' = g.L.Link.seen c.send.new.link in
    let p = c.args.self.now in
    stands_place (at.Over why.WriteFailed) c.put-in-Failed.new.at V T s' p.peer _ (sym c.put-in-Failed.ensures)
    (write_failed p.at V T s s' p.peer (kept p) (filled_says p.at p.ring.items c.requires) c.in-Failed.ensures.keeps _ refl refl refl
    (filled_ring p.at p.ring.items c.requires) c.in-Failed.ensures.sends.1 c.in-Failed.ensures.sends.2 h)

pub returns-in-Failed-clause-says : goal.returns-in-Failed-clause-says
returns-in-Failed-clause-says g c =
    let s = g.L.Link.seen c.args.link.now in
    let s' = g.L.Link.seen c.send.new.link in
    let p = c.args.self.now in
    let shown : SaidShown p.ending.late p.at c.put-in-Failed.new.at p.ring.items c.send.new.ring.items p.calls s s' =
    subst (λ (b : At g.row.B.Denot g.row.H.Denot). SaidShown p.ending.late p.at b p.ring.items c.send.new.ring.items p.calls s s') (sym c.put-in-Failed.ensures)
    (said_over p.ending.late p.at why.WriteFailed p.ring.items c.send.new.ring.items p.calls s s' c.requires tt
    (c.in-Failed.ensures.keeps.over, c.in-Failed.ensures.sends.2)) in
    record {
      moved = moved_by_write _ _ s s' refl refl refl c.in-Failed.ensures.keeps refl;
      came = refl;
      given = c.in-Failed.ensures.keeps.given;
      calls = refl;
      replied = shown.replied;
      why = shown.why;
      ends = shown.ends;
      leaves = shown.less;
    }

pub returns-in-NoMemory-clause-says : goal.returns-in-NoMemory-clause-says
returns-in-NoMemory-clause-says g c =
    let s = g.L.Link.seen c.args.link.now in
    let s' = g.L.Link.seen c.send.new.link in
    let p = c.args.self.now in
    let shown : SaidShown p.ending.late p.at c.put-in-NoMemory.new.at p.ring.items c.send.new.ring.items p.calls s s' =
    subst (λ (b : At g.row.B.Denot g.row.H.Denot). SaidShown p.ending.late p.at b p.ring.items c.send.new.ring.items p.calls s s') (sym c.put-in-NoMemory.ensures)
    (said_over p.ending.late p.at why.NoMemory p.ring.items c.send.new.ring.items p.calls s s' c.requires tt c.in-NoMemory.ensures.keeps.over) in
    record {
      moved = moved_by_write _ _ s s' refl refl refl c.in-NoMemory.ensures.keeps refl;
      came = refl;
      given = c.in-NoMemory.ensures.keeps.given;
      calls = refl;
      replied = shown.replied;
      why = shown.why;
      ends = shown.ends;
      leaves = shown.less;
    }

pub returns-then-is_empty-clause-once : goal.returns-then-is_empty-clause-once
returns-then-is_empty-clause-once g c =
    let V : Voice g.row.H.Denot = voice_of g.H.Hijack in
    let s = g.L.Link.seen c.args.link.now in
    let s' = g.L.Link.seen c.send.new.link in
    let p = c.args.self.now in
    let e = c.in-Took.ensures in
    let few : length p.ring.items ≤ ring_room = omega (arith, e.within, p.room) in
    let front : p.ring.items ≡ take ring_room (owed_at p.at p.ring.items) = fills_front p.at p.ring.items c.requires few in
    let n = c.in-Took.field-0 in
    let none : c.send.new.ring.items ≡ [] =
    nil_from_length c.send.new.ring.items (grind (arith, nat_tests, c.is_empty.ensures, c.if-is_empty.true)) in
    let left = c.complete-at.new.unfed in
    let ring = c.complete-at.new.ring.items in
    let completes : CompletesTo p.ending.late V p.at p.intake p.unfed c.put.new.at c.complete-at.new.intake left ring =
    subst (λ (b : At g.row.B.Denot g.row.H.Denot). CompletesTo p.ending.late V p.at p.intake p.unfed b c.complete-at.new.intake left ring) (sym c.put.ensures)
    c.complete-at.ensures.completes in (
      write.Took n,
      refl,
      wrote_once (write.Took n) _ _ s s' p.ring.items front e.writes e.keeps e.ahead (record { peer = refl; local = refl; lives = refl; taken = refl })
          refl
          (took_all p.peer p.local p.lives.items p.calls p.taken p.ending p.moments _ V p.at c.put.new.at p.ring.items ring p.unfed left n p.intake c.complete-at.new.intake
          completes c.requires p.rests (sym none ∙ e.off) e.writes.1),
      subst (λ (k : ℕ). Keeps c.args.now (Write (write.Took n)) (shows p)
          (shown_at c.put.new.at ring left p.peer p.local p.lives.items p.calls p.taken p.ending
          (record p.moments { took = Some c.args.now; begun = c.begins-self.result; filled = k })))
          (sym (filled_is c.args.now p.moments.filled c.filled-self.result ring c.is_empty-then-is_empty.result c.is_empty-then-is_empty.ensures c.filled-self.ensures))
          (took_keeps c.args.now p.peer p.local p.lives.items p.calls p.taken p.ending p.moments V p.at c.put.new.at p.ring.items ring p.unfed left n
          p.intake c.complete-at.new.intake c.begins-self.result completes
          (subst (λ (b : At g.row.B.Denot g.row.H.Denot). BeginsAs b c.complete-at.new.intake c.args.now None c.begins-self.result) (sym c.put.ensures)
          c.begins-self.ensures) c.requires few (sym none ∙ e.off) e.writes.1),
    )

pub returns-else-is_empty-clause-once : goal.returns-else-is_empty-clause-once
returns-else-is_empty-clause-once g c =
    let s = g.L.Link.seen c.args.link.now in
    let s' = g.L.Link.seen c.send.new.link in
    let p = c.args.self.now in
    let e = c.in-Took.ensures in
    let few : length p.ring.items ≤ ring_room = omega (arith, e.within, p.room) in
    let front : p.ring.items ≡ take ring_room (owed_at p.at p.ring.items) = fills_front p.at p.ring.items c.requires few in
    let some : 0 < length c.send.new.ring.items = grind (arith, nat_tests, c.is_empty.ensures, c.if-is_empty.false) in
    let n = c.in-Took.field-0 in (
      write.Took n,
      refl,
      wrote_once (write.Took n) _ _ s s' p.ring.items front e.writes e.keeps e.ahead (record { peer = refl; local = refl; lives = refl; taken = refl })
          refl
          (took_some p.peer p.local p.lives.items p.calls p.taken p.ending p.moments _ p.at p.ring.items c.send.new.ring.items p.unfed n c.requires e.off e.writes.1 some),
      some_keeps c.args.now p.peer p.local p.lives.items p.calls p.taken p.ending p.moments p.at p.ring.items c.send.new.ring.items p.unfed n c.requires few
          e.off e.writes.1 some,
    )

pub returns-in-NotYet-clause-once : goal.returns-in-NotYet-clause-once
returns-in-NotYet-clause-once g c =
    let s = g.L.Link.seen c.args.link.now in
    let s' = g.L.Link.seen c.send.new.link in
    let p = c.args.self.now in
    let e = c.in-NotYet.ensures in
    let few : length p.ring.items ≤ ring_room = omega (arith, e.within, p.room) in
    let front : p.ring.items ≡ take ring_room (owed_at p.at p.ring.items) = fills_front p.at p.ring.items c.requires few in (
      wrote_once write.NotYet _ _ s s' p.ring.items front e.writes e.keeps e.ahead (record { peer = refl; local = refl; lives = refl; taken = refl })
          refl (took_none p.peer p.local p.lives.items p.calls p.taken p.ending p.moments _ p.at p.ring.items c.send.new.ring.items p.unfed c.requires e.off),
      none_keeps c.args.now p.peer p.local p.lives.items p.calls p.taken p.ending p.moments p.at p.ring.items c.send.new.ring.items p.unfed c.requires few
          e.off,
    )

pub returns-in-Failed-clause-once : goal.returns-in-Failed-clause-once
returns-in-Failed-clause-once g c =
    let s = g.L.Link.seen c.args.link.now in
    let s' = g.L.Link.seen c.send.new.link in
    let p = c.args.self.now in
    let e = c.in-Failed.ensures in
    let few : length p.ring.items ≤ ring_room = omega (arith, e.within, p.room) in
    let front : p.ring.items ≡ take ring_room (owed_at p.at p.ring.items) = fills_front p.at p.ring.items c.requires few in
    let place : c.put-in-Failed.new.at ≡ at.Over why.WriteFailed = c.put-in-Failed.ensures in (
      write.Failed,
      refl,
      wrote_once write.Failed _ _ s s' p.ring.items front e.writes e.keeps e.ahead (record { peer = refl; local = refl; lives = refl; taken = refl })
          refl (
            ap (λ (a : At g.row.B.Denot g.row.H.Denot). state_at a) place,
            ap (λ (a : At g.row.B.Denot g.row.H.Denot). why_at a) place,
          ),
      subst (λ (d : At g.row.B.Denot g.row.H.Denot). Keeps c.args.now (Write write.Failed) (shows p)
          (shown_at d c.send.new.ring.items p.unfed p.peer p.local p.lives.items p.calls p.taken p.ending p.moments)) (sym place)
          (failed_keeps c.args.now p.peer p.local p.lives.items p.calls p.taken p.ending p.moments p.at why.WriteFailed p.ring.items c.send.new.ring.items p.unfed p.unfed),
    )

pub returns-in-NoMemory-clause-once : goal.returns-in-NoMemory-clause-once
returns-in-NoMemory-clause-once g c =
    let s = g.L.Link.seen c.args.link.now in
    let s' = g.L.Link.seen c.send.new.link in
    let p = c.args.self.now in
    let e = c.in-NoMemory.ensures in
    let few : length p.ring.items ≤ ring_room = omega (arith, e.within, p.room) in
    let front : p.ring.items ≡ take ring_room (owed_at p.at p.ring.items) = fills_front p.at p.ring.items c.requires few in
    let place : c.put-in-NoMemory.new.at ≡ at.Over why.NoMemory = c.put-in-NoMemory.ensures in (
      write.NoMemory,
      refl,
      wrote_once write.NoMemory _ _ s s' p.ring.items front e.writes e.keeps e.ahead (record { peer = refl; local = refl; lives = refl; taken = refl })
          refl (
            ap (λ (a : At g.row.B.Denot g.row.H.Denot). state_at a) place,
            ap (λ (a : At g.row.B.Denot g.row.H.Denot). why_at a) place,
          ),
      subst (λ (d : At g.row.B.Denot g.row.H.Denot). Keeps c.args.now (Write write.NoMemory) (shows p)
          (shown_at d c.send.new.ring.items p.unfed p.peer p.local p.lives.items p.calls p.taken p.ending p.moments)) (sym place)
          (lacked_keeps c.args.now p.peer p.local p.lives.items p.calls p.taken p.ending p.moments p.at why.NoMemory p.ring.items c.send.new.ring.items p.unfed p.unfed),
    )

pub invariant_of-self : goal.invariant_of-self
invariant_of-self g c =
    let V : Voice g.row.H.Denot = voice_of g.H.Hijack in
    let p = c.args.self.now in
    let left = c.complete-at.new.unfed in
    let ring = c.complete-at.new.ring.items in
    let completes : CompletesTo p.ending.late V p.at p.intake p.unfed c.put.new.at c.complete-at.new.intake left ring =
    subst (λ (b : At g.row.B.Denot g.row.H.Denot). CompletesTo p.ending.late V p.at p.intake p.unfed b c.complete-at.new.intake left ring) (sym c.put.ensures)
    c.complete-at.ensures.completes in
    record {
      reserved = c.args.self.now.reserved;
      room = c.complete-at.ensures.room ∙ c.send.ensures.room ∙ p.room;
      rests = completes_rest V p.at c.put.new.at p.intake c.complete-at.new.intake p.unfed left p.ring.items ring p.calls p.ending completes c.requires p.rests;
      begins = subst (λ (a : At g.row.B.Denot g.row.H.Denot). Begins a c.complete-at.new.intake c.begins-self.result) (sym c.put.ensures)
          (begins_as c.complete-at.result c.complete-at.new.intake c.args.now None c.begins-self.result c.begins-self.ensures);
    }

pub returns-in-NoMemory-clause-holds : goal.returns-in-NoMemory-clause-holds
returns-in-NoMemory-clause-holds g c = λ T h.
    let V : Voice g.row.H.Denot = voice_of g.H.Hijack in
    let s = g.L.Link.seen c.args.link.now in
    let s' = g.L.Link.seen c.send.new.link in
    let p = c.args.self.now in
    stands_place (at.Over why.NoMemory) c.put-in-NoMemory.new.at V T s' p.peer _ (sym c.put-in-NoMemory.ensures)
    (write_lacks p.at V T s s' p.peer (kept p) (filled_says p.at p.ring.items c.requires) c.in-NoMemory.ensures.keeps _ refl refl refl
    c.in-NoMemory.ensures.sends.1 h)
