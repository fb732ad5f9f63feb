use Rattle.std.proofs.Common.{◌≡◌, ◌≢◌, ℕ, ◌+◌, ◌-◌, ◌^◌, ◌<◌, min, length, refl, sym, ap, subst, ◌∙◌, None, inl, inr}
use Rattle.rack_outside.specs.declared.link.LinkRead.TheVariants as read
use Rattle.talk_core.specs.Counts.{counted_by}
use Rattle.talk_core.specs.declared.ended.Why.TheVariants as why
use Rattle.talk_core.specs.Tail.{Voice, voice_of}
use Rattle.conn_steps.specs.declared.at.At.{At}
use Rattle.conn_steps.specs.declared.at.At.TheVariants as at
use Rattle.conn_steps.specs.declared.state.State.TheVariants as state
use Rattle.conn_steps.specs.Ends.{TurnEnds, IsOfFeed}
use Rattle.conn_steps.specs.Holds.{kept}
use Rattle.conn_steps.specs.Inner.{IsFed}
use Rattle.conn_steps.specs.At.{state_at}
use Rattle.conn_steps.specs.Moves.{FedTo}
use Rattle.conn_steps.specs.Shown.{shows, replied_at, owed_at, why_at}
use Rattle.conn_steps.specs.Keeps.{Keeps, Read}
use Rattle.conn_steps.proofs.FillShows.{shown_at}
use Rattle.conn_steps.proofs.KeepsLemmas.{fed_keeps, nothing_keeps, end_keeps}
use Rattle.conn_steps.proofs.MovesOfSteps.{fed_to, unowed_fed, held_same, reading_held, reading_ring}
use Rattle.conn_steps.proofs.AtLemmas.{stands_place}
use Rattle.conn_steps.proofs.ReadStands.{took_in, read_end, read_failed}
use Rattle.conn_steps.proofs.ShownLemmas.{counted_sum, moved_by_read, nothing_came, FedShown, fed_shown, read_once}
use Rattle.conn_steps.proofs.inside.Inside.read.Goals as goal

pub returns-in-Bytes-clause-holds : goal.returns-in-Bytes-clause-holds
returns-in-Bytes-clause-holds g c = λ T h.
    let V : Voice g.row.H.Denot = voice_of g.H.Hijack in
    let s = g.L.Link.seen c.args.link.now in
    let s' = g.L.Link.seen c.read-read.new.link in
    stands_place c.feed_held-at.result c.put.new.at V T s' c.args.self.now.peer _ (sym c.put.ensures)
    (took_in V T s s' c.args.self.now.peer (kept c.args.self.now) c.in-Bytes.ensures.keeps c.feed_held-at.result c.read-read.new.self
    c.feed_held-at.new.unfed c.feed_held-at.new.intake c.saturating_add-self.result
    (c.saturating_add-self.ensures ∙ ap (λ (n : ℕ). min (c.args.self.now.taken + n) (2 ^ 64 - 1)) c.in-Bytes.ensures.reads.0) c.in-Bytes.ensures.reads.2 c.in-Bytes.ensures.reads.3 c.feed_held-at.ensures
    (stands_place c.args.self.now.at at.Reading V T s c.args.self.now.peer (kept c.args.self.now) c.requires h))

pub returns-in-Bytes-clause-reads : goal.returns-in-Bytes-clause-reads
returns-in-Bytes-clause-reads g c =
    let s = g.L.Link.seen c.args.link.now in
    let s' = g.L.Link.seen c.read-read.new.link in
    let came = c.read-read.new.self in
    let calls = c.args.self.now.calls in
    let some : 0 < length came = subst (λ (n : ℕ). 0 < n) c.in-Bytes.ensures.reads.0 c.in-Bytes.ensures.reads.1 in
    let taken : c.saturating_add-self.result ≡ counted_by (length came) c.args.self.now.taken =
    c.saturating_add-self.ensures ∙ ap (λ (n : ℕ). min (c.args.self.now.taken + n) (2 ^ 64 - 1)) c.in-Bytes.ensures.reads.0
    ∙ sym (counted_sum (length came) c.args.self.now.taken some) in
    let f : FedShown c.feed_held-at.result calls s s' =
    fed_shown c.feed_held-at.result calls s s' c.args.self.now.intake c.feed_held-at.new.intake came c.feed_held-at.new.unfed
    c.in-Bytes.ensures.reads.3 c.feed_held-at.ensures in
    let place : c.put.new.at ≡ c.feed_held-at.result = c.put.ensures in
    record {
      moved = moved_by_read _ _ s s' came refl refl refl c.in-Bytes.ensures.keeps c.in-Bytes.ensures.reads.2 taken;
      calls = refl;
      replied = ap (λ (a : At g.row.B.Denot g.row.H.Denot). replied_at a calls) place ∙ f.replied
          ∙ sym (ap (λ (a : At g.row.B.Denot g.row.H.Denot). replied_at a calls) c.requires);
      sent = c.in-Bytes.ensures.keeps.sent;
      why = subst (λ (a : At g.row.B.Denot g.row.H.Denot). IsOfFeed (why_at a)) (sym place) f.why;
      ends = subst (λ (a : At g.row.B.Denot g.row.H.Denot). TurnEnds None (why_at a) s s') (sym place) f.ends;
      leaves = (
        c.in-Bytes.ensures.reads.0,
        c.in-Bytes.ensures.reads.1,
        subst (λ (a : At g.row.B.Denot g.row.H.Denot). IsFed (state_at a)) (sym place) f.state,
      );
    }

pub returns-in-NotYet-clause-reads : goal.returns-in-NotYet-clause-reads
returns-in-NotYet-clause-reads g c =
    let s = g.L.Link.seen c.args.link.now in
    let s' = g.L.Link.seen c.read-read.new.link in
    record {
      moved = nothing_came _ _ s s' refl refl refl c.in-NotYet.ensures.keeps c.in-NotYet.ensures.reads.1 refl;
      calls = refl;
      replied = refl;
      sent = c.in-NotYet.ensures.keeps.sent;
      why = subst (λ (a : At g.row.B.Denot g.row.H.Denot). IsOfFeed (why_at a)) (sym c.requires) tt;
      ends = subst (λ (a : At g.row.B.Denot g.row.H.Denot). TurnEnds None (why_at a) s s') (sym c.requires) c.in-NotYet.ensures.reads.2;
      leaves = (refl, ap (λ (a : At g.row.B.Denot g.row.H.Denot). state_at a) c.requires, c.in-NotYet.ensures.reads.3);
    }

pub returns-in-End-clause-holds : goal.returns-in-End-clause-holds
returns-in-End-clause-holds g c = λ T h.
    let V : Voice g.row.H.Denot = voice_of g.H.Hijack in
    let s = g.L.Link.seen c.args.link.now in
    let s' = g.L.Link.seen c.read-read.new.link in
    stands_place (at.Over why.PeerEnd) c.put-in-End.new.at V T s' c.args.self.now.peer _ (sym c.put-in-End.ensures)
    (read_end V T s s' c.args.self.now.peer (kept c.args.self.now) c.in-End.ensures.keeps _ refl refl refl c.in-End.ensures.reads.1 c.in-End.ensures.reads.2
    (stands_place c.args.self.now.at at.Reading V T s c.args.self.now.peer (kept c.args.self.now) c.requires h))

pub returns-in-End-clause-reads : goal.returns-in-End-clause-reads
returns-in-End-clause-reads g c =
    let s = g.L.Link.seen c.args.link.now in
    let s' = g.L.Link.seen c.read-read.new.link in
    let place : c.put-in-End.new.at ≡ at.Over why.PeerEnd = c.put-in-End.ensures in
    record {
      moved = nothing_came _ _ s s' refl refl refl c.in-End.ensures.keeps c.in-End.ensures.reads.1 refl;
      calls = refl;
      replied = ap (λ (a : At g.row.B.Denot g.row.H.Denot). replied_at a c.args.self.now.calls) place
          ∙ sym (ap (λ (a : At g.row.B.Denot g.row.H.Denot). replied_at a c.args.self.now.calls) c.requires);
      sent = c.in-End.ensures.keeps.sent;
      why = subst (λ (a : At g.row.B.Denot g.row.H.Denot). IsOfFeed (why_at a)) (sym place) tt;
      ends = subst (λ (a : At g.row.B.Denot g.row.H.Denot). TurnEnds None (why_at a) s s') (sym place) c.in-End.ensures.reads.2;
      leaves = (refl, ap (λ (a : At g.row.B.Denot g.row.H.Denot). state_at a) place);
    }

pub returns-in-Failed-clause-holds : goal.returns-in-Failed-clause-holds
returns-in-Failed-clause-holds g c = λ T h.
    let V : Voice g.row.H.Denot = voice_of g.H.Hijack in
    let s = g.L.Link.seen c.args.link.now in
    let s' = g.L.Link.seen c.read-read.new.link in
    stands_place (at.Over why.ReadFailed) c.put-in-Failed.new.at V T s' c.args.self.now.peer _ (sym c.put-in-Failed.ensures)
    (read_failed V T s s' c.args.self.now.peer (kept c.args.self.now) c.in-Failed.ensures.keeps _ refl refl refl c.in-Failed.ensures.reads.1
    c.in-Failed.ensures.reads.2 c.in-Failed.ensures.reads.3
    (stands_place c.args.self.now.at at.Reading V T s c.args.self.now.peer (kept c.args.self.now) c.requires h))

pub returns-in-Failed-clause-reads : goal.returns-in-Failed-clause-reads
returns-in-Failed-clause-reads g c =
    let s = g.L.Link.seen c.args.link.now in
    let s' = g.L.Link.seen c.read-read.new.link in
    let place : c.put-in-Failed.new.at ≡ at.Over why.ReadFailed = c.put-in-Failed.ensures in
    record {
      moved = nothing_came _ _ s s' refl refl refl c.in-Failed.ensures.keeps c.in-Failed.ensures.reads.1 refl;
      calls = refl;
      replied = ap (λ (a : At g.row.B.Denot g.row.H.Denot). replied_at a c.args.self.now.calls) place
          ∙ sym (ap (λ (a : At g.row.B.Denot g.row.H.Denot). replied_at a c.args.self.now.calls) c.requires);
      sent = c.in-Failed.ensures.keeps.sent;
      why = subst (λ (a : At g.row.B.Denot g.row.H.Denot). IsOfFeed (why_at a)) (sym place) tt;
      ends = subst (λ (a : At g.row.B.Denot g.row.H.Denot). TurnEnds None (why_at a) s s') (sym place) (c.in-Failed.ensures.reads.2, c.in-Failed.ensures.reads.3);
      leaves = (refl, ap (λ (a : At g.row.B.Denot g.row.H.Denot). state_at a) place);
    }

pub returns-in-Bytes-clause-once : goal.returns-in-Bytes-clause-once
returns-in-Bytes-clause-once g c =
    let p = c.args.self.now in
    let n = c.in-Bytes.n in
    let to : FedTo (state_at c.feed_held-at.result) (why_at c.feed_held-at.result) =
    fed_to c.feed_held-at.result p.intake c.feed_held-at.new.intake c.read-read.new.self c.feed_held-at.new.unfed c.feed_held-at.ensures in
    let place : c.put.new.at ≡ c.feed_held-at.result = c.put.ensures in
    let calls : replied_at c.feed_held-at.result p.calls ≡ p.calls =
    (fed_shown c.feed_held-at.result p.calls (g.L.Link.seen c.args.link.now) (g.L.Link.seen c.read-read.new.link) p.intake c.feed_held-at.new.intake
    c.read-read.new.self c.feed_held-at.new.unfed c.in-Bytes.ensures.reads.3 c.feed_held-at.ensures).replied in
    read_once (read.Bytes n) state.Reading _ _ _ _ c.in-Bytes.ensures.offers c.in-Bytes.ensures.keeps refl refl refl refl
    (ap (λ (a : At g.row.B.Denot g.row.H.Denot). replied_at a p.calls) place ∙ calls
    ∙ sym (ap (λ (a : At g.row.B.Denot g.row.H.Denot). replied_at a p.calls) c.requires))
    (c.saturating_add-self.ensures ∙ sym (counted_sum n p.taken c.in-Bytes.ensures.reads.1))
    (ap (λ (a : At g.row.B.Denot g.row.H.Denot). state_at a) c.requires) (
      subst (λ (a : At g.row.B.Denot g.row.H.Denot). FedTo (state_at a) (why_at a)) (sym place) to,
      ap (λ (a : At g.row.B.Denot g.row.H.Denot). owed_at a p.ring.items) place
          ∙ unowed_fed p.at c.feed_held-at.result p.intake p.unfed p.ring.items p.calls p.ending c.requires p.rests to,
    )

pub returns-in-NotYet-clause-once : goal.returns-in-NotYet-clause-once
returns-in-NotYet-clause-once g c =
    let reading = ap (λ (a : At g.row.B.Denot g.row.H.Denot). state_at a) c.requires in
    read_once read.NotYet state.Reading _ _ _ _ c.in-NotYet.ensures.offers c.in-NotYet.ensures.keeps refl refl refl refl refl refl reading
    (held_same (shows c.args.self.now) c.read-read.new.self
    (c.in-NotYet.ensures.reads.0 ∙ sym (reading_held c.args.self.now c.requires)))

pub returns-in-End-clause-once : goal.returns-in-End-clause-once
returns-in-End-clause-once g c =
    let p = c.args.self.now in
    let place : c.put-in-End.new.at ≡ at.Over why.PeerEnd = c.put-in-End.ensures in
    read_once read.End state.Reading _ _ _ _ c.in-End.ensures.offers c.in-End.ensures.keeps refl refl refl refl
    (ap (λ (a : At g.row.B.Denot g.row.H.Denot). replied_at a p.calls) place
    ∙ sym (ap (λ (a : At g.row.B.Denot g.row.H.Denot). replied_at a p.calls) c.requires))
    refl (ap (λ (a : At g.row.B.Denot g.row.H.Denot). state_at a) c.requires) (
      ap (λ (a : At g.row.B.Denot g.row.H.Denot). state_at a) place,
      ap (λ (a : At g.row.B.Denot g.row.H.Denot). why_at a) place,
    )

pub returns-in-Failed-clause-once : goal.returns-in-Failed-clause-once
returns-in-Failed-clause-once g c =
    let p = c.args.self.now in
    let place : c.put-in-Failed.new.at ≡ at.Over why.ReadFailed = c.put-in-Failed.ensures in
    read_once read.Failed state.Reading _ _ _ _ c.in-Failed.ensures.offers c.in-Failed.ensures.keeps refl refl refl refl
    (ap (λ (a : At g.row.B.Denot g.row.H.Denot). replied_at a p.calls) place
    ∙ sym (ap (λ (a : At g.row.B.Denot g.row.H.Denot). replied_at a p.calls) c.requires))
    refl (ap (λ (a : At g.row.B.Denot g.row.H.Denot). state_at a) c.requires) (
      ap (λ (a : At g.row.B.Denot g.row.H.Denot). state_at a) place,
      ap (λ (a : At g.row.B.Denot g.row.H.Denot). why_at a) place,
    )

pub returns-in-Bytes-clause-keeps : goal.returns-in-Bytes-clause-keeps
returns-in-Bytes-clause-keeps g c =
    let p = c.args.self.now in
    let b = c.feed_held-at.result in
    subst (λ (d : At g.row.B.Denot g.row.H.Denot). Keeps c.args.now (Read (read.Bytes c.in-Bytes.n)) (shows p)
    (shown_at d p.ring.items c.feed_held-at.new.unfed p.peer p.local p.lives.items p.calls c.saturating_add-self.result p.ending
    (record p.moments { begun = c.begins-self.result }))) (sym c.put.ensures)
    (fed_keeps c.args.now p.peer p.local p.lives.items p.calls p.taken p.ending p.moments p.at b p.ring.items p.unfed c.feed_held-at.new.unfed
    c.read-read.new.self c.in-Bytes.n c.saturating_add-self.result p.intake c.feed_held-at.new.intake c.begins-self.result c.feed_held-at.ensures
    c.begins-self.ensures (reading_ring p.at p.intake p.unfed p.ring.items p.calls p.ending c.requires p.rests))

pub returns-in-NotYet-clause-keeps : goal.returns-in-NotYet-clause-keeps
returns-in-NotYet-clause-keeps g c =
    let p = c.args.self.now in
    nothing_keeps c.args.now p.peer p.local p.lives.items p.calls p.taken p.ending p.moments p.at p.ring.items p.unfed c.read-read.new.self
    (reading_ring p.at p.intake p.unfed p.ring.items p.calls p.ending c.requires p.rests)
    (subst (λ (a : At g.row.B.Denot g.row.H.Denot). state_at a ≢ state.Answering) (sym c.requires) (λ e. cc))

pub returns-in-End-clause-keeps : goal.returns-in-End-clause-keeps
returns-in-End-clause-keeps g c =
    let p = c.args.self.now in
    subst (λ (d : At g.row.B.Denot g.row.H.Denot). Keeps c.args.now (Read read.End) (shows p)
    (shown_at d p.ring.items c.read-read.new.self p.peer p.local p.lives.items p.calls p.taken p.ending p.moments)) (sym c.put-in-End.ensures)
    (end_keeps c.args.now p.peer p.local p.lives.items p.calls p.taken p.ending p.moments p.at why.PeerEnd read.End p.ring.items p.ring.items p.unfed
    c.read-read.new.self (inl refl))

pub returns-in-Failed-clause-keeps : goal.returns-in-Failed-clause-keeps
returns-in-Failed-clause-keeps g c =
    let p = c.args.self.now in
    subst (λ (d : At g.row.B.Denot g.row.H.Denot). Keeps c.args.now (Read read.Failed) (shows p)
    (shown_at d p.ring.items c.read-read.new.self p.peer p.local p.lives.items p.calls p.taken p.ending p.moments)) (sym c.put-in-Failed.ensures)
    (end_keeps c.args.now p.peer p.local p.lives.items p.calls p.taken p.ending p.moments p.at why.ReadFailed read.Failed p.ring.items p.ring.items p.unfed
    c.read-read.new.self (inr refl))
