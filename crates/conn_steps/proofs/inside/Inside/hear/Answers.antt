use Rattle.std.proofs.Common.{◌≡◌, refl, sym, subst, ◌∙◌, ℕ, ◌+◌, ◌-◌, ◌^◌, ◌<◌, min, length, ap, inr}
use Rattle.talk_core.specs.declared.ended.Why.TheVariants as why
use Rattle.talk_core.specs.Tail.{Voice, voice_of}
use Rattle.conn_steps.specs.declared.at.At.{At}
use Rattle.conn_steps.specs.declared.at.At.TheVariants as at
use Rattle.conn_steps.specs.Holds.{kept}
use Rattle.conn_steps.specs.Steps.{HandsOn, EndsOn}
use Rattle.conn_steps.specs.Keeps.{Keeps, Read}
use Rattle.conn_steps.proofs.FillShows.{shown_at}
use Rattle.conn_steps.proofs.KeepsLemmas.{filled_is, heard_keeps, ended_keeps, nothing_keeps, end_keeps}
use Rattle.conn_steps.proofs.MovesOfSteps.{held_same}
use Rattle.conn_steps.proofs.HijackStands.{heard_at, end_at, nothing_at, failure_at, hearing_rests}
use Rattle.conn_steps.proofs.AtLemmas.{stands_place}
use Rattle.rack_outside.specs.declared.link.LinkRead.TheVariants as read
use Rattle.talk_core.specs.Counts.{counted_by}
use Rattle.conn_steps.specs.declared.state.State.TheVariants as state
use Rattle.conn_steps.specs.Ends.{IsOfFeed}
use Rattle.conn_steps.specs.At.{state_at}
use Rattle.conn_steps.specs.Shown.{shows, replied_at, why_at}
use Rattle.conn_steps.proofs.ShownLemmas.{counted_sum, moved_by_read, nothing_came, read_once}
use Rattle.conn_steps.proofs.HijackShows.{heard_shown, ended_shown, hears_shown, hears_replied}
use Rattle.conn_steps.proofs.inside.Inside.hear.Goals as goal

pub returns-in-Bytes-clause-holds : goal.returns-in-Bytes-clause-holds
returns-in-Bytes-clause-holds g c = λ T h.
    let V : Voice g.row.H.Denot = voice_of g.H.Hijack in
    let s = g.L.Link.seen c.args.link.now in
    let s' = g.L.Link.seen c.read-read.new.link in
    let p = c.args.self.now in
    let none = hearing_rests p.at p.intake p.unfed p.ring.items p.calls p.ending c.requires p.rests in
    let hands : HandsOn V p.at c.read-read.new.self p.ring.items c.hand_on-at.result c.hand_on-at.new.ring.items c.hand_on-at.new.unfed =
    subst (λ (a : At g.row.B.Denot g.row.H.Denot). HandsOn V a c.read-read.new.self p.ring.items c.hand_on-at.result c.hand_on-at.new.ring.items c.hand_on-at.new.unfed)
    c.replace-at.ensures.value c.hand_on-at.ensures.hands in
    stands_place c.hand_on-at.result c.put.new.at V T s' p.peer _ (sym c.put.ensures)
    (heard_at V T s s' p.peer (kept p) c.in-Bytes.ensures.keeps none.1 p.at c.hand_on-at.result c.read-read.new.self p.ring.items c.hand_on-at.new.ring.items
    c.hand_on-at.new.unfed c.saturating_add-self.result
    (c.saturating_add-self.ensures ∙ ap (λ (n : ℕ). min (p.taken + n) (2 ^ 64 - 1)) c.in-Bytes.ensures.reads.0) c.requires c.in-Bytes.ensures.reads.2 c.in-Bytes.ensures.reads.3 hands h)

pub returns-in-NotYet-clause-holds : goal.returns-in-NotYet-clause-holds
returns-in-NotYet-clause-holds g c = λ T h.
    let V : Voice g.row.H.Denot = voice_of g.H.Hijack in
    let s = g.L.Link.seen c.args.link.now in
    let s' = g.L.Link.seen c.read-read.new.link in
    let p = c.args.self.now in
    let none = hearing_rests p.at p.intake p.unfed p.ring.items p.calls p.ending c.requires p.rests in
    nothing_at V T s s' p.peer (kept p) c.in-NotYet.ensures.keeps none.1 p.at _ c.requires refl (c.in-NotYet.ensures.reads.0 ∙ sym none.0) refl refl refl refl
    c.in-NotYet.ensures.reads.1 c.in-NotYet.ensures.reads.2 h

pub returns-in-End-clause-holds : goal.returns-in-End-clause-holds
returns-in-End-clause-holds g c = λ T h.
    let V : Voice g.row.H.Denot = voice_of g.H.Hijack in
    let s = g.L.Link.seen c.args.link.now in
    let s' = g.L.Link.seen c.read-read.new.link in
    let p = c.args.self.now in
    let none = hearing_rests p.at p.intake p.unfed p.ring.items p.calls p.ending c.requires p.rests in
    let ends : EndsOn V p.at c.end_on-at.result c.end_on-at.new.ring.items =
    subst (λ (a : At g.row.B.Denot g.row.H.Denot). EndsOn V a c.end_on-at.result c.end_on-at.new.ring.items) c.replace-at-in-End.ensures.value c.end_on-at.ensures.ends in
    stands_place c.end_on-at.result c.put-in-End.new.at V T s' p.peer _ (sym c.put-in-End.ensures)
    (end_at V T s s' p.peer (kept p) c.in-End.ensures.keeps none.1 p.at c.end_on-at.result c.end_on-at.new.ring.items
    c.read-read.new.self c.requires c.in-End.ensures.reads.1 c.in-End.ensures.reads.2 ends h)

pub returns-in-Failed-clause-holds : goal.returns-in-Failed-clause-holds
returns-in-Failed-clause-holds g c = λ T h.
    let V : Voice g.row.H.Denot = voice_of g.H.Hijack in
    let s = g.L.Link.seen c.args.link.now in
    let s' = g.L.Link.seen c.read-read.new.link in
    let p = c.args.self.now in
    let none = hearing_rests p.at p.intake p.unfed p.ring.items p.calls p.ending c.requires p.rests in
    stands_place (at.Over why.ReadFailed) c.put-in-Failed.new.at V T s' p.peer _ (sym c.put-in-Failed.ensures)
    (failure_at V T s s' p.peer (kept p) c.in-Failed.ensures.keeps none.1 p.at _ c.requires refl refl refl c.in-Failed.ensures.reads.1 c.in-Failed.ensures.reads.2
    c.in-Failed.ensures.reads.3 h)

pub returns-in-Bytes-clause-reads : goal.returns-in-Bytes-clause-reads
returns-in-Bytes-clause-reads g c =
    let V : Voice g.row.H.Denot = voice_of g.H.Hijack in
    let p = c.args.self.now in
    let came = c.read-read.new.self in
    let ring = c.hand_on-at.new.ring.items in
    let hands : HandsOn V p.at came p.ring.items c.put.new.at ring c.hand_on-at.new.unfed =
    subst (λ (b : At g.row.B.Denot g.row.H.Denot). HandsOn V p.at came p.ring.items b ring c.hand_on-at.new.unfed) (sym c.put.ensures)
    (subst (λ (a : At g.row.B.Denot g.row.H.Denot). HandsOn V a came p.ring.items c.hand_on-at.result ring c.hand_on-at.new.unfed)
    c.replace-at.ensures.value c.hand_on-at.ensures.hands) in
    let heard = heard_shown V p.at c.put.new.at came p.ring.items ring c.hand_on-at.new.unfed p.calls c.requires hands in
    let s = g.L.Link.seen c.args.link.now in
    let s' = g.L.Link.seen c.read-read.new.link in
    let some : 0 < length came = subst (λ (n : ℕ). 0 < n) c.in-Bytes.ensures.reads.0 c.in-Bytes.ensures.reads.1 in
    let taken : c.saturating_add-self.result ≡ counted_by (length came) p.taken =
    c.saturating_add-self.ensures ∙ ap (λ (n : ℕ). min (p.taken + n) (2 ^ 64 - 1)) c.in-Bytes.ensures.reads.0
    ∙ sym (counted_sum (length came) p.taken some) in
    record {
      moved = moved_by_read _ _ s s' came refl refl refl c.in-Bytes.ensures.keeps c.in-Bytes.ensures.reads.2 taken;
      calls = refl;
      replied = heard.replied;
      sent = c.in-Bytes.ensures.keeps.sent;
      why = heard.why;
      leaves = (c.in-Bytes.ensures.reads.0, c.in-Bytes.ensures.reads.1, heard.state);
    }

pub returns-in-Bytes-clause-once : goal.returns-in-Bytes-clause-once
returns-in-Bytes-clause-once g c =
    let V : Voice g.row.H.Denot = voice_of g.H.Hijack in
    let p = c.args.self.now in
    let came = c.read-read.new.self in
    let ring = c.hand_on-at.new.ring.items in
    let hands : HandsOn V p.at came p.ring.items c.put.new.at ring c.hand_on-at.new.unfed =
    subst (λ (b : At g.row.B.Denot g.row.H.Denot). HandsOn V p.at came p.ring.items b ring c.hand_on-at.new.unfed) (sym c.put.ensures)
    (subst (λ (a : At g.row.B.Denot g.row.H.Denot). HandsOn V a came p.ring.items c.hand_on-at.result ring c.hand_on-at.new.unfed)
    c.replace-at.ensures.value c.hand_on-at.ensures.hands) in
    let heard = heard_shown V p.at c.put.new.at came p.ring.items ring c.hand_on-at.new.unfed p.calls c.requires hands in
    let n = c.in-Bytes.n in
    read_once (read.Bytes n) state.Hijacked _ _ _ _ c.in-Bytes.ensures.offers c.in-Bytes.ensures.keeps refl refl refl refl heard.replied
    (c.saturating_add-self.ensures ∙ sym (counted_sum n p.taken c.in-Bytes.ensures.reads.1)) (hears_shown p.at c.requires).0 heard.to

pub returns-in-NotYet-clause-reads : goal.returns-in-NotYet-clause-reads
returns-in-NotYet-clause-reads g c =
    let s = g.L.Link.seen c.args.link.now in
    let s' = g.L.Link.seen c.read-read.new.link in
    let is = hears_shown c.args.self.now.at c.requires in
    record {
      moved = nothing_came _ _ s s' refl refl refl c.in-NotYet.ensures.keeps c.in-NotYet.ensures.reads.1 refl;
      calls = refl;
      replied = refl;
      sent = c.in-NotYet.ensures.keeps.sent;
      why = subst IsOfFeed (sym is.1) tt;
      leaves = (refl, is.0, c.in-NotYet.ensures.reads.3);
    }

pub returns-in-NotYet-clause-once : goal.returns-in-NotYet-clause-once
returns-in-NotYet-clause-once g c =
    let is = hears_shown c.args.self.now.at c.requires in
    read_once read.NotYet state.Hijacked _ _ _ _ c.in-NotYet.ensures.offers c.in-NotYet.ensures.keeps refl refl refl refl refl refl is.0
    (held_same (shows c.args.self.now) c.read-read.new.self (c.in-NotYet.ensures.reads.0
    ∙ sym (hearing_rests c.args.self.now.at c.args.self.now.intake c.args.self.now.unfed c.args.self.now.ring.items c.args.self.now.calls c.args.self.now.ending c.requires c.args.self.now.rests).0))

pub returns-in-End-clause-reads : goal.returns-in-End-clause-reads
returns-in-End-clause-reads g c =
    let V : Voice g.row.H.Denot = voice_of g.H.Hijack in
    let p = c.args.self.now in
    let ring = c.end_on-at.new.ring.items in
    let ends : EndsOn V p.at c.put-in-End.new.at ring =
    subst (λ (b : At g.row.B.Denot g.row.H.Denot). EndsOn V p.at b ring) (sym c.put-in-End.ensures)
    (subst (λ (a : At g.row.B.Denot g.row.H.Denot). EndsOn V a c.end_on-at.result ring) c.replace-at-in-End.ensures.value c.end_on-at.ensures.ends) in
    let ended = ended_shown V p.at c.put-in-End.new.at ring p.calls c.requires ends in
    let s = g.L.Link.seen c.args.link.now in
    let s' = g.L.Link.seen c.read-read.new.link in
    record {
      moved = nothing_came _ _ s s' refl refl refl c.in-End.ensures.keeps c.in-End.ensures.reads.1 refl;
      calls = refl;
      replied = ended.heard.replied;
      sent = c.in-End.ensures.keeps.sent;
      why = ended.heard.why;
      leaves = (refl, ended.heard.state);
    }

pub returns-in-End-clause-once : goal.returns-in-End-clause-once
returns-in-End-clause-once g c =
    let V : Voice g.row.H.Denot = voice_of g.H.Hijack in
    let p = c.args.self.now in
    let ring = c.end_on-at.new.ring.items in
    let ends : EndsOn V p.at c.put-in-End.new.at ring =
    subst (λ (b : At g.row.B.Denot g.row.H.Denot). EndsOn V p.at b ring) (sym c.put-in-End.ensures)
    (subst (λ (a : At g.row.B.Denot g.row.H.Denot). EndsOn V a c.end_on-at.result ring) c.replace-at-in-End.ensures.value c.end_on-at.ensures.ends) in
    let ended = ended_shown V p.at c.put-in-End.new.at ring p.calls c.requires ends in
    read_once read.End state.Hijacked _ _ _ _ c.in-End.ensures.offers c.in-End.ensures.keeps refl refl refl refl ended.heard.replied refl
    (hears_shown p.at c.requires).0 (ended.heard.to, ended.last)

pub returns-in-Failed-clause-reads : goal.returns-in-Failed-clause-reads
returns-in-Failed-clause-reads g c =
    let s = g.L.Link.seen c.args.link.now in
    let s' = g.L.Link.seen c.read-read.new.link in
    let p = c.args.self.now in
    let place : c.put-in-Failed.new.at ≡ at.Over why.ReadFailed = c.put-in-Failed.ensures in
    record {
      moved = nothing_came _ _ s s' refl refl refl c.in-Failed.ensures.keeps c.in-Failed.ensures.reads.1 refl;
      calls = refl;
      replied = ap (λ (a : At g.row.B.Denot g.row.H.Denot). replied_at a p.calls) place ∙ sym (hears_replied p.at p.calls c.requires);
      sent = c.in-Failed.ensures.keeps.sent;
      why = subst (λ (a : At g.row.B.Denot g.row.H.Denot). IsOfFeed (why_at a)) (sym place) tt;
      leaves = (refl, ap (λ (a : At g.row.B.Denot g.row.H.Denot). state_at a) place);
    }

pub returns-in-Failed-clause-once : goal.returns-in-Failed-clause-once
returns-in-Failed-clause-once g c =
    let p = c.args.self.now in
    let place : c.put-in-Failed.new.at ≡ at.Over why.ReadFailed = c.put-in-Failed.ensures in
    read_once read.Failed state.Hijacked _ _ _ _ c.in-Failed.ensures.offers c.in-Failed.ensures.keeps refl refl refl refl
    (ap (λ (a : At g.row.B.Denot g.row.H.Denot). replied_at a p.calls) place ∙ sym (hears_replied p.at p.calls c.requires)) refl
    (hears_shown p.at c.requires).0 (ap (λ (a : At g.row.B.Denot g.row.H.Denot). state_at a) place, ap (λ (a : At g.row.B.Denot g.row.H.Denot). why_at a) place)

pub returns-in-Bytes-clause-keeps : goal.returns-in-Bytes-clause-keeps
returns-in-Bytes-clause-keeps g c =
    let V : Voice g.row.H.Denot = voice_of g.H.Hijack in
    let p = c.args.self.now in
    let ring = c.hand_on-at.new.ring.items in
    let hands : HandsOn V p.at c.read-read.new.self p.ring.items c.put.new.at ring c.hand_on-at.new.unfed =
    subst (λ (b : At g.row.B.Denot g.row.H.Denot). HandsOn V p.at c.read-read.new.self p.ring.items b ring c.hand_on-at.new.unfed) (sym c.put.ensures)
    (subst (λ (a : At g.row.B.Denot g.row.H.Denot). HandsOn V a c.read-read.new.self p.ring.items c.hand_on-at.result ring c.hand_on-at.new.unfed)
    c.replace-at.ensures.value c.hand_on-at.ensures.hands) in
    subst (λ (k : ℕ). Keeps c.args.now (Read (read.Bytes c.in-Bytes.n)) (shows p)
    (shown_at c.put.new.at ring c.hand_on-at.new.unfed p.peer p.local p.lives.items p.calls c.saturating_add-self.result p.ending
    (record p.moments { filled = k })))
    (sym (filled_is c.args.now p.moments.filled c.filled-self.result ring c.is_empty.result c.is_empty.ensures c.filled-self.ensures))
    (heard_keeps c.args.now p.peer p.local p.lives.items p.calls p.taken p.ending p.moments V p.at c.put.new.at p.ring.items ring p.unfed
    c.hand_on-at.new.unfed c.read-read.new.self c.in-Bytes.n c.saturating_add-self.result c.requires hands)

pub returns-in-NotYet-clause-keeps : goal.returns-in-NotYet-clause-keeps
returns-in-NotYet-clause-keeps g c =
    let p = c.args.self.now in
    let is = hears_shown p.at c.requires in
    nothing_keeps c.args.now p.peer p.local p.lives.items p.calls p.taken p.ending p.moments p.at p.ring.items p.unfed c.read-read.new.self
    (hearing_rests p.at p.intake p.unfed p.ring.items p.calls p.ending c.requires p.rests).1
    (λ e. let x : state.Hijacked ≡ state.Answering = sym is.0 ∙ e in cc)

pub returns-in-End-clause-keeps : goal.returns-in-End-clause-keeps
returns-in-End-clause-keeps g c =
    let V : Voice g.row.H.Denot = voice_of g.H.Hijack in
    let p = c.args.self.now in
    let ring = c.end_on-at.new.ring.items in
    let ends : EndsOn V p.at c.put-in-End.new.at ring =
    subst (λ (b : At g.row.B.Denot g.row.H.Denot). EndsOn V p.at b ring) (sym c.put-in-End.ensures)
    (subst (λ (a : At g.row.B.Denot g.row.H.Denot). EndsOn V a c.end_on-at.result ring) c.replace-at-in-End.ensures.value c.end_on-at.ensures.ends) in
    subst (λ (k : ℕ). Keeps c.args.now (Read read.End) (shows p)
    (shown_at c.put-in-End.new.at ring c.read-read.new.self p.peer p.local p.lives.items p.calls p.taken p.ending (record p.moments { filled = k })))
    (sym (filled_is c.args.now p.moments.filled c.filled-self-in-End.result ring c.is_empty-in-End.result c.is_empty-in-End.ensures c.filled-self-in-End.ensures))
    (ended_keeps c.args.now p.peer p.local p.lives.items p.calls p.taken p.ending p.moments V p.at c.put-in-End.new.at p.ring.items ring p.unfed
    c.read-read.new.self c.requires ends)

pub returns-in-Failed-clause-keeps : goal.returns-in-Failed-clause-keeps
returns-in-Failed-clause-keeps g c =
    let p = c.args.self.now in
    subst (λ (d : At g.row.B.Denot g.row.H.Denot). Keeps c.args.now (Read read.Failed) (shows p)
    (shown_at d p.ring.items c.read-read.new.self p.peer p.local p.lives.items p.calls p.taken p.ending p.moments)) (sym c.put-in-Failed.ensures)
    (end_keeps c.args.now p.peer p.local p.lives.items p.calls p.taken p.ending p.moments p.at why.ReadFailed read.Failed p.ring.items p.ring.items p.unfed
    c.read-read.new.self (inr refl))
