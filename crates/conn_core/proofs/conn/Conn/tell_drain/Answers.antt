use Rattle.std.proofs.Common.{sym, subst}
use Rattle.talk_core.specs.Tail.{voice_of}
use Rattle.conn_steps.specs.Shown.{Shown, shows}
use Rattle.conn_steps.proofs.CallerLemmas.{SameParts, drained_parts, parts_hold}
use Rattle.conn_core.proofs.conn.Conn.tell_drain.Goals as goal

pub returns-clause-holds : goal.returns-clause-holds
returns-clause-holds g c = λ S h.
    let mid = c.deref_mut-inside.result.now in
    let same = subst (λ (n : Shown). SameParts (shows mid) n) (sym c.tell_drain.ensures.leaves) (drained_parts c.args.level (shows mid)) in
    let s = g.L.Link.seen c.args.self.now.link in
    let both = parts_hold (voice_of g.H.Hijack) S c.args.self.now.inside.value mid c.tell_drain.new.self s
    c.deref_mut-inside.ensures.value same (λ T x. c.tell_drain.ensures.holds T s x) h.lives_are h.stands in
    record { lives_are = both.0; stands = both.1 }
