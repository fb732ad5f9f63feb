use Rattle.std.proofs.Common.{◌≡◌, ◌≤◌, ℕ, true, refl, sym, ap, subst, ◌∙◌}
use Rattle.talk_core.specs.declared.ended.IdleBy.TheVariants.{Drain}
use Rattle.talk_core.specs.declared.ended.Why.TheVariants as why
use Rattle.talk_core.specs.Tail.{Voice, voice_of}
use Rattle.conn_steps.specs.declared.at.At.{At}
use Rattle.conn_steps.specs.declared.at.At.TheVariants as at
use Rattle.conn_steps.specs.Holds.{kept}
use Rattle.conn_steps.specs.At.{dismissed_at}
use Rattle.conn_steps.specs.Rests.{RestsAt, Begins}
use Rattle.conn_steps.proofs.MovesOfSteps.{reading_place}
use Rattle.conn_steps.proofs.TickLemmas.{drain_holds}
use Rattle.conn_steps.proofs.DrainLemmas.{left_holds, left_rests, left_begins}
use Rattle.conn_steps.proofs.AtLemmas.{stands_place}
use Rattle.conn_steps.proofs.inside.Inside.drain.Goals as goal

pub returns-then-len-ge-LIVES-clause-holds : goal.returns-then-len-ge-LIVES-clause-holds
returns-then-len-ge-LIVES-clause-holds g c = λ T s h.
    let V : Voice g.row.H.Denot = voice_of g.H.Hijack in
    let p = c.args.self.now in
    stands_place (at.Over (why.Idle (Drain c.args.level))) c.put.new.at V T s p.peer _ (sym c.put.ensures)
    (drain_holds V T s p _ c.args.level (reading_place p.at (sym c.state_at.ensures ∙ c.in-Reading.is))
    c.in-None.is c.requires.level.0 c.requires.read refl refl refl h)

pub invariant_of-self-in-Hijacked : goal.invariant_of-self-in-Hijacked
invariant_of-self-in-Hijacked g c =
    let p = c.args.self.now in
    let unfed = sym c.state_at.ensures ∙ c.in-Hijacked.is in
    let is : c.put-in-Hijacked.new.at ≡ dismissed_at p.at =
    c.put-in-Hijacked.ensures ∙ c.let_leave-at.ensures ∙ ap (λ (a : At g.row.B.Denot g.row.H.Denot). dismissed_at a) c.replace.ensures.value in
    record {
      room = p.room;
      reserved = p.reserved;
      rests = subst (λ (a : At g.row.B.Denot g.row.H.Denot). RestsAt a p.intake p.unfed p.ring.items p.calls (record p.ending { dismissed = true })) (sym is)
          (left_rests p.at p.intake p.unfed p.ring.items p.calls p.ending (record p.ending { dismissed = true }) unfed p.rests);
      begins = subst (λ (a : At g.row.B.Denot g.row.H.Denot). Begins a p.intake p.moments.begun) (sym is) (left_begins p.at p.intake p.moments.begun unfed);
    }

pub returns-in-Hijacked-clause-holds : goal.returns-in-Hijacked-clause-holds
returns-in-Hijacked-clause-holds g c = λ T s h.
    let V : Voice g.row.H.Denot = voice_of g.H.Hijack in
    let p = c.args.self.now in
    let is : c.put-in-Hijacked.new.at ≡ dismissed_at p.at =
    c.put-in-Hijacked.ensures ∙ c.let_leave-at.ensures ∙ ap (λ (a : At g.row.B.Denot g.row.H.Denot). dismissed_at a) c.replace.ensures.value in
    let told = subst (λ (n : ℕ). 1 ≤ n) (sym c.requires.level.1) c.requires.level.0 in
    stands_place (dismissed_at p.at) c.put-in-Hijacked.new.at V T s p.peer _ (sym is) (left_holds V T s p.peer p.at (kept p) told (sym c.state_at.ensures ∙ c.in-Hijacked.is) p.rests h)
