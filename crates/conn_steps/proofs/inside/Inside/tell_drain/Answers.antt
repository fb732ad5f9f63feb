use Rattle.std.proofs.Common.{sym, subst}
use Rattle.talk_core.specs.Tail.{Voice, voice_of}
use Rattle.conn_steps.specs.declared.inside.Inside.{Inside}
use Rattle.conn_steps.specs.Holds.{kept, HoldsBy}
use Rattle.conn_steps.proofs.DrainLemmas.{told_holds}
use Rattle.conn_steps.proofs.inside.Inside.tell_drain.Goals as goal
use Rattle.conn_steps.proofs.inside.Inside.tell_drain.Goals.{then-self-gt0, else-self-gt0}

pub returns-clause-holds : goal.returns-clause-holds
returns-clause-holds g c = λ T s h.
    let V : Voice g.row.H.Denot = voice_of g.H.Hijack in
    let p = c.args.self.now in
    let told = told_holds V T s p.peer p.at (kept p) c.args.level c.requires.level h in
    elim c.if-self-gt0.branch [
      | then-self-gt0 w ↦ subst (λ (x : Inside g.row.B.Denot g.row.H.Denot g.B.Body). HoldsBy V T s x) (sym w.self-is) (w.drain.ensures.holds T s told)
      | else-self-gt0 w ↦ subst (λ (x : Inside g.row.B.Denot g.row.H.Denot g.B.Body). HoldsBy V T s x) (sym w.self-is) told
    ]
