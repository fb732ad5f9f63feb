use Rattle.std.proofs.Common.{sym, subst}
use Rattle.conn_steps.specs.declared.inside.Inside.{Inside}
use Rattle.conn_steps.specs.At.{IsSaying}
use Rattle.conn_steps.proofs.CallerLemmas.{owed_says, says_owed}
use Rattle.conn_steps.proofs.CallerLemmas.{saying_owing, owing_saying}
use Rattle.conn_core.proofs.conn.Conn.wants_write.Goals as goal

pub returns-clause-bytes : goal.returns-clause-bytes
returns-clause-bytes g c =
    let p = c.args.self.now.inside.value in (
      λ says. owed_says p.at p.intake p.unfed p.ring.items p.calls p.ending p.rests
          (subst (λ (x : Inside g.row.B.Denot g.row.H.Denot g.B.Body). IsSaying x.at) c.deref.ensures (c.is_saying.ensures.0 says)),
      λ some. c.is_saying.ensures.1
          (subst (λ (x : Inside g.row.B.Denot g.row.H.Denot g.B.Body). IsSaying x.at) (sym c.deref.ensures)
          (says_owed p.at p.intake p.unfed p.ring.items p.calls p.ending p.rests some)),
    )

pub returns-clause-state : goal.returns-clause-state
returns-clause-state g c =
    let p = c.args.self.now.inside.value in (
      λ says. saying_owing p
          (subst (λ (x : Inside g.row.B.Denot g.row.H.Denot g.B.Body). IsSaying x.at) c.deref.ensures (c.is_saying.ensures.0 says)),
      λ owing. c.is_saying.ensures.1
          (subst (λ (x : Inside g.row.B.Denot g.row.H.Denot g.B.Body). IsSaying x.at) (sym c.deref.ensures) (owing_saying p owing)),
    )
