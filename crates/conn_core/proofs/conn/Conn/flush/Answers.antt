use Rattle.std.proofs.Common.{sym, subst}
use Rattle.conn_steps.specs.declared.inside.Inside.{Inside}
use Rattle.conn_steps.specs.At.{IsSaying}
use Rattle.conn_steps.proofs.CallerLemmas.{owing_saying}
use Rattle.conn_core.proofs.conn.Conn.flush.Goals as goal

pub flush-requires : goal.flush-requires
flush-requires g c =
    subst (λ (x : Inside g.row.B.Denot g.row.H.Denot g.B.Body). IsSaying x.at) (sym c.deref_mut-inside.ensures.value)
    (owing_saying c.args.self.now.inside.value c.requires.owes)
