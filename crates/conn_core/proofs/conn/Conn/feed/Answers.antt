use Rattle.std.proofs.Common.{sym, subst}
use Rattle.conn_steps.specs.declared.inside.Inside.{Inside}
use Rattle.conn_steps.specs.At.{MayRead}
use Rattle.conn_steps.proofs.CallerLemmas.{may_read}
use Rattle.conn_core.proofs.conn.Conn.feed.Goals as goal

pub feed-requires : goal.feed-requires
feed-requires g c =
    subst (λ (x : Inside g.row.B.Denot g.row.H.Denot g.B.Body). MayRead x.at) (sym c.deref_mut-inside.ensures.value)
    (may_read c.args.self.now.inside.value c.requires.reading)
