use Rattle.conn_steps.proofs.CallerLemmas.{fresh_stands, fresh_lives}
use Rattle.conn_core.proofs.conn.Conn.open.Goals as goal

pub returns-in-Ok-clause-holds : goal.returns-in-Ok-clause-holds
returns-in-Ok-clause-holds g c = λ S. record {
  lives_are = fresh_lives c.args.peer c.args.local c.args.phase c.args.now c.in-Ok.inside.value c.in-Ok.ensures;
  stands = fresh_stands _ _ (g.L.Link.seen c.args.link) c.args.peer c.args.local c.args.phase c.args.now c.in-Ok.inside.value c.in-Ok.ensures c.requires.fresh;
}
