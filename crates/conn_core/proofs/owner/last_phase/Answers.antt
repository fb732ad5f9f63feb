use Rattle.conn_steps.proofs.CallerLemmas.{last_is}
use Rattle.conn_core.proofs.owner.last_phase.Goals as goal

pub returns-else-count-eq0 : goal.returns-else-count-eq0
returns-else-count-eq0 c = last_is c.args.lives.now (record { first = 0; phase = 0 }) c.if-count-eq0.false
