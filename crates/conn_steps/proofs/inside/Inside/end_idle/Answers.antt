use Rattle.std.proofs.Common.{refl, sym}
use Rattle.talk_core.specs.declared.ended.IdleBy.TheVariants.{Drain}
use Rattle.talk_core.specs.declared.ended.Why.TheVariants as why
use Rattle.conn_steps.specs.declared.at.At.TheVariants as at
use Rattle.conn_steps.proofs.MovesOfSteps.{reading_place}
use Rattle.conn_steps.proofs.AtLemmas.{stands_place}
use Rattle.conn_steps.proofs.TickLemmas.{drain_holds}
use Rattle.conn_steps.proofs.inside.Inside.end_idle.Goals as goal

pub returns-clause-holds : goal.returns-clause-holds
returns-clause-holds g c = λ V T s h.
    let p = c.args.self.now in
    let idle = c.requires.idle in
    stands_place (at.Over (why.Idle (Drain c.args.level))) c.put.new.at V T s p.peer _ (sym c.put.ensures)
    (drain_holds V T s p _ c.args.level (reading_place p.at idle.0) idle.2 c.requires.level idle.1 refl refl refl h)
