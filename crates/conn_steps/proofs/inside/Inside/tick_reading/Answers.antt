use Rattle.std.proofs.Common.{refl, sym}
use Rattle.talk_core.specs.declared.ended.IdleBy.TheVariants.{Clock}
use Rattle.talk_core.specs.declared.ended.Why.TheVariants as why
use Rattle.conn_steps.specs.declared.at.At.TheVariants as at
use Rattle.conn_steps.proofs.TickLemmas.{idle_holds}
use Rattle.conn_steps.proofs.AtLemmas.{stands_place}
use Rattle.conn_steps.proofs.inside.Inside.tick_reading.Goals as goal

pub returns-then-passed-2-clause-holds : goal.returns-then-passed-2-clause-holds
returns-then-passed-2-clause-holds g c = λ V T s h.
    stands_place (at.Over (why.Idle (Clock c.quiet-since.result c.args.now))) c.put-then-passed-2.new.at V T s c.args.self.now.peer _
    (sym c.put-then-passed-2.ensures)
    (idle_holds V T s c.args.self.now _ c.quiet-since.result c.args.now c.requires c.in-None.is (c.passed-in-None.ensures.0 c.if-passed-2.true) refl refl refl h)
