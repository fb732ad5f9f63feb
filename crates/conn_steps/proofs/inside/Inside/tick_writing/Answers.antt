use Rattle.std.proofs.Common.{refl, sym}
use Rattle.talk_core.specs.declared.ended.Why.TheVariants as why
use Rattle.conn_steps.specs.declared.at.At.TheVariants as at
use Rattle.conn_steps.proofs.TickLemmas.{stalled_holds, ring_owed, some_bytes}
use Rattle.conn_steps.proofs.AtLemmas.{stands_place}
use Rattle.conn_steps.proofs.inside.Inside.tick_writing.Goals as goal

pub returns-then-passed-clause-holds : goal.returns-then-passed-clause-holds
returns-then-passed-clause-holds g c = λ V T s h.
    let p = c.args.self.now in
    stands_place (at.Over (why.Stalled c.stuck-since.result c.args.now)) c.put.new.at V T s p.peer _ (sym c.put.ensures)
    (stalled_holds V T s p _ c.stuck-since.result c.args.now c.requires.live
    (ring_owed p.at p.ring.items c.requires.live (some_bytes p.ring.items c.is_empty.result c.is_empty.ensures c.if-not-is_empty.true))
    (c.passed.ensures.0 c.if-passed.true) refl refl refl h)
