use Rattle.std.proofs.Common.{refl, sym}
use Rattle.conn_steps.specs.declared.at.At.TheVariants as at
use Rattle.conn_steps.proofs.ConnLemmas.{ends_any}
use Rattle.conn_steps.proofs.AtLemmas.{stands_place}
use Rattle.conn_steps.proofs.inside.Inside.end.Goals as goal

pub returns-clause-holds : goal.returns-clause-holds
returns-clause-holds g c = λ V T s h.
    stands_place (at.Over c.args.why) c.put.new.at V T s c.args.self.now.peer _ (sym c.put.ensures)
    (ends_any V T s c.args.self.now _ c.args.why c.requires.live c.requires.any refl refl refl h)
