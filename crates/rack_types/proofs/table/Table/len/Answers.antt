use Rattle.rack_types.proofs.TableLemmas.{AreDistinct-take}
use Rattle.rack_types.proofs.table.Table.len.Goals as goal

pub returns-clause-distinct : goal.returns-clause-distinct
returns-clause-distinct c =
    AreDistinct-take c.args.self.now.map.entries c.args.self.now.count c.len-entries.ensures.unique
