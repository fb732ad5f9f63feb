use Rattle.std.proofs.Common.{arith}
use Rattle.rack_types.proofs.TableLemmas.{absent_before, absent_take}
use Rattle.rack_types.proofs.table.Table.find.Goals as goal

pub returns-in_default-clause-absent : goal.returns-in_default-clause-absent
returns-in_default-clause-absent c =
    let t = c.args.self.now in
    absent_before c.args.name.now t.map.entries t.count c.in-Some.i c.in-Some.ensures.found.1 (omega (arith, c.if-i-self.false))

pub returns-in_default-2-clause-absent : goal.returns-in_default-2-clause-absent
returns-in_default-2-clause-absent c =
    absent_take c.args.name.now c.args.self.now.map.entries c.args.self.now.count c.in_default.ensures.absent
