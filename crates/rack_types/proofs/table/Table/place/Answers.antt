use Rattle.std.proofs.Common.{◌∙◌, arith}
use Rattle.rack_types.proofs.TableLemmas.{absent_take, first_at, first_entry}
use Rattle.rack_types.proofs.table.Table.place.Goals as goal

pub returns-in-Some-2-clause-place : goal.returns-in-Some-2-clause-place
returns-in-Some-2-clause-place c =
    let name = c.args.name.now in
    let new = c.bring.new.self in
    let first = first_entry name c.args.self.now.map.entries c.in-Some-entry_of.i c.in-Some-entry_of.ensures.found.1 in (
      omega arith,
      omega (arith, c.bring.ensures.count, c.bring.ensures.len, c.if-i-self.false, c.in-Some-entry_of.ensures.found.0),
      first_at name new.map.entries new.count first.key first.value c.bring.ensures.unique (c.bring.ensures.brought ∙ first.is) first.same,
    )

pub returns-in-None-clause-absent : goal.returns-in-None-clause-absent
returns-in-None-clause-absent c =
    absent_take c.args.name.now c.args.self.now.map.entries c.args.self.now.count c.in-None.ensures.absent
