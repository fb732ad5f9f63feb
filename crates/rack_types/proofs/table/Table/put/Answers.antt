use Rattle.std.proofs.Common.{ap, ◌∙◌, arith, take}
use Rattle.rack_types.proofs.TableLemmas.{absent_behind, inserted, insert_keeps, insert_there, put_next}
use Rattle.rack_types.proofs.table.Table.put.Goals as goal

pub returns-then-i-self-clause-set : goal.returns-then-i-self-clause-set
returns-then-i-self-clause-set c =
    let t = c.args.self.now in
    ap (take t.count) c.in_ok-i.ensures.entries
    ∙ insert_there t.map.entries t.count c.args.name c.args.value (omega (arith, c.in_ok-i.ensures.index, c.if-i-self.true)) t.within

pub returns-clause-set : goal.returns-clause-set
returns-clause-set c =
    let t = c.args.self.now in
    let new = c.bring.new.self in
    let es = t.map.entries in
    let absent = absent_behind es t.count c.args.name (omega (arith, c.in_ok-i.ensures.index, c.if-i-self.false)) t.within in
    put_next new.map.entries (take t.count es) new.count c.args.name c.args.value
    (c.bring.ensures.same ∙ ap (take t.count) c.in_ok-i.ensures.entries ∙ insert_keeps es t.count c.args.name c.args.value absent t.within)
    (c.bring.ensures.brought ∙ inserted es c.insert_full.new.self.entries c.in_ok-i.i c.args.name c.args.value c.in_ok-i.ensures.entries c.in_ok-i.ensures.index)
    absent
