use Rattle.std.proofs.Common.{sym, ap, ◌∙◌, bytes_eq, arith}
use Rattle.std.proofs.lemmas.Option.{slice_get_within}
use Rattle.rack_types.proofs.TableLemmas.{first_at}
use Rattle.rack_types.proofs.table.Table.next_place.Goals as goal

pub returns-in-Some : goal.returns-in-Some
returns-in-Some c =
    let t = c.args.self.now in
    let at = sym c.in-Some.ensures.entry in
    let same = ap (bytes_eq c.args.name.now) (sym c.get.ensures) ∙ sym c.eq.ensures ∙ c.if-eq.true in
    (omega arith, slice_get_within t.map.entries t.count _ at, first_at c.args.name.now t.map.entries t.count _ _ c.len-entries.ensures.unique at same)
