use Rattle.std.proofs.Common.{ap, ◌∙◌, sym, take, slice_get}
use Rattle.rack_types.proofs.TableLemmas.{swap_keeps, swap_brings}
use Rattle.rack_types.proofs.table.Table.bring.Goals as goal

pub returns-then-i-self-clause-brought : goal.returns-then-i-self-clause-brought
returns-then-i-self-clause-brought c =
    ap (λ i. slice_get c.args.self.now.map.entries i) (sym c.if-i-self.true)

pub returns-clause-same : goal.returns-clause-same
returns-clause-same c =
    let t = c.args.self.now in
    ap (take t.count) c.swap_indices.ensures.entries ∙ swap_keeps t.map.entries t.count c.args.i c.requires.behind

pub returns-clause-brought : goal.returns-clause-brought
returns-clause-brought c =
    let t = c.args.self.now in
    ap (λ es. slice_get es t.count) c.swap_indices.ensures.entries ∙ swap_brings t.map.entries t.count c.args.i c.requires.behind c.requires.within
