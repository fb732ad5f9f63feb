use Rattle.std.proofs.Common.{ap, ◌∙◌, sym, take, ◌-◌}
use Rattle.rack_types.proofs.TableLemmas.{remove_pair-absent, removed}
use Rattle.rack_types.proofs.table.Table.remove.Goals as goal

pub returns-in_default : goal.returns-in_default
returns-in_default c = sym (remove_pair-absent c.args.name.now _ c.in_default.ensures.absent)

pub returns : goal.returns
returns c =
    let t = c.args.self.now in
    ap (take (t.count - 1)) c.shift_remove_index.ensures.entries
    ∙ removed c.args.name.now t.map.entries t.count c.in-Some.i c.in-Some.ensures.found.1 c.in-Some.ensures.found.0
