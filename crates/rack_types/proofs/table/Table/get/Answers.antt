use Rattle.std.proofs.Common.{◌≡◌, ap, ◌∙◌, sym, Some, slice_get, List, ℕ}
use Rattle.std.specs.Option.{option_map}
use Rattle.std.specs.Map.Iter.{deref_pair}
use Rattle.rack_types.proofs.TableLemmas.{get_first}
use Rattle.rack_types.proofs.table.Table.get.Goals as goal

pub returns-in-Some : goal.returns-in-Some
returns-in-Some c =
    let t = c.args.self.now in
    let at : slice_get t.map.entries c.in-Some.i ≡ Some (deref_pair c.unwrap.result) = sym c.get_index.ensures.entry ∙ ap (option_map deref_pair) c.unwrap.ensures in
    ap (λ (b : List ℕ). Some b) c.get.ensures ∙ sym (get_first c.args.name.now t.map.entries t.count c.in-Some.i _ _ c.in-Some.ensures.found.1 c.in-Some.ensures.found.0 at)
