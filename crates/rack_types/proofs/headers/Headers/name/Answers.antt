use Rattle.std.proofs.Common.{◌≡◌, ap, ◌∙◌, sym, Some, slice_get, option_map}
use Rattle.std.specs.Map.Iter.{deref_pair}
use Rattle.rack_types.proofs.HeaderLemmas.{header_name_at}
use Rattle.rack_types.proofs.headers.Headers.name.Goals as goal

pub returns : goal.returns
returns c =
    let at : slice_get c.self.inside.map.entries c.args.i ≡ Some (deref_pair c.unwrap.result) = sym c.get_index.ensures.entry ∙ ap (option_map deref_pair) c.unwrap.ensures in
    rw (← c.self.view_is, c.as_slice.ensures.value) (header_name_at c.self.inside.map.entries c.args.i _ _ at)
