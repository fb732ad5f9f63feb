use Rattle.std.proofs.Common.{◌≡◌, true, sym, bytes_eq}
use Rattle.std.proofs.lemmas.Map.Made.{lookup_key_passes}
use Rattle.std.proofs.lemmas.Option.{slice_get_within}
use Rattle.rack_types.proofs.TableLemmas.{first_at}
use Rattle.rack_types.proofs.table.Table.entry_of.Goals as goal

pub returns-in-Some-clause-found : goal.returns-in-Some-clause-found
returns-in-Some-clause-found c =
    let es = c.args.self.now.map.entries in
    let name = c.args.name.now in
    let key = c.in-Some.field-0-1.now in
    let same : bytes_eq name key ≡ true = lookup_key_passes (bytes_eq name) es key (sym c.in-Some.ensures.key) in
    (slice_get_within es c.in-Some.i _ c.in-Some.ensures.entry, first_at name es c.in-Some.i key _ c.len-entries.ensures.unique c.in-Some.ensures.entry same)
