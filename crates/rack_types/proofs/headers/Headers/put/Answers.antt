use Rattle.std.proofs.Common.{ap, ◌∙◌, ◌∷◌, map}
use Rattle.std.specs.Cow.{cow_slice_items}
use Rattle.rack_types.specs.HeaderStore.{headers_of}
use Rattle.rack_types.proofs.HeaderLemmas.{set_header-insert_entry, AreDistinctNames-from_keys}
use Rattle.rack_types.proofs.headers.Headers.put.Goals as goal

pub invariant_of-self-2 : goal.invariant_of-self-2
invariant_of-self-2 c = AreDistinctNames-from_keys c.insert.new.self.entries c.insert.ensures.unique

pub returns-clause-set : goal.returns-clause-set
returns-clause-set c =
    let one = ap (λ xs. cow_slice_items c.args.value ∷ map cow_slice_items xs) c.new-more.ensures.items in
    rw (← c.self.view_is) (ap headers_of c.in_ok-insert.ensures.entries ∙ set_header-insert_entry _ _ _ c.self.inside.map.entries one)
