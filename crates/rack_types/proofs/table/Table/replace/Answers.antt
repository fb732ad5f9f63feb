use Rattle.std.proofs.Common.{◌≡◌, ◌<◌, List, ℕ, ap, ◌∙◌, sym, take, Some, slice_get, arith}
use Rattle.std.specs.Map.{values_of}
use Rattle.std.specs.Option.{option_copied_mut}
use Rattle.indexmap.proofs.CallerLemmas.{index_map_len-with_value_at}
use Rattle.rack_types.specs.Env.{set_pair}
use Rattle.rack_types.specs.Table.{IsFirstAt}
use Rattle.rack_types.proofs.TableLemmas.{entry_at, get_first, set_first}
use Rattle.rack_types.proofs.table.Table.replace.Goals as goal

pub invariant_of-self : goal.invariant_of-self
invariant_of-self c =
    record { within = omega (arith, index_map_len-with_value_at c.args.self.now.map c.unwrap-i.result c.swap.new.x, c.args.self.now.within) }

pub returns-clause-set : goal.returns-clause-set
returns-clause-set c =
    let t = c.args.self.now in
    let found : (c.unwrap-i.result < t.count) × IsFirstAt c.args.name.now t.map.entries c.unwrap-i.result = rw c.unwrap-i.ensures at c.find.ensures.found in
    set_first c.args.name.now t.map.entries t.count c.unwrap-i.result c.swap.new.x found.1 found.0
    ∙ ap (λ (w : List ℕ). set_pair c.args.name.now w (take t.count t.map.entries)) c.swap.ensures.x_after

pub returns-clause-taken : goal.returns-clause-taken
returns-clause-taken c =
    let t = c.args.self.now in
    let es = t.map.entries in
    let i = c.unwrap-i.result in
    let found : (i < t.count) × IsFirstAt c.args.name.now es i = rw c.unwrap-i.ensures at c.find.ensures.found in
    let there : slice_get (values_of es) i ≡ Some c.unwrap-slot.result.now = sym c.get_index_mut.ensures.value ∙ ap option_copied_mut c.unwrap-slot.ensures in
    let at = entry_at es i _ there in
    get_first c.args.name.now es t.count i at.name _ found.1 found.0 at.is ∙ ap (λ (w : List ℕ). Some w) (sym c.swap.ensures.y_after)
