use Rattle.std.proofs.Common.{◌≡◌, List, ℕ, ap, ◌∙◌, sym, take, Some, slice_get, arith}
use Rattle.std.proofs.lemmas.Result.{err_from_is_err_and}
use Rattle.std.specs.Map.{values_of}
use Rattle.std.specs.Option.{option_copied_mut}
use Rattle.indexmap.proofs.CallerLemmas.{index_map_len-with_value_at}
use Rattle.rack_types.specs.Env.{set_pair}
use Rattle.rack_types.proofs.TableLemmas.{entry_at, same_value, stood}
use Rattle.rack_types.proofs.table.Table.write.Goals as goal

pub invariant_of-self : goal.invariant_of-self
invariant_of-self c =
    record { within = omega (arith, index_map_len-with_value_at c.args.self.now.map c.args.i c.fill.new.self, c.args.self.now.within) }

pub returns-in_err-fill-clause-unchanged : goal.returns-in_err-fill-clause-unchanged
returns-in_err-fill-clause-unchanged c =
    let t = c.args.self.now in
    let es = t.map.entries in
    let there : slice_get (values_of es) c.args.i ≡ Some c.unwrap-slot.result.now = sym c.get_index_mut.ensures.value ∙ ap option_copied_mut c.unwrap-slot.ensures in
    let at = entry_at es c.args.i _ there in
    let p = err_from_is_err_and c.from_residual.result c.from_residual.ensures.1 in
    rw p.1 (ap (take t.count) (same_value es c.args.i at.name _ c.fill.new.self at.is c.in_err-fill.ensures.unchanged))

pub stand-requires-clause-within : goal.stand-requires-clause-within
stand-requires-clause-within c =
    omega (arith, index_map_len-with_value_at c.args.self.now.map c.args.i c.fill.new.self, c.requires.within)

pub returns-clause-set : goal.returns-clause-set
returns-clause-set c = λ name first.
    let t = c.args.self.now in
    stood name t.map.entries c.stand.new.self.map.entries t.count c.stand.new.self.count c.args.i c.fill.new.self first c.requires.place c.stand.ensures.count (ap (λ m. m.entries) c.stand.ensures.same)
    ∙ ap (λ (w : List ℕ). set_pair name w (take t.count t.map.entries)) c.in_ok-fill.ensures.filled
