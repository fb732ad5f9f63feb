use Rattle.std.proofs.Common.{◌≡◌, ◌++◌, ap, ◌∙◌, sym, is_some, take, Some, slice_get, arith}
use Rattle.std.proofs.lemmas.Result.{err_from_is_err_and}
use Rattle.std.specs.Map.{values_of}
use Rattle.std.specs.Option.{option_copied_mut}
use Rattle.indexmap.proofs.CallerLemmas.{index_map_len-with_value_at}
use Rattle.rack_types.proofs.TableLemmas.{entry_at, extend_first, extend_pair-absent, get_first, same_value}
use Rattle.rack_types.proofs.table.Table.append.Goals as goal

pub returns-in_default-clause-longer : goal.returns-in_default-clause-longer
returns-in_default-clause-longer c =
    sym (extend_pair-absent c.args.name.now (c.args.separator.now ++ c.args.more.now) _ c.in_default.ensures.absent)

pub invariant_of-self : goal.invariant_of-self
invariant_of-self c =
    record { within = omega (arith, index_map_len-with_value_at c.args.self.now.map c.in-Some.i c.join.new.self, c.args.self.now.within) }

pub returns-in_err-join-clause-unchanged : goal.returns-in_err-join-clause-unchanged
returns-in_err-join-clause-unchanged c =
    let t = c.args.self.now in
    let there : slice_get (values_of t.map.entries) c.in-Some.i ≡ Some c.unwrap-value.result.now = sym c.get_index_mut.ensures.value ∙ ap option_copied_mut c.unwrap-value.ensures in
    let at = entry_at t.map.entries c.in-Some.i _ there in
    let p = err_from_is_err_and c.from_residual.result c.from_residual.ensures.1 in
    rw p.1 (ap (take t.count) (same_value t.map.entries c.in-Some.i at.name _ c.join.new.self at.is c.in_err-join.ensures.unchanged))

pub returns-clause-found : goal.returns-clause-found
returns-clause-found c =
    let t = c.args.self.now in
    let there : slice_get (values_of t.map.entries) c.in-Some.i ≡ Some c.unwrap-value.result.now = sym c.get_index_mut.ensures.value ∙ ap option_copied_mut c.unwrap-value.ensures in
    let at = entry_at t.map.entries c.in-Some.i _ there in
    sym (ap is_some (get_first c.args.name.now t.map.entries t.count c.in-Some.i at.name _ c.in-Some.ensures.found.1 c.in-Some.ensures.found.0 at.is))

pub returns-clause-longer : goal.returns-clause-longer
returns-clause-longer c =
    let t = c.args.self.now in
    let there : slice_get (values_of t.map.entries) c.in-Some.i ≡ Some c.unwrap-value.result.now = sym c.get_index_mut.ensures.value ∙ ap option_copied_mut c.unwrap-value.ensures in
    let at = entry_at t.map.entries c.in-Some.i _ there in
    extend_first c.args.name.now t.map.entries t.count c.in-Some.i at.name _ c.join.new.self (c.args.separator.now ++ c.args.more.now) c.in-Some.ensures.found.1 c.in-Some.ensures.found.0 at.is c.in_ok-join.ensures.longer
