use Rattle.std.proofs.Common.{◌≡◌, ◌++◌, ap, ◌∙◌, sym, take, Some, slice_get, arith}
use Rattle.std.proofs.lemmas.Result.{on_err_weaker, on_ok_weaker}
use Rattle.std.specs.Map.{values_of}
use Rattle.std.specs.Option.{option_copied_mut}
use Rattle.indexmap.proofs.CallerLemmas.{index_map_len-with_value_at}
use Rattle.rack_types.proofs.TableLemmas.{add_there, entry_at, extend_first, get_first, same_value}
use Rattle.rack_types.proofs.table.Table.lengthen.Goals as goal

pub invariant_of-self : goal.invariant_of-self
invariant_of-self c =
    record { within = omega (arith, index_map_len-with_value_at c.args.self.now.map c.args.i c.join.new.self, c.args.self.now.within) }

pub returns-clause-longer : goal.returns-clause-longer
returns-clause-longer c = λ name first.
    let t = c.args.self.now in
    let es = t.map.entries in
    let more = c.args.separator.now ++ c.args.more.now in
    let there : slice_get (values_of es) c.args.i ≡ Some c.unwrap-slot.result.now = sym c.get_index_mut.ensures.value ∙ ap option_copied_mut c.unwrap-slot.ensures in
    let at = entry_at es c.args.i _ there in
    on_ok_weaker c.join.result
    (λ longer. extend_first name es t.count c.args.i at.name _ c.join.new.self more first c.requires at.is longer
    ∙ sym (add_there name c.args.separator.now c.args.more.now _ (take t.count es) (get_first name es t.count c.args.i at.name _ first c.requires at.is)))
    c.join.ensures.longer

pub returns-clause-unchanged : goal.returns-clause-unchanged
returns-clause-unchanged c =
    let t = c.args.self.now in
    let es = t.map.entries in
    let there : slice_get (values_of es) c.args.i ≡ Some c.unwrap-slot.result.now = sym c.get_index_mut.ensures.value ∙ ap option_copied_mut c.unwrap-slot.ensures in
    let at = entry_at es c.args.i _ there in
    on_err_weaker c.join.result
    (λ same. ap (take t.count) (same_value es c.args.i at.name _ c.join.new.self at.is same)) c.join.ensures.unchanged
