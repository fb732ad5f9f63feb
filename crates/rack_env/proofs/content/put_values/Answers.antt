use Rattle.std.proofs.Common.{◌≤◌, sym, ap, ◌∙◌, arith, length, refl}
use Rattle.std.proofs.lemmas.List.{take_all}
use Rattle.rack_types.specs.Env.{with_pairs}
use Rattle.rack_types.specs.Fields.{values_of}
use Rattle.rack_types.proofs.CallerLemmas.{IsFieldAt, values_elsewhere}
use Rattle.rack_env.specs.Placing.{join_values}
use Rattle.rack_env.proofs.FieldLemmas.{value_put}
use Rattle.rack_env.proofs.JoinLemmas.{join_values-new}
use Rattle.rack_env.proofs.content.put_values.Goals as goal
use Rattle.rack_env.proofs.content.put_values.Goals.{then-same_ignoring_case+in_ok-add_static, else-same_ignoring_case}

pub loop-i-preserved : goal.loop-i-preserved
loop-i-preserved c = elim c.if-same_ignoring_case.branch [
  | then-same_ignoring_case+in_ok-add_static w ↦
      let at : IsFieldAt c.args.request.now.fields c.loop-i.i c.field_name.result.now w.field_value.result.now =
      record { name_is = c.field_name.ensures; value_is = w.field_value.ensures } in
      rw w.env-is (value_put c.args.field.now c.args.name.now c.args.env.now c.loop-i.env w.add_static.new.self _ c.args.request.now.fields c.loop-i.i _ w.field_value.result.now
      c.loop-i.invariant w.in_ok-add_static.ensures.added refl at (sym c.same_ignoring_case.ensures.value ∙ w.if-same_ignoring_case.true))
  | else-same_ignoring_case w ↦
      let same = values_elsewhere c.args.field.now c.args.request.now.fields c.loop-i.i _ c.field_name.ensures (sym c.same_ignoring_case.ensures.value ∙ w.if-same_ignoring_case.false) in
      rw w.env-is (c.loop-i.invariant ∙ ap (λ vs. with_pairs c.args.env.now (join_values c.args.name.now c.args.env.now.pairs vs)) (sym same))
]

pub returns : goal.returns
returns c =
    let past : length c.args.request.now.fields ≤ c.loop-i.i = omega (arith, c.loop-i-test.false, c.field_count-i-end.ensures) in
    c.loop-i.invariant
    ∙ ap (λ fs. with_pairs c.args.env.now (join_values c.args.name.now c.args.env.now.pairs (values_of c.args.field.now fs))) (take_all c.loop-i.i c.args.request.now.fields past)
    ∙ ap (with_pairs c.args.env.now) (join_values-new c.args.name.now c.args.env.now.pairs (values_of c.args.field.now c.args.request.now.fields) c.requires.absent)
