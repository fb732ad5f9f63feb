use Rattle.rack_types.proofs.CallerLemmas.{IsFieldAt}
use Rattle.std.specs.Option.{option_copied}
use Rattle.rack_env.proofs.FieldLemmas.{field_placed}
use Rattle.rack_env.proofs.fields.put_fields.Goals as goal

pub loop-i-preserved : goal.loop-i-preserved
loop-i-preserved c =
    let at : IsFieldAt c.args.request.now.fields c.loop-i.i c.field_name.result.now c.field_value.result.now =
    record { name_is = c.field_name.ensures; value_is = c.field_value.ensures } in
    record {
      placed = field_placed c.args.request.now.authority (option_copied c.authority-authority.result) c.args.env.now c.loop-i.env c.put_field.new.env c.args.request.now.fields c.loop-i.i _ _
          c.loop-i.invariant.placed c.in_ok-put_field.ensures.placed c.authority-authority.ensures at;
      begins = c.in_ok-put_field.ensures.begins;
    }
