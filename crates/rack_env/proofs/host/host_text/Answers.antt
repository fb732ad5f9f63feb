use Rattle.std.proofs.Common.{◌≡◌, codes, sym, ap, ◌∙◌, None}
use Rattle.std.specs.Option.{option_copied}
use Rattle.rack_types.proofs.CallerLemmas.{IsFieldAt, values_elsewhere}
use Rattle.rack_types.specs.Fields.{values_of}
use Rattle.rack_env.specs.Host.{host_text}
use Rattle.rack_env.proofs.FieldLemmas.{first_value}
use Rattle.rack_env.proofs.host.host_text.Goals as goal

pub loop-i-preserved : goal.loop-i-preserved
loop-i-preserved c =
    values_elsewhere (codes "host") c.args.request.now.fields c.loop-i.i _ c.field_name.ensures (sym c.same_ignoring_case.ensures.value ∙ c.if-same_ignoring_case.false) ∙ c.loop-i.invariant

pub returns-then-same_ignoring_case : goal.returns-then-same_ignoring_case
returns-then-same_ignoring_case c =
    let at : IsFieldAt c.args.request.now.fields c.loop-i.i c.field_name.result.now c.field_value.result.now =
    record { name_is = c.field_name.ensures; value_is = c.field_value.ensures } in
    let first = first_value (codes "host") c.args.request.now.fields c.loop-i.i _ _ at (sym c.same_ignoring_case.ensures.value ∙ c.if-same_ignoring_case.true) c.loop-i.invariant in
    let absent : c.args.request.now.authority ≡ None = sym c.authority.ensures ∙ ap option_copied c.in_default.is in
    sym (ap (λ a. host_text a (values_of (codes "host") c.args.request.now.fields)) absent ∙ ap (host_text None) first.1)
