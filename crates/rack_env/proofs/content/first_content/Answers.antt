use Rattle.std.proofs.Common.{codes, ◌∙◌}
use Rattle.rack_types.proofs.CallerLemmas.{values_elsewhere}
use Rattle.rack_env.proofs.content.first_content.Goals as goal

pub loop-i-preserved : goal.loop-i-preserved
loop-i-preserved c =
    let fields = c.args.request.now.fields in
    record {
      types = values_elsewhere (codes "content-type") fields c.loop-i.i _ c.field_name.ensures (c.may_be_content.ensures.types c.if-may_be_content.false) ∙ c.loop-i.invariant.types;
      lengths = values_elsewhere (codes "content-length") fields c.loop-i.i _ c.field_name.ensures (c.may_be_content.ensures.lengths c.if-may_be_content.false) ∙ c.loop-i.invariant.lengths;
    }
