use Rattle.std.proofs.Common.{ap, sym, ◌∙◌, Some, drop}
use Rattle.rack_types.proofs.RequestLemmas.{field_at, field_below}
use Rattle.rack_types.proofs.request.Request.field_name.Goals as goal

pub returns : goal.returns
returns c =
    let inside = c.self.inside in
    let text = drop inside.spans.start inside.head.items in
    rw (← c.self.view_is)
    (field_at (λ f. f.0) text inside.fields.items inside.spans.fields c.args.i c.index.result.now
    (field_below _ _ inside.spans _ _ _ c.args.i c.self.view_is c.self.invariant.fit.count c.requires) c.self.invariant.fit.count c.index.ensures
    ∙ ap Some (sym (simp (c.text_of.ensures, c.deref.ensures.value) at c.of.ensures)))
