use Rattle.std.proofs.Common.{refl, ◌∙◌}
use Rattle.message_framing.proofs.FieldLemmas.{taken_begins, taken_more, taken_whole}
use Rattle.message_framing.proofs.fields.Codings.with.Goals as goal

pub loop-coding-init : goal.loop-coding-init
loop-coding-init c = taken_begins _ _ _ (c.into_iter-coding-iterator.ensures.into_iter_gives ∙ c.elements-coding-items.ensures.elements)

pub loop-coding-preserved : goal.loop-coding-preserved
loop-coding-preserved c = taken_more _ _ _ _ _ _ _ c.loop-coding.invariant c.in-Some.ensures.steps refl refl c.same_ignoring_case.ensures.value

pub returns : goal.returns
returns c = taken_whole _ _ _ _ c.loop-coding.invariant c.in-None.ensures.steps.0
