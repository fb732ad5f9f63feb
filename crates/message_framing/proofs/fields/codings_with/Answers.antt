use Rattle.std.proofs.Common.{sym, ◌∙◌, codes, subst, List, ℕ}
use Rattle.message_framing.specs.Found.{CodingsFound}
use Rattle.message_framing.proofs.FieldLemmas.{codings_more, values_with, values_without}
use Rattle.message_framing.proofs.fields.codings_with.Goals as goal

pub returns-then-not-same_ignoring_case : goal.returns-then-not-same_ignoring_case
returns-then-not-same_ignoring_case c = λ fields h.
    subst (λ (v : List (List ℕ)). CodingsFound c.args.all v)
    (sym (values_without (codes "transfer-encoding") fields c.args.name.now c.args.value.now (sym c.same_ignoring_case.ensures.value ∙ c.if-not-same_ignoring_case.true))) h

pub returns : goal.returns
returns c = λ fields h.
    codings_more c.args.all c.unwrap_or-before.result c.with.result _ _ c.args.value.now h c.unwrap_or-before.ensures
    (values_with (codes "transfer-encoding") fields c.args.name.now c.args.value.now (sym c.same_ignoring_case.ensures.value ∙ c.if-not-same_ignoring_case.false)) c.with.ensures
