use Rattle.std.proofs.Common.{sym, ◌∙◌, subst, List, ℕ}
use Rattle.message_framing.specs.Found.{OccursAs}
use Rattle.message_framing.proofs.FieldLemmas.{found_first, found_again, values_with, values_without}
use Rattle.message_framing.proofs.fields.Occurs.with.Goals as goal

pub returns-then-not-same_ignoring_case : goal.returns-then-not-same_ignoring_case
returns-then-not-same_ignoring_case c = λ fields h.
    subst (λ (v : List (List ℕ)). OccursAs c.args.self v)
    (sym (values_without c.args.wanted.now fields c.args.name.now c.args.value.now (sym c.same_ignoring_case.ensures.value ∙ c.if-not-same_ignoring_case.true))) h

pub returns-in-Never : goal.returns-in-Never
returns-in-Never c = λ fields h.
    found_first c.args.self _ _ c.args.value c.in-Never.is h
    (values_with c.args.wanted.now fields c.args.name.now c.args.value.now (sym c.same_ignoring_case.ensures.value ∙ c.if-not-same_ignoring_case.false))

pub returns-in_default : goal.returns-in_default
returns-in_default c = λ fields h.
    found_again c.args.self _ _ c.args.value.now c.in_default.not-Never h
    (values_with c.args.wanted.now fields c.args.name.now c.args.value.now (sym c.same_ignoring_case.ensures.value ∙ c.if-not-same_ignoring_case.false))
