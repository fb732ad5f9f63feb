use Rattle.std.proofs.Common.{sym, ◌∙◌}
use Rattle.std.specs.Prelude.{codes}
use Rattle.puma_ctl.proofs.FieldLemmas.{found_again}
use Rattle.puma_ctl.proofs.head.Occurs.with.Goals as goal

pub returns-in_default : goal.returns-in_default
returns-in_default c = λ fields h.
    found_again (codes "content-length") c.args.self fields c.args.name.now c.args.value.now c.in_default.not-Never
    (sym c.same_ignoring_case.ensures.value ∙ c.if-not-same_ignoring_case.false) h
