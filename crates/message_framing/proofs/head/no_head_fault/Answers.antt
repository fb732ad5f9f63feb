use Rattle.std.proofs.Common.{◌≡◌, Bool, MatchBool, refl, sym, ◌∙◌, subst}
use Rattle.rack_types.specs.declared.fault.Fault.TheVariants.{F}
use Rattle.message_framing.specs.Places.{RefusedIn}
use Rattle.message_framing.proofs.head.no_head_fault.Goals as goal

pub returns-then-has_too_many_lines : goal.returns-then-has_too_many_lines
returns-then-has_too_many_lines c =
    subst (λ (b : Bool). MatchBool b (F 2 ≡ F 2) (RefusedIn c.args.text.now (F 2))) (sym (sym c.has_too_many_lines.ensures ∙ c.if-has_too_many_lines.true)) refl
