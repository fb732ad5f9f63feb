use Rattle.std.proofs.Common.{◌≡◌, [], ap, ◌∙◌}
use Rattle.rack_types.specs.Input.{unread}
use Rattle.rack_types.specs.Request.{with_body}
use Rattle.message_framing.proofs.FedLemmas.{held_request}
use Rattle.message_framing.proofs.intake.Intake.take_input.Goals as goal

pub returns-clause-first : goal.returns-clause-first
returns-clause-first c = λ b r fed is.
    let same : c.in-Whole.request ≡ r = held_request c.args.self.now b c.in-Whole.request r c.in-Whole.is fed is in (
      c.new-2.ensures ∙ ap unread (c.new.ensures ∙ c.take_body.ensures.body ∙ ap (λ q. q.body) same),
      record { line = fed.line; at = (r, is, c.take_body.ensures.left ∙ ap (with_body []) same) },
    )
