use Rattle.std.proofs.Common.{◌++◌, ap, sym, ◌∙◌}
use Rattle.std.proofs.lemmas.List.{append-nil}
use Rattle.reply_framing.specs.Body.{body_bytes, rule_in}
use Rattle.reply_framing.proofs.BodyLemmas.{bare_bytes}
use Rattle.reply_framing.proofs.pull.Pull.new.Goals as goal

pub returns-in-Bare-clause-bytes : goal.returns-in-Bare-clause-bytes
returns-in-Bare-clause-bytes g c =
    let b = g.B.Body.content c.args.body in
    c.alone.ensures.bytes ∙ sym (ap (λ w. c.args.lead.items ++ w) (ap (λ f. body_bytes f c.args.promised b.pieces b.raises) c.in-Bare.is ∙ bare_bytes c.args.promised b.pieces b.raises) ∙ append-nil c.args.lead.items)

pub returns-in-Bare-clause-rule : goal.returns-in-Bare-clause-rule
returns-in-Bare-clause-rule g c =
    let b = g.B.Body.content c.args.body in
    c.alone.ensures.rule ∙ sym (ap (λ f. rule_in f c.args.promised b.pieces b.raises) c.in-Bare.is)
