use Rattle.std.proofs.Common.{refl, ◌∙◌}
use Rattle.reply_framing.proofs.ReplyLemmas.{broken_stands}
use Rattle.reply_framing.proofs.start.broken.Goals as goal

pub returns-clause-stands : goal.returns-clause-stands
returns-clause-stands g c =
    broken_stands _ c.args.rule c.args.ask c.args.last c.broken_after-after.result c.broken_after-after.ensures
    (c.alone.ensures.bytes ∙ c.in_ok-lead.ensures.text) c.alone.ensures.rule refl refl
