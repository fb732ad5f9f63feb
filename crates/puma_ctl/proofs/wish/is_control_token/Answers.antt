use Rattle.std.proofs.Common.{sym, ◌∙◌}
use Rattle.puma_ctl.proofs.WishLemmas.{token_by}
use Rattle.puma_ctl.proofs.wish.is_control_token.Goals as goal

pub returns : goal.returns
returns c = c.has_letters_alone.ensures ∙ sym (token_by c.args.text.now c.is_empty.result c.is_empty.ensures c.if-is_empty.false c.if-text-gt64.false)
