use Rattle.std.proofs.Common.{sym, ◌∙◌}
use Rattle.stock_middleware.proofs.HeaderLemmas.{with_type-new}
use Rattle.stock_middleware.proofs.reply.put_type.Goals as goal

pub returns : goal.returns
returns c =
    rw (← with_type-new c.args.kind.now c.args.status c.args.headers.now (sym c.is_bare.ensures ∙ c.if-is_bare.false) (sym c.has_header.ensures ∙ c.if-has_header.false)) c.set.ensures.set
