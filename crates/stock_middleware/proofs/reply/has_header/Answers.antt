use Rattle.std.proofs.Common.{ap, is_some, ◌∙◌}
use Rattle.stock_middleware.proofs.HeaderLemmas.{is_some-header_place}
use Rattle.stock_middleware.proofs.reply.has_header.Goals as goal

pub returns : goal.returns
returns c =
    c.is_some.ensures ∙ ap is_some c.get.ensures ∙ is_some-header_place c.args.name.now c.args.headers.now
