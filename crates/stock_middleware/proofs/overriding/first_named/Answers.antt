use Rattle.std.proofs.Common.{ap, ◌∙◌}
use Rattle.std.specs.Option.{option_copied}
use Rattle.stock_middleware.proofs.MethodLemmas.{find-upper}
use Rattle.stock_middleware.proofs.overriding.first_named.Goals as goal

pub returns : goal.returns
returns c =
    ap option_copied c.first_same-found.ensures ∙ find-upper c.args.text.now c.args.verbs.now c.requires
