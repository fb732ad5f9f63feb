use Rattle.std.proofs.Common.{ap}
use Rattle.puma_top.proofs.QuietLemmas.{ran}
use Rattle.puma_top.proofs.quiet.run_quiet.Goals as goal

pub returns-clause-ran : goal.returns-clause-ran
returns-clause-ran g c =
    ran c.run_command.result _ _ _ c.run_command.ensures.did
    (λ none. ap g.F.Files.texts (c.run_command.ensures.unasked none).0)
    c.run_command.ensures.same c.run_command.ensures.prefix
