use Rattle.std.proofs.Common.{[], refl, arith}
use Rattle.message_framing.specs.declared.standing.Standing.TheVariants as at
use Rattle.message_framing.specs.HeadText.{head_len, skipped, lines_end}
use Rattle.message_framing.specs.Scan.{behind}
use Rattle.message_framing.proofs.FedLemmas.{holds}
use Rattle.message_framing.proofs.intake.Intake.advance.Goals as goal

pub returns : goal.returns
unfolding head_len skipped lines_end behind
returns c =
    holds _ at.Open [] c.replace.ensures.after refl
    (record { bytes = c.clear.ensures.items; within = omega arith; unended = refl })
