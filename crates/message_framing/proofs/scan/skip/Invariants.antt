use Rattle.std.proofs.Common.{length, ◌-◌}
use Rattle.message_framing.proofs.SkipLemmas.{IsSkipped}
use Rattle.message_framing.proofs.scan.skip.Given as goal

abbrev pub invariant-loop-at : goal.invariant-loop-at
invariant-loop-at l = IsSkipped l.bytes l.at

abbrev pub decreases-loop-at : goal.decreases-loop-at
decreases-loop-at l = length l.bytes - l.at
