use Rattle.std.proofs.Common.{length, ◌-◌}
use Rattle.puma_ctl.proofs.ScanLemmas.{IsSkipped}
use Rattle.puma_ctl.proofs.head.skip.Given as goal

abbrev pub invariant-loop-at : goal.invariant-loop-at
invariant-loop-at l = IsSkipped l.bytes l.at

abbrev pub decreases-loop-at : goal.decreases-loop-at
decreases-loop-at l = length l.bytes - l.at
