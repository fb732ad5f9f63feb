use Rattle.std.proofs.Common.{◌≡◌, length}
use Rattle.pool_core.specs.declared.tests.TheConstants.{ALL}
use Rattle.pool_core.proofs.tests.+work_together.Given as goal

abbrev pub decreases-work_together : goal.decreases-work_together
decreases-work_together g l = l.threads

abbrev pub invariant-loop-place : goal.invariant-loop-place
invariant-loop-place g l = (length l.seen ≡ ALL) × (length l.counts.items ≡ ALL)
