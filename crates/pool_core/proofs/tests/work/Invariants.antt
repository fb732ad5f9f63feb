use Rattle.std.proofs.Common.{◌≡◌}
use Rattle.pool_core.specs.declared.tests.TheConstants.{ALL}
use Rattle.pool_core.specs.declared.view.Stage.TheVariants.{Open}
use Rattle.pool_core.specs.Pass.{pass_view, IsLanePass}
use Rattle.pool_core.proofs.tests.work.Given as goal

abbrev pub invariant-loop-number : goal.invariant-loop-number
invariant-loop-number g l = IsLanePass l.lane l.pass × ((pass_view l.pass).stage ≡ Open ALL)

abbrev pub invariant-loop : goal.invariant-loop
invariant-loop g l = IsLanePass l.lane l.pass × ((pass_view l.pass).stage ≡ Open ALL)
