use Rattle.std.proofs.Common.{◌+◌, ◌*◌}
use Rattle.builder_core.proofs.calling.+call.Given as goal

abbrev pub decreases-call_node : goal.decreases-call_node
decreases-call_node g l = 2 * l.at

abbrev pub decreases-call_worn : goal.decreases-call_worn
decreases-call_worn g l = 2 * l.inner + 1

abbrev pub decreases-call_inside : goal.decreases-call_inside
decreases-call_inside g l = 2 * l.place.now.node + 1
