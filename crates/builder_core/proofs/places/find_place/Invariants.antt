use Rattle.std.proofs.Common.{◌≡◌, drop}
use Rattle.builder_core.specs.Nodes.{numbered, shown}
use Rattle.builder_core.specs.Places.{best, longer}
use Rattle.builder_core.proofs.places.find_place.Given as goal

abbrev pub invariant-loop-place : goal.invariant-loop-place
invariant-loop-place l =
    longer (shown l.found) (best l.path (numbered (drop l.place-index l.places))) ≡ best l.path (numbered l.places)
