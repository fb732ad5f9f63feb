use Rattle.std.proofs.Common.{◌≡◌, length}
use Rattle.rack_text.specs.Lists.{elements}
use Rattle.rack_text.proofs.list.ListElementsIterator.next.Given as goal

abbrev pub invariant-loop-self : goal.invariant-loop-self
invariant-loop-self l = elements l.self-inside.rest.now ≡ elements l.initial.self-inside.rest.now

abbrev pub decreases-loop-self : goal.decreases-loop-self
decreases-loop-self l = length l.self-inside.rest.now
