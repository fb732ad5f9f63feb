use Rattle.std.proofs.Common.{◌-◌, length}
use Rattle.rack_text.proofs.SpellingLemmas.{WritesTo}
use Rattle.rack_text.proofs.escaped.escape.Given as goal

abbrev pub invariant-loop-at : goal.invariant-loop-at
invariant-loop-at l = WritesTo l.text l.at l.before l.fn.out.items l.out.items

abbrev pub decreases-loop-at : goal.decreases-loop-at
decreases-loop-at l = length l.text - l.at
