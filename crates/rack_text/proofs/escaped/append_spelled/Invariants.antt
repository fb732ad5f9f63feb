use Rattle.std.proofs.Common.{◌-◌, length}
use Rattle.rack_text.proofs.EscapedLemmas.{ReadsTo}
use Rattle.rack_text.proofs.escaped.append_spelled.Given as goal

abbrev pub invariant-loop-at : goal.invariant-loop-at
invariant-loop-at l = ReadsTo l.word l.at l.start l.fn.out.items l.out.items

abbrev pub decreases-loop-at : goal.decreases-loop-at
decreases-loop-at l = length l.word - l.at
