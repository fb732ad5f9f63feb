use Rattle.std.proofs.Common.{length, ◌-◌}
use Rattle.message_framing.proofs.ScanPieceLemmas.{IsScanned}
use Rattle.message_framing.proofs.scan.Line.scan.Given as goal

abbrev pub invariant-loop-i : goal.invariant-loop-i
invariant-loop-i l = IsScanned l.fn.self l.self l.piece l.i

abbrev pub decreases-loop-i : goal.decreases-loop-i
decreases-loop-i l = length l.piece - l.i
