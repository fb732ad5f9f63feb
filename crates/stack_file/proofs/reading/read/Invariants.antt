use Rattle.std.proofs.Common.{◌≡◌, ◌+◌, ◌≤◌, length}
use Rattle.stack_file.specs.Kept.{kept, kept_reads, kept_start}
use Rattle.stack_file.specs.Lines.{lines}
use Rattle.stack_file.proofs.reading.read.Given as goal

abbrev pub invariant-loop-left : goal.invariant-loop-left
invariant-loop-left l = record {
  reads : kept_reads (lines l.left) l.number (kept l.standing) ≡ kept_reads (lines l.fn.text) 1 kept_start;
  counts : l.number + length l.left ≤ 1 + length l.fn.text;
}

abbrev pub decreases-loop-left : goal.decreases-loop-left
decreases-loop-left l = length l.left
