use Rattle.std.proofs.Common.{◌≡◌, ◌++◌, drop}
use Rattle.stack_file.proofs.LineText.{lines_text}
use Rattle.stack_file.proofs.writing.+write.Given as goal

abbrev pub decreases-write_block : goal.decreases-write_block
decreases-write_block l = goal.size-write_block l

abbrev pub decreases-write_line : goal.decreases-write_line
decreases-write_line l = goal.size-write_line l

abbrev pub invariant-write_block-loop-line : goal.invariant-write_block-loop-line
invariant-write_block-loop-line l =
    l.out.items ++ lines_text (drop l.line-index l.steps.lines.items) l.margin ≡ l.fn.out.items ++ lines_text l.steps.lines.items l.margin
