use Rattle.std.proofs.Common.{◌≡◌, ◌++◌, length}
use Rattle.stack_file.specs.Lines as spec
use Rattle.stack_file.proofs.lines.words.Given as goal

abbrev pub invariant-loop-word : goal.invariant-loop-word
invariant-loop-word l = spec.words l.text ≡ l.words.items ++ spec.words l.left

abbrev pub decreases-loop-word : goal.decreases-loop-word
decreases-loop-word l = length l.left
