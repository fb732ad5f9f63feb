use Rattle.std.proofs.Common.{◌≡◌, ◌++◌, drop, map, decimal}
use Rattle.stack_file.specs.Canon.{spaced}
use Rattle.stack_file.proofs.writing.put_numbers.Given as goal

abbrev pub invariant-loop-number : goal.invariant-loop-number
invariant-loop-number l =
    l.out.items ++ spaced (map decimal (drop l.number-index l.numbers)) ≡ l.fn.out.items ++ spaced (map decimal l.numbers)
