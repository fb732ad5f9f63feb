use Rattle.std.proofs.Common.{◌≡◌, ◌++◌, drop}
use Rattle.stack_file.specs.Canon.{spaced, arguments}
use Rattle.stack_file.proofs.writing.put_texts.Given as goal

abbrev pub invariant-loop-text : goal.invariant-loop-text
invariant-loop-text l =
    l.out.items ++ spaced (arguments (drop l.text-index l.texts)) ≡ l.fn.out.items ++ spaced (arguments l.texts)
