use Rattle.std.proofs.Common.{◌≡◌, ◌++◌, drop}
use Rattle.stack_file.specs.Canon.{run_lines}
use Rattle.stack_file.proofs.writing.write_runs.Given as goal

abbrev pub invariant-loop-app : goal.invariant-loop-app
invariant-loop-app l =
    l.out.items ++ run_lines (drop l.app-index l.apps) l.margin ≡ l.fn.out.items ++ run_lines l.apps l.margin
