-- What a contract sees of a runner over a stack.
use Rattle.std.specs.Prelude.{ℕ, List}
use Rattle.builder_core.specs.declared.stack.Node.{Node}

-- the stack, as its contract sees it, and the number of runs
pub record StackRuns (E : Type 0) : Type 0 where
  pub stack : List (Node E) × ℕ
  pub runs : ℕ
