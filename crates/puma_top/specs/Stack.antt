-- The stack that a stack file is. This project's own.
use Rattle.std.specs.Prelude.{ℕ, List}
use Rattle.stock_apps.specs.declared.app.App.{App}
use Rattle.builder_core.specs.Plan.{Plan}
use Rattle.builder_core.specs.Tree.{Tree}
use Rattle.builder_core.specs.Builds.{Builds}
use Rattle.stack_file.specs.Reads.{IsStack}

-- the bytes that a stack file may have
abbrev pub stack_limit : ℕ
stack_limit = 65536

-- the text breaks no rule, and its steps build this stack
pub record IsStackOf (text : List ℕ) (stack : Tree App) : Type 0 where
  pub steps : Plan App
  pub reads : IsStack text steps
  pub built : Builds steps stack
