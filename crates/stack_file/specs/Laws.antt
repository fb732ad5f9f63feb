-- Laws of stack files.
use Rattle.std.specs.Prelude.{◌≡◌, ℕ, List}
use Rattle.builder_core.specs.Plan.{Plan}
use Rattle.builder_core.specs.Builds.{HasFault}
use Rattle.builder_core.specs.declared.steps.BuildFault.{BuildFault}
use Rattle.builder_core.specs.declared.steps.BuildFault.TheVariants.{NoMemory}
use Rattle.stock_apps.specs.declared.app.App.{App}
use Rattle.stack_file.specs.Canon.{canonical}
use Rattle.stack_file.specs.Reads.{IsStack}

-- what is written of steps that were read is read as the same steps
abbrev pub WrittenIsReadAgain : Type 0
WrittenIsReadAgain = (text : List ℕ) (p : Plan App) → IsStack text p → IsStack (canonical p) p

-- of steps that were read, want of memory is all that can keep a stack from being built
abbrev pub ReadIsBuilt : Type 0
ReadIsBuilt = (text : List ℕ) (p : Plan App) (fault : BuildFault) → IsStack text p → HasFault p fault → fault ≡ NoMemory
