-- What crates above may cite of this crate's proofs.
use Rattle.std.proofs.Common.{◌≡◌, ℕ, List, Option, None, Some, true, false, ap, refl, arith}
use Rattle.std.specs.Prelude.{is_some}
use Rattle.builder_core.specs.Tree.{Tree}
use Rattle.builder_core.specs.Plan.{Plan}
use Rattle.builder_core.specs.Build.{build_plan}
use Rattle.builder_core.specs.Builds.{HasFault, Builds}
use Rattle.builder_core.specs.declared.steps.BuildFault.{BuildFault}
use Rattle.builder_core.specs.declared.steps.BuildFault.TheVariants.{TooMany, TooDeep, NoRun, NoMemory}
use Rattle.stock_apps.specs.declared.app.App.{App}
use Rattle.stack_file.specs.Reads.{IsStack}
use Rattle.stack_file.proofs.SizeLemmas.{read_sound}

-- the value that is there
there : (o : Option (Tree App)) → is_some o ≡ true → (t : Tree App) × (o ≡ Some t)
there None e = cc e
there (Some t) e = (t, refl)

-- what was read builds a tree
pub reads_builds : (text : List ℕ) (p : Plan App) → IsStack text p → (t : Tree App) × Builds p t
reads_builds text p is =
    let sound = read_sound text p is in
    let tree = there (build_plan App p None) sound.built in
    (tree.0, record { small = sound.small; tree = tree.1 })

-- and of the faults of a plan it can have want of memory alone
pub reads_faults : (text : List ℕ) (p : Plan App) (fault : BuildFault) → IsStack text p → HasFault p fault → fault ≡ NoMemory
reads_faults text p NoMemory is has = refl
reads_faults text p TooMany is has =
    let few = (read_sound text p is).small.few in
    absurd (omega (arith, few, has))
reads_faults text p TooDeep is has =
    let shallow = (read_sound text p is).small.shallow in
    let deep = has.1 in
    absurd (omega (arith, shallow, deep))
reads_faults text p NoRun is has =
    let some : is_some (build_plan App p None) ≡ true = (read_sound text p is).built in
    let none : is_some (build_plan App p None) ≡ false = ap (λ o. is_some o) has.1 in
    cc (some, none)
