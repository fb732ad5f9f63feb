-- What `to_app` answers, by the plan of its steps. The greatest number of steps and the greatest depth are
-- this project's own.
use Rattle.std.specs.Prelude.{◌≡◌, ◌<◌, ◌≤◌, Some, None, ⊤}
use Rattle.builder_core.specs.Build.{build_plan, plan_size, plan_height}
use Rattle.builder_core.specs.Plan.{Plan}
use Rattle.builder_core.specs.Tree.{Tree}
use Rattle.builder_core.specs.declared.steps.BuildFault.{BuildFault}
use Rattle.builder_core.specs.declared.steps.BuildFault.TheVariants.{TooMany, TooDeep, NoRun, NoMemory}

-- neither too many steps nor too deep
pub record IsSmall {E : Type 0} (p : Plan E) : Type 0 where
  pub few : plan_size p ≤ 256
  pub shallow : plan_height p ≤ 32

-- the fault of a plan: TooMany goes before TooDeep, and that before NoRun. No plan has two of these three;
-- of want of memory nothing is said
abbrev pub HasFault : {E : Type 0} → Plan E → BuildFault → Type 0
HasFault p TooMany = 256 < plan_size p
HasFault p TooDeep = (plan_size p ≤ 256) × (32 < plan_height p)
HasFault {E} p NoRun = IsSmall p × (build_plan E p None ≡ None)
HasFault p NoMemory = ⊤

-- the plan has none of the three, and builds this
pub record Builds {E : Type 0} (p : Plan E) (t : Tree E) : Type 0 where
  pub small : IsSmall p
  pub tree : build_plan E p None ≡ Some t
