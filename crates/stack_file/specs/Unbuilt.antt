-- Which blocks of a stack have no application (rule S8).
use Rattle.std.specs.Prelude.{ℕ, Bool, true, false, List, [], ◌∷◌, ◌++◌, Option, Some, None, is_some}
use Rattle.builder_core.specs.Tree.{Tree}
use Rattle.builder_core.specs.Plan.{Plan, Item, Done, Then, Uses, Holds, EndsAny}
use Rattle.builder_core.specs.Plan as plans
use Rattle.builder_core.specs.Build.{last_end, behind, plan_parts, build_plan}
use Rattle.stock_apps.specs.declared.app.App.{App}

-- none, where there is no application at all
abbrev pub or_none : Option (Option (Tree App)) → Option (Tree App)
or_none None = None
or_none (Some d) = d

-- The default of places before these lines, in a block that r answers: what stands behind the places, and none
-- where that has no application.
abbrev pub default_before : Option (Tree App) → Plan App → Option (Tree App)
default_before r p = or_none (behind App r (plan_parts App p))

abbrev mutual
  -- For each `end` in these lines of a block that r answers, in order: whether the block that it ends has an
  -- application. A cascade always has one.
  pub ends_built : Plan App → Option (Tree App) → List Bool
  ends_built Done = λ r. []
  ends_built (Then i p) = λ r. item_ends_built i (default_before r p) ++ ends_built p r

  -- the same of one line, at which d is the default of places
  pub item_ends_built : Item App → Option (Tree App) → List Bool
  item_ends_built (Uses ware) = λ d. []
  item_ends_built (plans.Ends app) = λ d. []
  item_ends_built (EndsAny apps) = λ d. true ∷ []
  item_ends_built (Holds place block) = λ d. ends_built block (last_end d (plan_parts App block)) ++ is_some (build_plan App block d) ∷ []

-- the same of a whole file, which is no block of another and comes last
abbrev pub all_built : Plan App → List Bool
all_built p = ends_built p (last_end None (plan_parts App p)) ++ is_some (build_plan App p None) ∷ []

-- the first of these lines at which the answer is no
abbrev pub first_unbuilt : List Bool → List ℕ → Option ℕ
first_unbuilt [] ends = None
first_unbuilt (built ∷ more) [] = None
first_unbuilt (true ∷ more) (n ∷ ends) = first_unbuilt more ends
first_unbuilt (false ∷ more) (n ∷ ends) = Some n
