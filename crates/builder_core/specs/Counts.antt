-- Sizes and heights of steps and lines of the program; of private functions alone.
use Rattle.std.specs.Prelude.{ℕ, max, List, [], ◌∷◌}
use Rattle.builder_core.specs.Build.{Part, item_part, item_size, item_height, plan_size, plan_height}
use Rattle.builder_core.specs.Plan.{plan, item}
use Rattle.builder_core.specs.declared.steps.Steps.{Steps}
use Rattle.builder_core.specs.declared.steps.Line.{Line}

abbrev pub greatest : List ℕ → ℕ
greatest [] = 0
greatest (n ∷ ns) = max n (greatest ns)

abbrev pub steps_in : {E : Type 0} → Steps E → ℕ
steps_in s = plan_size (plan s)

abbrev pub height : {E : Type 0} → Steps E → ℕ
height s = plan_height (plan s)

abbrev pub part : {E : Type 0} → Line E → Part E
part {E} l = item_part E (item l)

abbrev pub line_size : {E : Type 0} → Line E → ℕ
line_size l = item_size (item l)

abbrev pub line_height : {E : Type 0} → Line E → ℕ
line_height l = item_height (item l)
