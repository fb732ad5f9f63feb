-- The steps of a stack as data: two values of the program with the same lines have the same plan.
use Rattle.std.specs.Prelude.{ℕ, List, [], ◌∷◌}
use Rattle.stock_middleware.specs.declared.ware.Ware.{Ware}
use Rattle.builder_core.specs.declared.steps.Steps.{Steps}
use Rattle.builder_core.specs.declared.steps.Line.{Line}
use Rattle.builder_core.specs.declared.steps.Line.TheOpen.{Line-F, Steps-F}
use Rattle.builder_core.specs.declared.steps.Line.TheOpen.Line-F.{Use, Run, Map, Cascade}
use Rattle.builder_core.specs.declared.steps.Line.TheFolds.{fold-Steps, fold-Line}

mutual
  -- the lines of a block, in order
  pub data Plan (E : Type 0) : Type 0 where
    Done : Plan E
    Then : Item E → Plan E → Plan E

  -- one line: `use`, `run`, `map` with its block, or `cascade`
  pub data Item (E : Type 0) : Type 0 where
    Uses : Ware → Item E
    Ends : E → Item E
    Holds : List ℕ → Plan E → Item E
    EndsAny : List E → Item E

abbrev pub plan_of_items : {E : Type 0} → List (Item E) → Plan E
plan_of_items [] = Done
plan_of_items (i ∷ items) = Then i (plan_of_items items)

-- a line and a block, where the blocks inside are data already
abbrev pub item_layer : {E : Type 0} → Line-F E (Item E) (Plan E) → Item E
item_layer (Use w) = Uses w
item_layer (Run e) = Ends e
item_layer (Map place plan) = Holds place plan
item_layer (Cascade es) = EndsAny es.items

abbrev pub plan_layer : {E : Type 0} → Steps-F E (Item E) (Plan E) → Plan E
plan_layer s = plan_of_items s.lines.items

-- what steps of the program stand for
abbrev pub plan : {E : Type 0} → Steps E → Plan E
plan {E} s = fold-Steps E (Item E) (Plan E) item_layer plan_layer s

-- and one line of them
abbrev pub item : {E : Type 0} → Line E → Item E
item {E} l = fold-Line E (Item E) (Plan E) item_layer plan_layer l
