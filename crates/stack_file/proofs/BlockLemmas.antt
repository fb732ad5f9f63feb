-- A block of the program as a line.
use Rattle.std.proofs.Common.{◌≡◌, ℕ, List, [], ◌∷◌, ◌++◌, map, refl, ap, ◌∙◌}
use Rattle.builder_core.specs.Plan.{Holds, plan_of_items, item}
use Rattle.builder_core.specs.declared.steps.Steps.{Steps}
use Rattle.builder_core.specs.declared.steps.Line.{Line}
use Rattle.builder_core.specs.declared.steps.Line.TheVariants.{Map}
use Rattle.builder_core.proofs.CallerLemmas.{item-map, plan-lines, item-cascade}
use Rattle.stock_apps.specs.declared.app.App.{App}

pub item-block : (place : List ℕ) (s : Steps App) → item (Map place s) ≡ Holds place (plan_of_items (map item s.lines.items))
item-block place s = item-map place s ∙ ap (λ p. Holds place p) (plan-lines s)

map_snoc : (ls : List (Line App)) (l : Line App) → map item (ls ++ l ∷ []) ≡ map item ls ++ item l ∷ []
map_snoc [] l = refl
map_snoc (x ∷ ls) l = ap (λ is. item x ∷ is) (map_snoc ls l)

-- a map behind other lines
pub map_behind : (lines : List (Line App)) (place : List ℕ) (s : Steps App) (all : List (Line App)) → all ≡ lines ++ Map place s ∷ []
    → map item all ≡ map item lines ++ Holds place (plan_of_items (map item s.lines.items)) ∷ []
map_behind lines place s all e =
    ap (λ ls. map item ls) e ∙ map_snoc lines (Map place s) ∙ ap (λ i. map item lines ++ i ∷ []) (item-block place s)

pub ruleset blocks = (item-block, item-cascade)
