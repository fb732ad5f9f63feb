-- What the lines of a stack build (after Rack's Builder; that a `use` behind a `map` wraps what follows it is
-- this project's own).
use Rattle.std.specs.Prelude.{ℕ, ◌+◌, max, List, [], ◌∷◌, length, Option, Some, None, option_map, option_and_then}
use Rattle.stock_middleware.specs.declared.ware.Ware.{Ware}
use Rattle.builder_core.specs.Tree.{Tree, Calls, Wraps, ByPlace, Tries, Row, NoPlace, Place}
use Rattle.builder_core.specs.Plan.{Plan, Item, Done, Then, Uses, Holds, EndsAny, plan, item}
use Rattle.builder_core.specs.Plan as plans
use Rattle.builder_core.specs.declared.steps.Steps.{Steps}

-- a block, as what it builds with a default: None where it has no application
abbrev pub Block : Type 0 → Type 0
Block E = Option (Tree E) → Option (Tree E)

-- a line, with what its block builds in the block's place
pub data Part (E : Type 0) : Type 0 where
  Wears : Ware → Part E
  Ends : Tree E → Part E
  At : List ℕ → Block E → Part E

-- what answers a block: the application of its last `run` or `cascade`, or else the default
abbrev pub last_end : {E : Type 0} → Option (Tree E) → List (Part E) → Option (Tree E)
last_end r [] = r
last_end r (Wears w ∷ ps) = last_end r ps
last_end r (Ends t ∷ ps) = last_end (Some t) ps
last_end r (At place block ∷ ps) = last_end r ps

-- the default, as the empty place behind all others
abbrev pub default_row : {E : Type 0} → Option (Tree E) → Row E
default_row None = NoPlace
default_row (Some t) = Place [] t NoPlace

-- the places in a row at the front, each block built with the default d, and d behind them; None where one
-- of the blocks has no application
abbrev pub places : {E : Type 0} → Option (Tree E) → List (Part E) → Option (Row E)
places d [] = Some (default_row d)
places d (Wears w ∷ ps) = Some (default_row d)
places d (Ends t ∷ ps) = places d ps
places d (At place block ∷ ps) = option_and_then (λ t. option_map (λ row. Place place t row) (places d ps)) (block d)

module _ (E : Type 0) where
  abbrev mutual
    -- What lines build around r, which answers the block; the lines of `run` and `cascade` are passed over.
    -- Without lines it is r. A `use` stands around what the lines behind it build. The places in a row are
    -- one application, with what stands behind them as their default. None is that there is none.
    pub around : Option (Tree E) → List (Part E) → Option (Tree E)
    around r [] = r
    around r (Wears w ∷ ps) = option_map (λ t. Wraps w t) (around r ps)
    around r (Ends t ∷ ps) = around r ps
    around r (At place block ∷ ps) = option_and_then (λ d. option_and_then (λ t. option_map (λ row. ByPlace (Place place t row)) (places d ps)) (block d)) (behind r ps)

    -- What stands behind the places at the front: what the lines from the next `use` on build, or r where
    -- there is no such line, which may be none. None where those lines have no application.
    pub behind : Option (Tree E) → List (Part E) → Option (Option (Tree E))
    behind r [] = Some r
    behind r (Wears w ∷ ps) = option_map (λ t. Some (Wraps w t)) (around r ps)
    behind r (Ends t ∷ ps) = behind r ps
    behind r (At place block ∷ ps) = behind r ps

  abbrev mutual
    -- one line, and those of a block
    pub item_part : Item E → Part E
    item_part (Uses w) = Wears w
    item_part (plans.Ends e) = Ends (Calls e)
    item_part (Holds place block) = At place (λ d. around (last_end d (plan_parts block)) (plan_parts block))
    item_part (EndsAny es) = Ends (Tries es)

    pub plan_parts : Plan E → List (Part E)
    plan_parts Done = []
    plan_parts (Then i p) = item_part i ∷ plan_parts p

  -- what a block builds with a default
  abbrev pub build_plan : Plan E → Block E
  build_plan p = λ d. around (last_end d (plan_parts p)) (plan_parts p)

-- How many steps there are: each line is one, and each endpoint of a `cascade` is one more.
abbrev mutual
  pub item_size : {E : Type 0} → Item E → ℕ
  item_size (Uses w) = 1
  item_size (plans.Ends e) = 1
  item_size (Holds place block) = 1 + plan_size block
  item_size (EndsAny es) = 1 + length es

  pub plan_size : {E : Type 0} → Plan E → ℕ
  plan_size Done = 0
  plan_size (Then i p) = item_size i + plan_size p

-- The greatest depth: the whole has the depth 0, and what stands in a `map` or `cascade` has one more than
-- that line; an empty one counts too.
abbrev mutual
  pub item_height : {E : Type 0} → Item E → ℕ
  item_height (Uses w) = 0
  item_height (plans.Ends e) = 0
  item_height (Holds place block) = 1 + plan_height block
  item_height (EndsAny es) = 1

  pub plan_height : {E : Type 0} → Plan E → ℕ
  plan_height Done = 0
  plan_height (Then i p) = max (item_height i) (plan_height p)

-- what the steps of the program build with a default
abbrev pub build : {E : Type 0} → Steps E → Block E
build {E} s = build_plan E (plan s)
