-- How a stack file is read: the steps, or the first line that breaks a rule and the least rule that it breaks.
-- This project's own.
use Rattle.std.specs.Prelude.{◌≡◌, ℕ, ◌+◌, ◌&&◌, nat_le, if◌then◌else◌, List, [], ◌∷◌, ◌++◌, length, Option, Some, None, Result, Ok, Err, ⊤}
use Rattle.builder_core.specs.Plan.{Plan, Item, Uses, Holds, EndsAny, plan_of_items}
use Rattle.builder_core.specs.Plan as plans
use Rattle.stock_apps.specs.declared.app.App.{App}
use Rattle.stock_middleware.specs.declared.ware.Ware.{Ware}
use Rattle.stack_file.specs.declared.fault.ReadFault.{ReadFault}
use Rattle.stack_file.specs.declared.fault.ReadFault.TheVariants.{Bad, NoMemory}
use Rattle.stack_file.specs.Lines.{lines}
use Rattle.stack_file.specs.Said.{Said, Nothing, UseLine, RunLine, MapLine, CascadeLine, EndLine, Breaks, said}
use Rattle.stack_file.specs.Unbuilt.{all_built, first_unbuilt}

-- A block that isn't ended yet: a place with its lines so far, and the numbers of the lines of each `end` among
-- them, in order; or the endpoints so far of a cascade. The whole file is as a block of its own.
pub data OpenBlock : Type 0 where
  AtPlace : List ℕ → List (Item App) → List ℕ → OpenBlock
  InCascade : List App → OpenBlock

-- where the reading stands: how many steps there are, the innermost block, and the blocks around it from the inside
-- to the outside
pub record Standing : Type 0 where
  pub steps : ℕ
  pub inner : OpenBlock
  pub outer : List OpenBlock

abbrev pub at_start : Standing
at_start = record { steps = 0; inner = AtPlace [] [] []; outer = [] }

-- one step more, where there are 256 at most then, and none is deeper than 32 (else S9)
abbrev pub counted : ℕ → OpenBlock → List OpenBlock → Result Standing ℕ
counted steps inner outer =
    if nat_le (steps + 1) 256 && nat_le (length outer) 32
    then Ok (record { steps = steps + 1; inner = inner; outer = outer }) else Err 9

-- `use`, which a cascade doesn't hold (S7)
abbrev pub behind_use : Ware → ℕ → List OpenBlock → OpenBlock → Result Standing ℕ
behind_use ware steps outer (AtPlace place items ends) = counted steps (AtPlace place (items ++ Uses ware ∷ []) ends) outer
behind_use ware steps outer (InCascade apps) = Err 7

-- `run`
abbrev pub behind_run : App → ℕ → List OpenBlock → OpenBlock → Result Standing ℕ
behind_run app steps outer (AtPlace place items ends) = counted steps (AtPlace place (items ++ plans.Ends app ∷ []) ends) outer
behind_run app steps outer (InCascade apps) = counted steps (InCascade (apps ++ app ∷ [])) outer

-- `map` and `cascade`, which a cascade doesn't hold (S7)
abbrev pub behind_opening : OpenBlock → ℕ → List OpenBlock → OpenBlock → Result Standing ℕ
behind_opening block steps outer (AtPlace place items ends) = counted steps block (AtPlace place items ends ∷ outer)
behind_opening block steps outer (InCascade apps) = Err 7

-- the block around one that this line ends
abbrev pub around_ended : ℕ → OpenBlock → OpenBlock → OpenBlock
around_ended n (InCascade apps) (AtPlace place items ends) = AtPlace place (items ++ EndsAny apps ∷ []) (ends ++ n ∷ [])
around_ended n (AtPlace inside lines within) (AtPlace place items ends) =
    AtPlace place (items ++ Holds inside (plan_of_items lines) ∷ []) (ends ++ (within ++ n ∷ []))
around_ended n inner (InCascade apps) = InCascade apps

-- `end`, which needs a block (else S6)
abbrev pub behind_end : ℕ → ℕ → OpenBlock → List OpenBlock → Result Standing ℕ
behind_end n steps inner [] = Err 6
behind_end n steps inner (next ∷ outer) = Ok (record { steps = steps; inner = around_ended n inner next; outer = outer })

-- what line n makes of it by what it says, or the least rule that it breaks
abbrev pub stepped : ℕ → Said → Standing → Result Standing ℕ
stepped n Nothing s = Ok s
stepped n (UseLine ware) s = behind_use ware s.steps s.outer s.inner
stepped n (RunLine app) s = behind_run app s.steps s.outer s.inner
stepped n (MapLine place) s = behind_opening (AtPlace place [] []) s.steps s.outer s.inner
stepped n CascadeLine s = behind_opening (InCascade []) s.steps s.outer s.inner
stepped n EndLine s = behind_end n s.steps s.inner s.outer
stepped n (Breaks rule) s = Err rule

-- the whole file, where each block has an application (else S8)
abbrev pub whole : Plan App → Option ℕ → Result (Plan App) (ℕ × ℕ)
whole p None = Ok p
whole p (Some line) = Err (line, 8)

-- the end of the file, n being the line behind the last: no block is open (else S6)
abbrev pub at_end : ℕ → OpenBlock → List OpenBlock → Result (Plan App) (ℕ × ℕ)
at_end n (AtPlace place items ends) [] =
    whole (plan_of_items items) (first_unbuilt (all_built (plan_of_items items)) (ends ++ n ∷ []))
at_end n (AtPlace place items ends) (next ∷ outer) = Err (n, 6)
at_end n (InCascade apps) outer = Err (n, 6)

-- what line n, and the lines behind it that `more` reads, give
abbrev pub goes_on : ℕ → (Standing → Result (Plan App) (ℕ × ℕ)) → Result Standing ℕ → Result (Plan App) (ℕ × ℕ)
goes_on n more (Ok s) = more s
goes_on n more (Err rule) = Err (n, rule)

-- what these lines, the first of which is line n, give from there on
abbrev pub reads_on : List (List ℕ) → ℕ → Standing → Result (Plan App) (ℕ × ℕ)
reads_on [] = λ n s. at_end n s.inner s.outer
reads_on (line ∷ more) = λ n s. goes_on n (reads_on more (n + 1)) (stepped n (said line) s)

-- the steps of a stack file, or its first line that breaks a rule with the least rule that it breaks
abbrev pub reads : List ℕ → Result (Plan App) (ℕ × ℕ)
reads text = reads_on (lines text) 1 at_start

-- no rule stands, and these are the steps
abbrev pub IsStack : List ℕ → Plan App → Type 0
IsStack text p = reads text ≡ Ok p

-- the first line that breaks a rule is this one, and this is the least rule that it breaks
abbrev pub IsBadAt : List ℕ → ℕ → ℕ → Type 0
IsBadAt text line rule = reads text ≡ Err (line, rule)

-- the fault is that; of want of memory nothing is said
abbrev pub HasReadFault : List ℕ → ReadFault → Type 0
HasReadFault text (Bad fault) = IsBadAt text fault.line fault.rule
HasReadFault text NoMemory = ⊤
