-- What is read is neither too long nor too deep, and has an application.
use Rattle.std.proofs.Common.{◌≡◌, ℕ, suc, ◌+◌, ◌≤◌, Bool, true, false, List, [], ◌∷◌, ◌++◌, length, Option, None, Some, Result, Ok, Err, refl, sym, ◌∙◌, subst, length-append, arith}
use Rattle.std.specs.Prelude.{◌&&◌, nat_le, if◌then◌else◌, is_some, ⊤}
use Rattle.builder_core.specs.Plan.{Plan, Item, Done, Then, Uses, Holds, EndsAny, plan_of_items}
use Rattle.builder_core.specs.Plan as plans
use Rattle.builder_core.specs.Build.{item_size, plan_size, item_height, plan_height, build_plan, plan_parts, last_end}
use Rattle.builder_core.specs.Builds.{IsSmall}
use Rattle.stock_apps.specs.declared.app.App.{App}
use Rattle.stock_middleware.specs.declared.ware.Ware.{Ware}
use Rattle.std.proofs.lemmas.Bool.{leb-true}
use Rattle.stack_file.specs.Kept.{earlier}
use Rattle.stack_file.specs.Lines.{lines}
use Rattle.stack_file.specs.Reads.{OpenBlock, AtPlace, InCascade, Standing, at_start, counted, behind_use, behind_run, behind_opening, around_ended, behind_end, stepped, whole, at_end, goes_on, reads_on, reads}
use Rattle.stack_file.specs.Said.{Said, Nothing, UseLine, RunLine, MapLine, CascadeLine, EndLine, Breaks, said}
use Rattle.stack_file.specs.Unbuilt.{ends_built, all_built, first_unbuilt}
use Rattle.stack_file.proofs.EndLemmas.{AllYes, alone_ends, unbuilt_append}
use Rattle.stack_file.proofs.KeptLemmas.{ends_length, IsLined, AreLined, IsFine, step_fine}

-- the steps in an open block, and how deep they reach below it
abbrev block_size : OpenBlock → ℕ
block_size (AtPlace place items ends) = plan_size (plan_of_items items)
block_size (InCascade apps) = length apps

abbrev block_height : OpenBlock → ℕ
block_height (AtPlace place items ends) = plan_height (plan_of_items items)
block_height (InCascade apps) = 0

-- those of the blocks around, with the line that opens the next one
abbrev outer_size : List OpenBlock → ℕ
outer_size [] = 0
outer_size (b ∷ bs) = 1 + block_size b + outer_size bs

abbrev AreShallow : List OpenBlock → Type 0
AreShallow [] = ⊤
AreShallow (b ∷ bs) = (block_height b + length bs ≤ 32) × AreShallow bs

pub record Within (steps : ℕ) (inner : OpenBlock) (outer : List OpenBlock) : Type 0 where
  pub few : block_size inner + outer_size outer ≤ steps
  pub limit : steps ≤ 256
  pub shallow : block_height inner + length outer ≤ 32
  pub around : AreShallow outer

abbrev IsWithin : Result Standing ℕ → Type 0
IsWithin (Ok s) = Within s.steps s.inner s.outer
IsWithin (Err rule) = ⊤

snoc_size : (items : List (Item App)) (i : Item App) → plan_size (plan_of_items (items ++ i ∷ [])) ≡ plan_size (plan_of_items items) + item_size i
snoc_size [] i = omega arith
snoc_size (x ∷ items) i = let more = snoc_size items i in omega (arith, more)

snoc_height : (items : List (Item App)) (i : Item App) (d : ℕ) → plan_height (plan_of_items items) + d ≤ 32 → item_height i + d ≤ 32 → plan_height (plan_of_items (items ++ i ∷ [])) + d ≤ 32
snoc_height [] i d h k = omega (arith, h, k)
snoc_height (x ∷ items) i d h k =
    let rest : plan_height (plan_of_items items) + d ≤ 32 = omega (arith, h) in
    let more = snoc_height items i d rest k in
    omega (arith, more, h)

both : (a b : Bool) → a && b ≡ true → (a ≡ true) × (b ≡ true)
both true b e = (refl, e)
both false b e = cc e

counted_within : (steps : ℕ) (block : OpenBlock) (outer : List OpenBlock) → block_size block + outer_size outer ≤ steps + 1 → (length outer ≤ 32 → block_height block + length outer ≤ 32) → AreShallow outer → IsWithin (counted steps block outer)
counted_within steps block outer few h around = by_limits (nat_le (steps + 1) 256 && nat_le (length outer) 32) refl
  where
    by_limits : (b : Bool) → nat_le (steps + 1) 256 && nat_le (length outer) 32 ≡ b → IsWithin (if b then Ok (record { steps = steps + 1; inner = block; outer = outer }) else Err 9)
    by_limits true is =
        let tests = both (nat_le (steps + 1) 256) (nat_le (length outer) 32) is in
        record { few = few; limit = leb-true (steps + 1) 256 tests.0; shallow = h (leb-true (length outer) 32 tests.1); around = around }
    by_limits false is = tt

use_within : (ware : Ware) (steps : ℕ) (outer : List OpenBlock) (inner : OpenBlock) → Within steps inner outer → IsWithin (behind_use ware steps outer inner)
use_within ware steps outer (AtPlace place items ends) w =
    let size = snoc_size items (Uses ware) in
    let fits = w.few in
    let height = snoc_height items (Uses ware) (length outer) w.shallow in
    counted_within steps (AtPlace place (items ++ Uses ware ∷ []) ends) outer (omega (arith, size, fits)) (λ deep. height (omega (arith, deep))) w.around
use_within ware steps outer (InCascade apps) w = tt

run_within : (app : App) (steps : ℕ) (outer : List OpenBlock) (inner : OpenBlock) → Within steps inner outer → IsWithin (behind_run app steps outer inner)
run_within app steps outer (AtPlace place items ends) w =
    let size = snoc_size items (plans.Ends app) in
    let fits = w.few in
    let height = snoc_height items (plans.Ends app) (length outer) w.shallow in
    counted_within steps (AtPlace place (items ++ plans.Ends app ∷ []) ends) outer (omega (arith, size, fits)) (λ deep. height (omega (arith, deep))) w.around
run_within app steps outer (InCascade apps) w =
    let size = length-append apps (app ∷ []) in
    let fits = w.few in
    counted_within steps (InCascade (apps ++ app ∷ [])) outer (omega (arith, size, fits)) (λ deep. omega (arith, deep)) w.around

opening_within : (block : OpenBlock) (steps : ℕ) (outer : List OpenBlock) (inner : OpenBlock) → block_size block ≡ 0 → block_height block ≡ 0 → Within steps inner outer → IsWithin (behind_opening block steps outer inner)
opening_within block steps outer (AtPlace place items ends) e f w =
    let fits = w.few in
    counted_within steps block (AtPlace place items ends ∷ outer) (omega (arith, e, fits)) (λ deep. omega (arith, f, deep)) (w.shallow, w.around)
opening_within block steps outer (InCascade apps) e f w = tt

around_size : (n : ℕ) (inner next : OpenBlock) → block_size (around_ended n inner next) ≤ block_size inner + (1 + block_size next)
around_size n (InCascade apps) (AtPlace place items ends) = let size = snoc_size items (EndsAny apps) in omega (arith, size)
around_size n (AtPlace inside lines within) (AtPlace place items ends) = let size = snoc_size items (Holds inside (plan_of_items lines)) in omega (arith, size)
around_size n (InCascade apps) (InCascade more) = omega arith
around_size n (AtPlace inside lines within) (InCascade more) = omega arith

around_height : (n : ℕ) (inner next : OpenBlock) (d : ℕ) → block_height inner + suc d ≤ 32 → block_height next + d ≤ 32 → block_height (around_ended n inner next) + d ≤ 32
around_height n (InCascade apps) (AtPlace place items ends) d h k = snoc_height items (EndsAny apps) d k (omega (arith, h))
around_height n (AtPlace inside lines within) (AtPlace place items ends) d h k = snoc_height items (Holds inside (plan_of_items lines)) d k (omega (arith, h))
around_height n (InCascade apps) (InCascade more) d h k = k
around_height n (AtPlace inside lines within) (InCascade more) d h k = k

closing_within : (n steps : ℕ) (inner : OpenBlock) (outer : List OpenBlock) → Within steps inner outer → IsWithin (behind_end n steps inner outer)
closing_within n steps inner [] w = tt
closing_within n steps inner (next ∷ outer) w =
    let fits = w.few in
    let size = around_size n inner next in
    record {
      few = omega (arith, fits, size);
      limit = w.limit;
      shallow = around_height n inner next (length outer) w.shallow w.around.0;
      around = w.around.1;
    }

step_within : (n : ℕ) (what : Said) (s : Standing) → Within s.steps s.inner s.outer → IsWithin (stepped n what s)
step_within n Nothing s w = w
step_within n (UseLine ware) s w = use_within ware s.steps s.outer s.inner w
step_within n (RunLine app) s w = run_within app s.steps s.outer s.inner w
step_within n (MapLine place) s w = opening_within (AtPlace place [] []) s.steps s.outer s.inner refl refl w
step_within n CascadeLine s w = opening_within (InCascade []) s.steps s.outer s.inner refl refl w
step_within n EndLine s w = closing_within n s.steps s.inner s.outer w
step_within n (Breaks rule) s w = tt

-- what stands of steps that were read
pub record IsSound (p : Plan App) : Type 0 where
  pub small : IsSmall p
  pub built : is_some (build_plan App p None) ≡ true
  pub each : AllYes (all_built p)

first_or : (b : Bool) (o : Option ℕ) (n : ℕ) → earlier o (first_unbuilt (b ∷ []) (n ∷ [])) ≡ None → b ≡ true
first_or true o n e = refl
first_or false None n e = cc e
first_or false (Some m) n e = cc e

yes_from : (bs : List Bool) (ends : List ℕ) → length bs ≡ length ends → first_unbuilt bs ends ≡ None → AllYes bs
yes_from [] ends e f = tt
yes_from (b ∷ bs) [] e f = absurd (omega (arith, e))
yes_from (true ∷ bs) (n ∷ ends) e f = (refl, yes_from bs ends (omega (arith, e)) f)
yes_from (false ∷ bs) (n ∷ ends) e f = cc f

ended_sound : (p : Plan App) (ends : List ℕ) (n : ℕ) (q : Plan App) → plan_size p ≤ 256 → plan_height p ≤ 32 → length (alone_ends p) ≡ length ends
    → whole p (first_unbuilt (all_built p) (ends ++ n ∷ [])) ≡ Ok q → IsSound q
ended_sound p ends n q few shallow lined e = by_first (first_unbuilt (all_built p) (ends ++ n ∷ [])) refl e
  where
    by_first : (o : Option ℕ) → first_unbuilt (all_built p) (ends ++ n ∷ []) ≡ o → whole p o ≡ Ok q → IsSound q
    by_first (Some m) is f = cc f
    by_first None is f =
        let same : p ≡ q = cc f in
        let r = last_end None (plan_parts App p) in
        let apart = unbuilt_append (ends_built p r) (is_some (build_plan App p None) ∷ []) ends (n ∷ []) (ends_length p r ∙ lined) in
        subst (λ (x : Plan App). IsSound x) same (record {
          small = record { few = few; shallow = shallow };
          each = yes_from (all_built p) (ends ++ n ∷ []) (omega (arith, lined, ends_length p r, length-append (ends_built p r) (is_some (build_plan App p None) ∷ []), length-append ends (n ∷ []))) is;
          built = first_or (is_some (build_plan App p None)) (first_unbuilt (ends_built p r) ends) n (sym apart ∙ is);
        })

end_sound : (n steps : ℕ) (inner : OpenBlock) (outer : List OpenBlock) (q : Plan App) → Within steps inner outer → IsLined inner → at_end n inner outer ≡ Ok q → IsSound q
end_sound n steps (AtPlace place items ends) [] q w lined e =
    let few = w.few in
    let limit = w.limit in
    let shallow = w.shallow in
    ended_sound (plan_of_items items) ends n q (omega (arith, few, limit)) (omega (arith, shallow)) lined e
end_sound n steps (AtPlace place items ends) (next ∷ outer) q w lined e = cc e
end_sound n steps (InCascade apps) [] q w lined e = cc e
end_sound n steps (InCascade apps) (next ∷ outer) q w lined e = cc e

goes_sound : (n : ℕ) (g : Standing → Result (Plan App) (ℕ × ℕ)) (q : Plan App)
    → ((s : Standing) → Within s.steps s.inner s.outer → IsLined s.inner → AreLined s.outer → g s ≡ Ok q → IsSound q)
    → (r : Result Standing ℕ) → IsWithin r → IsFine r → goes_on n g r ≡ Ok q → IsSound q
goes_sound n g q sound (Ok s) w fine e = sound s w fine.0 fine.1 e
goes_sound n g q sound (Err rule) w fine e = cc e

reads_sound : (ls : List (List ℕ)) (n : ℕ) (q : Plan App) (s : Standing) → Within s.steps s.inner s.outer → IsLined s.inner → AreLined s.outer → reads_on ls n s ≡ Ok q → IsSound q
reads_sound [] n q s w h k e = end_sound n s.steps s.inner s.outer q w h e
reads_sound (l ∷ ls) n q s w h k e =
    goes_sound n (reads_on ls (n + 1)) q (reads_sound ls (n + 1) q) (stepped n (said l) s) (step_within n (said l) s w) (step_fine n (said l) s h k) e

pub read_sound : (text : List ℕ) (q : Plan App) → reads text ≡ Ok q → IsSound q
read_sound text q e =
    reads_sound (lines text) 1 q at_start (record { few = omega arith; limit = omega arith; shallow = omega arith; around = tt }) refl tt e
