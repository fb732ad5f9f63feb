-- The lines of what was read are read again, and so is what is written of it.
use Rattle.std.proofs.Common.{◌≡◌, ℕ, ◌+◌, Bool, true, false, List, [], ◌∷◌, ◌++◌, length, Option, None, Some, Result, Ok, Err, refl, subst}
use Rattle.std.specs.Prelude.{◌&&◌, nat_le, if◌then◌else◌, ⊤}
use Rattle.builder_core.specs.Plan.{Plan, Item, Done, Then, Uses, Holds, EndsAny, plan_of_items}
use Rattle.builder_core.specs.Plan as plans
use Rattle.rack_text.specs.Escaped as spelling
use Rattle.stock_apps.specs.declared.app.App.{App}
use Rattle.stock_middleware.specs.declared.ware.Ware.{Ware}
use Rattle.stack_file.specs.Canon.{canonical}
use Rattle.stack_file.specs.Lines.{lines}
use Rattle.stack_file.specs.Reads.{OpenBlock, AtPlace, InCascade, Standing, at_start, counted, behind_use, behind_run, behind_opening, around_ended, behind_end, stepped, whole, at_end, goes_on, reads_on, reads}
use Rattle.stack_file.specs.Said.{Said, Nothing, UseLine, RunLine, MapLine, CascadeLine, EndLine, Breaks, said, verb_line}
use Rattle.stack_file.specs.Unbuilt.{all_built, first_unbuilt}
use Rattle.stack_file.proofs.EndLemmas.{none_unbuilt}
use Rattle.stack_file.proofs.SizeLemmas.{read_sound}
use Rattle.stack_file.proofs.WalkLemmas.{use_text, run_text, map_text, AppsSaid, ItemSaid, PlanSaid, canonical_read}

-- what a line says is said again by the line that is written for it
pub record SaysAgain : Type 0 where
  pub use_again : (line : List ℕ) (ware : Ware) → said line ≡ UseLine ware → said (use_text ware) ≡ UseLine ware
  pub run_again : (line : List ℕ) (app : App) → said line ≡ RunLine app → said (run_text app) ≡ RunLine app
  pub map_again : (line place : List ℕ) → said line ≡ MapLine place → said (map_text place) ≡ MapLine place

abbrev BlockSaid : OpenBlock → Type 0
BlockSaid (AtPlace place items ends) = (said (map_text place) ≡ MapLine place) × PlanSaid (plan_of_items items)
BlockSaid (InCascade apps) = AppsSaid apps

abbrev BlocksSaid : List OpenBlock → Type 0
BlocksSaid [] = ⊤
BlocksSaid (b ∷ bs) = BlockSaid b × BlocksSaid bs

abbrev IsSaid : Result Standing ℕ → Type 0
IsSaid (Ok s) = BlockSaid s.inner × BlocksSaid s.outer
IsSaid (Err rule) = ⊤

-- what a line says is written so that it is read again
abbrev WrittenSaid : Said → Type 0
WrittenSaid Nothing = ⊤
WrittenSaid (UseLine ware) = said (use_text ware) ≡ UseLine ware
WrittenSaid (RunLine app) = said (run_text app) ≡ RunLine app
WrittenSaid (MapLine place) = said (map_text place) ≡ MapLine place
WrittenSaid CascadeLine = ⊤
WrittenSaid EndLine = ⊤
WrittenSaid (Breaks rule) = ⊤

written_said : SaysAgain → (line : List ℕ) (what : Said) → said line ≡ what → WrittenSaid what
written_said g line Nothing e = tt
written_said g line (UseLine ware) e = g.use_again line ware e
written_said g line (RunLine app) e = g.run_again line app e
written_said g line (MapLine place) e = g.map_again line place e
written_said g line CascadeLine e = tt
written_said g line EndLine e = tt
written_said g line (Breaks rule) e = tt

snoc_said : (items : List (Item App)) (i : Item App) → PlanSaid (plan_of_items items) → ItemSaid i → PlanSaid (plan_of_items (items ++ i ∷ []))
snoc_said [] i h k = (k, tt)
snoc_said (x ∷ items) i h k = (h.0, snoc_said items i h.1 k)

snoc_apps : (apps : List App) (a : App) → AppsSaid apps → said (run_text a) ≡ RunLine a → AppsSaid (apps ++ a ∷ [])
snoc_apps [] a h k = (k, tt)
snoc_apps (x ∷ apps) a h k = (h.0, snoc_apps apps a h.1 k)

counted_said : (steps : ℕ) (block : OpenBlock) (outer : List OpenBlock) → BlockSaid block → BlocksSaid outer → IsSaid (counted steps block outer)
counted_said steps block outer h k = by_limits (nat_le (steps + 1) 256 && nat_le (length outer) 32)
  where
    by_limits : (b : Bool) → IsSaid (if b then Ok (record { steps = steps + 1; inner = block; outer = outer }) else Err 9)
    by_limits true = (h, k)
    by_limits false = tt

use_said : (ware : Ware) (steps : ℕ) (outer : List OpenBlock) (inner : OpenBlock) → said (use_text ware) ≡ UseLine ware → BlockSaid inner → BlocksSaid outer → IsSaid (behind_use ware steps outer inner)
use_said ware steps outer (AtPlace place items ends) e h k = counted_said steps (AtPlace place (items ++ Uses ware ∷ []) ends) outer (h.0, snoc_said items (Uses ware) h.1 e) k
use_said ware steps outer (InCascade apps) e h k = tt

run_said : (app : App) (steps : ℕ) (outer : List OpenBlock) (inner : OpenBlock) → said (run_text app) ≡ RunLine app → BlockSaid inner → BlocksSaid outer → IsSaid (behind_run app steps outer inner)
run_said app steps outer (AtPlace place items ends) e h k = counted_said steps (AtPlace place (items ++ plans.Ends app ∷ []) ends) outer (h.0, snoc_said items (plans.Ends app) h.1 e) k
run_said app steps outer (InCascade apps) e h k = counted_said steps (InCascade (apps ++ app ∷ [])) outer (snoc_apps apps app h e) k

opening_said : (block : OpenBlock) (steps : ℕ) (outer : List OpenBlock) (inner : OpenBlock) → BlockSaid block → BlockSaid inner → BlocksSaid outer → IsSaid (behind_opening block steps outer inner)
opening_said block steps outer (AtPlace place items ends) e h k = counted_said steps block (AtPlace place items ends ∷ outer) e (h, k)
opening_said block steps outer (InCascade apps) e h k = tt

around_said : (n : ℕ) (inner next : OpenBlock) → BlockSaid inner → BlockSaid next → BlockSaid (around_ended n inner next)
around_said n (InCascade apps) (AtPlace place items ends) h k = (k.0, snoc_said items (EndsAny apps) k.1 h)
around_said n (AtPlace inside lines within) (AtPlace place items ends) h k = (k.0, snoc_said items (Holds inside (plan_of_items lines)) k.1 h)
around_said n (InCascade apps) (InCascade more) h k = k
around_said n (AtPlace inside lines within) (InCascade more) h k = k

closing_said : (n steps : ℕ) (inner : OpenBlock) (outer : List OpenBlock) → BlockSaid inner → BlocksSaid outer → IsSaid (behind_end n steps inner outer)
closing_said n steps inner [] h k = tt
closing_said n steps inner (next ∷ outer) h k = (around_said n inner next h k.0, k.1)

step_said : (n : ℕ) (what : Said) (s : Standing) → WrittenSaid what → BlockSaid s.inner → BlocksSaid s.outer → IsSaid (stepped n what s)
step_said n Nothing s e h k = (h, k)
step_said n (UseLine ware) s e h k = use_said ware s.steps s.outer s.inner e h k
step_said n (RunLine app) s e h k = run_said app s.steps s.outer s.inner e h k
step_said n (MapLine place) s e h k = opening_said (AtPlace place [] []) s.steps s.outer s.inner (e, tt) h k
step_said n CascadeLine s e h k = opening_said (InCascade []) s.steps s.outer s.inner tt h k
step_said n EndLine s e h k = closing_said n s.steps s.inner s.outer h k
step_said n (Breaks rule) s e h k = tt

whole_said : (p q : Plan App) (o : Option ℕ) → PlanSaid p → whole p o ≡ Ok q → PlanSaid q
whole_said p q None h e = let same : p ≡ q = cc e in subst (λ (x : Plan App). PlanSaid x) same h
whole_said p q (Some n) h e = cc e

end_said : (n : ℕ) (inner : OpenBlock) (outer : List OpenBlock) (q : Plan App) → BlockSaid inner → at_end n inner outer ≡ Ok q → PlanSaid q
end_said n (AtPlace place items ends) [] q h e = whole_said (plan_of_items items) q (first_unbuilt (all_built (plan_of_items items)) (ends ++ n ∷ [])) h.1 e
end_said n (AtPlace place items ends) (next ∷ outer) q h e = cc e
end_said n (InCascade apps) [] q h e = cc e
end_said n (InCascade apps) (next ∷ outer) q h e = cc e

goes_said : (n : ℕ) (g : Standing → Result (Plan App) (ℕ × ℕ)) (q : Plan App)
    → ((s : Standing) → BlockSaid s.inner → BlocksSaid s.outer → g s ≡ Ok q → PlanSaid q)
    → (r : Result Standing ℕ) → IsSaid r → goes_on n g r ≡ Ok q → PlanSaid q
goes_said n g q more (Ok s) h e = more s h.0 h.1 e
goes_said n g q more (Err rule) h e = cc e

reads_said : SaysAgain → (ls : List (List ℕ)) (n : ℕ) (q : Plan App) (s : Standing) → BlockSaid s.inner → BlocksSaid s.outer → reads_on ls n s ≡ Ok q → PlanSaid q
reads_said g [] n q s h k e = end_said n s.inner s.outer q h e
reads_said g (l ∷ ls) n q s h k e =
    goes_said n (reads_on ls (n + 1)) q (reads_said g ls (n + 1) q) (stepped n (said l) s) (step_said n (said l) s (written_said g l (said l) refl) h k) e

root_said : said (map_text []) ≡ MapLine []
unfolding verb_line spelling.escaped spelling.spelling spelling.spelled
root_said = refl

pub read_again : SaysAgain → (text : List ℕ) (p : Plan App) → reads text ≡ Ok p → reads (canonical p) ≡ Ok p
read_again g text p e =
    let sound = read_sound text p e in
    canonical_read p (reads_said g (lines text) 1 p at_start (root_said, tt) tt e) sound.small.few sound.small.shallow (λ ends. none_unbuilt (all_built p) ends sound.each)
