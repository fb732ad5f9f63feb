-- What the program keeps, in place of all that the definition keeps, gives the same.
use Rattle.std.proofs.Common.{◌≡◌, ℕ, suc, ◌+◌, Bool, true, false, List, [], ◌∷◌, ◌++◌, length, map, Option, None, Some, Result, Ok, Err, refl, sym, ap, ◌∙◌, append_assoc, append-nil, length-append, arith}
use Rattle.std.specs.Prelude.{◌&&◌, ◌||◌, nat_le, if◌then◌else◌, is_some, ⊤}
use Rattle.builder_core.specs.Tree.{Tree}
use Rattle.builder_core.specs.Plan.{Plan, Item, Done, Then, Uses, Holds, EndsAny, plan_of_items}
use Rattle.builder_core.specs.Plan as plans
use Rattle.builder_core.specs.Build.{last_end, plan_parts, build_plan}
use Rattle.stock_apps.specs.declared.app.App.{App}
use Rattle.stock_middleware.specs.declared.ware.Ware.{Ware}
use Rattle.stack_file.specs.declared.notes.Notes.{Notes}
use Rattle.stack_file.specs.Kept.{KeptBlock, KeptPlace, KeptCascade, Kept, noted_use, noted_run, noted_map, kept_count, kept_use, kept_run, kept_opening, kept_around, kept_closing, kept_step, kept_whole, kept_end, kept_goes_on, kept_reads, kept_start, earlier, lacking}
use Rattle.stack_file.specs.Lines.{lines}
use Rattle.stack_file.specs.Reads.{OpenBlock, AtPlace, InCascade, Standing, at_start, counted, behind_use, behind_run, behind_opening, around_ended, behind_end, stepped, whole, at_end, goes_on, reads_on, reads}
use Rattle.stack_file.specs.Said.{Said, Nothing, UseLine, RunLine, MapLine, CascadeLine, EndLine, Breaks, said}
use Rattle.stack_file.specs.Unbuilt.{default_before, ends_built, item_ends_built, first_unbuilt}
use Rattle.stack_file.proofs.BuiltLemmas.{item_answers, plan_answers, plan_row, item_row}
use Rattle.stack_file.proofs.EndLemmas.{alone_ends, unbuilt_append, block_lacks}

-- one item more, at the end
snoc_answers : (items : List (Item App)) (i : Item App) → plan_answers (plan_of_items (items ++ i ∷ [])) ≡ plan_answers (plan_of_items items) || item_answers i
snoc_answers [] i = or_false (item_answers i)
  where
    or_false : (b : Bool) → b || false ≡ b
    or_false true = refl
    or_false false = refl
snoc_answers (x ∷ items) i = ap (λ b. item_answers x || b) (snoc_answers items i) ∙ or_more (item_answers x) (plan_answers (plan_of_items items)) (item_answers i)
  where
    or_more : (a b c : Bool) → a || (b || c) ≡ (a || b) || c
    or_more true b c = refl
    or_more false b c = refl

snoc_row : (items : List (Item App)) (i : Item App) (o : Option Bool) → plan_row (plan_of_items (items ++ i ∷ [])) o ≡ item_row i (plan_row (plan_of_items items) o)
snoc_row [] i o = refl
snoc_row (x ∷ items) i o = snoc_row items i (item_row x o)

snoc_alone : (items : List (Item App)) (i : Item App) → alone_ends (plan_of_items (items ++ i ∷ [])) ≡ alone_ends (plan_of_items items) ++ item_ends_built i None
snoc_alone [] i = append_nil (item_ends_built i None)
  where
    append_nil : (bs : List Bool) → bs ++ [] ≡ bs
    append_nil [] = refl
    append_nil (b ∷ bs) = ap (λ cs. b ∷ cs) (append_nil bs)
snoc_alone (x ∷ items) i = ap (λ bs. item_ends_built x None ++ bs) (snoc_alone items i) ∙ sym (append_assoc (item_ends_built x None) (alone_ends (plan_of_items items)) (item_ends_built i None))

-- how many `end` lines stand in a block
mutual
  pub ends_length : (p : Plan App) (r : Option (Tree App)) → length (ends_built p r) ≡ length (alone_ends p)
  ends_length Done r = refl
  ends_length (Then i p) r = item_ends_length i p r (ends_length p r)

  item_ends_length : (i : Item App) (p : Plan App) (r : Option (Tree App)) → length (ends_built p r) ≡ length (alone_ends p) → length (ends_built (Then i p) r) ≡ length (alone_ends (Then i p))
  item_ends_length (Uses w) p r e = e
  item_ends_length (plans.Ends a) p r e = e
  item_ends_length (EndsAny apps) p r e = ap (λ n. suc n) e
  item_ends_length (Holds place block) p r e =
      let d = default_before r p in
      let some = ends_length block (last_end d (plan_parts App block)) in
      let none = ends_length block (last_end None (plan_parts App block)) in
      omega (
        arith,
        e,
        some,
        none,
        length-append (item_ends_built (Holds place block) d) (ends_built p r),
        length-append (item_ends_built (Holds place block) None) (alone_ends p),
        length-append (ends_built block (last_end d (plan_parts App block))) (is_some (build_plan App block d) ∷ []),
        length-append (ends_built block (last_end None (plan_parts App block))) (is_some (build_plan App block None) ∷ []),
      )

-- what the program keeps of a block
abbrev pub notes_of : List (Item App) → List ℕ → Notes
notes_of items ends = record {
  answered = plan_answers (plan_of_items items);
  row = plan_row (plan_of_items items) None;
  unbuilt = first_unbuilt (alone_ends (plan_of_items items)) ends;
}

abbrev pub keeps : OpenBlock → KeptBlock
keeps (AtPlace place items ends) = KeptPlace place items (notes_of items ends)
keeps (InCascade apps) = KeptCascade apps

abbrev pub keeps_all : Standing → Kept
keeps_all s = record { steps = s.steps; inner = keeps s.inner; outer = map keeps s.outer }

-- the lines of each `end` are there
abbrev pub IsLined : OpenBlock → Type 0
IsLined (AtPlace place items ends) = length (alone_ends (plan_of_items items)) ≡ length ends
IsLined (InCascade apps) = ⊤

abbrev pub AreLined : List OpenBlock → Type 0
AreLined [] = ⊤
AreLined (b ∷ bs) = IsLined b × AreLined bs

abbrev pub keeps_result : Result Standing ℕ → Result Kept ℕ
keeps_result (Ok s) = Ok (keeps_all s)
keeps_result (Err rule) = Err rule

abbrev pub IsFine : Result Standing ℕ → Type 0
IsFine (Ok s) = IsLined s.inner × AreLined s.outer
IsFine (Err rule) = ⊤

abbrev standing : ℕ → OpenBlock → List OpenBlock → Standing
standing steps inner outer = record { steps = steps; inner = inner; outer = outer }

abbrev kept_standing : ℕ → KeptBlock → List KeptBlock → Kept
kept_standing steps inner outer = record { steps = steps; inner = inner; outer = outer }

counted_by : (b : Bool) (steps : ℕ) (block : OpenBlock) (outer : List OpenBlock)
    → keeps_result (if b then Ok (standing steps block outer) else Err 9) ≡ (if b then Ok (kept_standing steps (keeps block) (map keeps outer)) else Err 9)
counted_by true steps block outer = refl
counted_by false steps block outer = refl

map_length : (outer : List OpenBlock) → length outer ≡ length (map keeps outer)
map_length [] = refl
map_length (b ∷ outer) = ap (λ n. suc n) (map_length outer)

counted_keeps : (steps : ℕ) (block : OpenBlock) (same : KeptBlock) (outer : List OpenBlock) → keeps block ≡ same
    → keeps_result (counted steps block outer) ≡ kept_count steps same (map keeps outer)
counted_keeps steps block same outer e =
    counted_by (nat_le (steps + 1) 256 && nat_le (length outer) 32) (steps + 1) block outer
    ∙ ap (λ n. if nat_le (steps + 1) 256 && nat_le n 32 then Ok (kept_standing (steps + 1) (keeps block) (map keeps outer)) else Err 9) (map_length outer)
    ∙ ap (λ b. kept_count steps b (map keeps outer)) e

counted_fine : (steps : ℕ) (block : OpenBlock) (outer : List OpenBlock) → IsLined block → AreLined outer → IsFine (counted steps block outer)
counted_fine steps block outer h k = by_limit (nat_le (steps + 1) 256 && nat_le (length outer) 32)
  where
    by_limit : (b : Bool) → IsFine (if b then Ok (standing (steps + 1) block outer) else Err 9)
    by_limit true = (h, k)
    by_limit false = tt

abbrev notes : Bool → Option Bool → Option ℕ → Notes
notes answered row unbuilt = record { answered = answered; row = row; unbuilt = unbuilt }

notes_same : (a b : Bool) (r s : Option Bool) (u v : Option ℕ) → a ≡ b → r ≡ s → u ≡ v → notes a r u ≡ notes b s v
notes_same a b r s u v e f g = ap (λ x. notes x r u) e ∙ ap (λ y. notes b y u) f ∙ ap (λ z. notes b s z) g

or_no : (b : Bool) → b || false ≡ b
or_no true = refl
or_no false = refl

or_yes : (b : Bool) → b || true ≡ true
or_yes true = refl
or_yes false = refl

no_ends : (items : List (Item App)) (i : Item App) (ends : List ℕ) → item_ends_built i None ≡ [] → first_unbuilt (alone_ends (plan_of_items (items ++ i ∷ []))) ends ≡ first_unbuilt (alone_ends (plan_of_items items)) ends
no_ends items i ends e = ap (λ bs. first_unbuilt bs ends) (snoc_alone items i ∙ ap (λ bs. alone_ends (plan_of_items items) ++ bs) e ∙ append-nil (alone_ends (plan_of_items items)))

use_notes : (ware : Ware) (items : List (Item App)) (ends : List ℕ) → notes_of (items ++ Uses ware ∷ []) ends ≡ noted_use (notes_of items ends)
use_notes ware items ends =
    notes_same _ _ _ _ _ _ (snoc_answers items (Uses ware) ∙ or_no (plan_answers (plan_of_items items))) (snoc_row items (Uses ware) None) (no_ends items (Uses ware) ends refl)

run_notes : (app : App) (items : List (Item App)) (ends : List ℕ) → notes_of (items ++ plans.Ends app ∷ []) ends ≡ noted_run (notes_of items ends)
run_notes app items ends =
    notes_same _ _ _ _ _ _ (snoc_answers items (plans.Ends app) ∙ or_yes (plan_answers (plan_of_items items))) (snoc_row items (plans.Ends app) None) (no_ends items (plans.Ends app) ends refl)

earlier_none : (o : Option ℕ) → earlier o None ≡ o
earlier_none None = refl
earlier_none (Some n) = refl

tries_notes : (apps : List App) (items : List (Item App)) (ends : List ℕ) (n : ℕ) → length (alone_ends (plan_of_items items)) ≡ length ends
    → notes_of (items ++ EndsAny apps ∷ []) (ends ++ n ∷ []) ≡ noted_run (notes_of items ends)
tries_notes apps items ends n e =
    notes_same _ _ _ _ _ _ (snoc_answers items (EndsAny apps) ∙ or_yes (plan_answers (plan_of_items items))) (snoc_row items (EndsAny apps) None)
    (ap (λ bs. first_unbuilt bs (ends ++ n ∷ [])) (snoc_alone items (EndsAny apps))
    ∙ unbuilt_append (alone_ends (plan_of_items items)) (true ∷ []) ends (n ∷ []) e
    ∙ earlier_none (first_unbuilt (alone_ends (plan_of_items items)) ends))

map_notes : (inside : List ℕ) (lines : List (Item App)) (within : List ℕ) (items : List (Item App)) (ends : List ℕ) (n : ℕ)
    → length (alone_ends (plan_of_items lines)) ≡ length within → length (alone_ends (plan_of_items items)) ≡ length ends
    → notes_of (items ++ Holds inside (plan_of_items lines) ∷ []) (ends ++ (within ++ n ∷ [])) ≡ noted_map n (notes_of lines within) (notes_of items ends)
map_notes inside lines within items ends n e f =
    let i : Item App = Holds inside (plan_of_items lines) in
    notes_same _ _ _ _ _ _ (snoc_answers items i ∙ or_no (plan_answers (plan_of_items items))) (snoc_row items i None)
    (ap (λ bs. first_unbuilt bs (ends ++ (within ++ n ∷ []))) (snoc_alone items i)
    ∙ unbuilt_append (alone_ends (plan_of_items items)) (item_ends_built i None) ends (within ++ n ∷ []) f
    ∙ ap (λ o. earlier (first_unbuilt (alone_ends (plan_of_items items)) ends) o) (block_lacks inside (plan_of_items lines) within n e))

use_keeps : (ware : Ware) (steps : ℕ) (outer : List OpenBlock) (inner : OpenBlock) → keeps_result (behind_use ware steps outer inner) ≡ kept_use ware steps (map keeps outer) (keeps inner)
use_keeps ware steps outer (AtPlace place items ends) = counted_keeps steps (AtPlace place (items ++ Uses ware ∷ []) ends) _ outer (ap (λ ns. KeptPlace place (items ++ Uses ware ∷ []) ns) (use_notes ware items ends))
use_keeps ware steps outer (InCascade apps) = refl

run_keeps : (app : App) (steps : ℕ) (outer : List OpenBlock) (inner : OpenBlock) → keeps_result (behind_run app steps outer inner) ≡ kept_run app steps (map keeps outer) (keeps inner)
run_keeps app steps outer (AtPlace place items ends) = counted_keeps steps (AtPlace place (items ++ plans.Ends app ∷ []) ends) _ outer (ap (λ ns. KeptPlace place (items ++ plans.Ends app ∷ []) ns) (run_notes app items ends))
run_keeps app steps outer (InCascade apps) = counted_keeps steps (InCascade (apps ++ app ∷ [])) _ outer refl

opening_keeps : (block : OpenBlock) (steps : ℕ) (outer : List OpenBlock) (inner : OpenBlock) → keeps_result (behind_opening block steps outer inner) ≡ kept_opening (keeps block) steps (map keeps outer) (keeps inner)
opening_keeps block steps outer (AtPlace place items ends) = counted_keeps steps block (keeps block) (AtPlace place items ends ∷ outer) refl
opening_keeps block steps outer (InCascade apps) = refl

around_keeps : (n : ℕ) (inner next : OpenBlock) → IsLined inner → IsLined next → keeps (around_ended n inner next) ≡ kept_around n (keeps inner) (keeps next)
around_keeps n (InCascade apps) (AtPlace place items ends) h k = ap (λ ns. KeptPlace place (items ++ EndsAny apps ∷ []) ns) (tries_notes apps items ends n k)
around_keeps n (AtPlace inside lines within) (AtPlace place items ends) h k = ap (λ ns. KeptPlace place (items ++ Holds inside (plan_of_items lines) ∷ []) ns) (map_notes inside lines within items ends n h k)
around_keeps n (InCascade apps) (InCascade more) h k = refl
around_keeps n (AtPlace inside lines within) (InCascade more) h k = refl

closing_keeps : (n steps : ℕ) (inner : OpenBlock) (outer : List OpenBlock) → IsLined inner → AreLined outer → keeps_result (behind_end n steps inner outer) ≡ kept_closing n steps (keeps inner) (map keeps outer)
closing_keeps n steps inner [] h k = refl
closing_keeps n steps inner (next ∷ outer) h k = ap (λ b. Ok (kept_standing steps b (map keeps outer))) (around_keeps n inner next h k.0)

step_keeps : (n : ℕ) (what : Said) (s : Standing) → IsLined s.inner → AreLined s.outer → keeps_result (stepped n what s) ≡ kept_step n what (keeps_all s)
step_keeps n Nothing s h k = refl
step_keeps n (UseLine ware) s h k = use_keeps ware s.steps s.outer s.inner
step_keeps n (RunLine app) s h k = run_keeps app s.steps s.outer s.inner
step_keeps n (MapLine place) s h k = opening_keeps (AtPlace place [] []) s.steps s.outer s.inner
step_keeps n CascadeLine s h k = opening_keeps (InCascade []) s.steps s.outer s.inner
step_keeps n EndLine s h k = closing_keeps n s.steps s.inner s.outer h k
step_keeps n (Breaks rule) s h k = refl

snoc_lined : (items : List (Item App)) (i : Item App) (ends more : List ℕ) → length (item_ends_built i None) ≡ length more → length (alone_ends (plan_of_items items)) ≡ length ends
    → length (alone_ends (plan_of_items (items ++ i ∷ []))) ≡ length (ends ++ more)
snoc_lined items i ends more e f =
    let whole : length (alone_ends (plan_of_items (items ++ i ∷ []))) ≡ length (alone_ends (plan_of_items items) ++ item_ends_built i None) = ap length (snoc_alone items i) in
    omega (arith, e, f, whole, length-append (alone_ends (plan_of_items items)) (item_ends_built i None), length-append ends more)

no_lined : (items : List (Item App)) (i : Item App) (ends : List ℕ) → item_ends_built i None ≡ [] → length (alone_ends (plan_of_items items)) ≡ length ends
    → length (alone_ends (plan_of_items (items ++ i ∷ []))) ≡ length ends
no_lined items i ends e f = snoc_lined items i ends [] (ap length e) f ∙ ap length (append-nil ends)

map_lined : (inside : List ℕ) (lines : List (Item App)) (within : List ℕ) (n : ℕ) → length (alone_ends (plan_of_items lines)) ≡ length within
    → length (item_ends_built (Holds inside (plan_of_items lines)) None) ≡ length (within ++ n ∷ [])
map_lined inside lines within n e =
    let block : Plan App = plan_of_items lines in
    let same = ends_length block (last_end None (plan_parts App block)) in
    omega (arith, e, same, length-append within (n ∷ []), length-append (ends_built block (last_end None (plan_parts App block))) (is_some (build_plan App block None) ∷ []))

around_lined : (n : ℕ) (inner next : OpenBlock) → IsLined inner → IsLined next → IsLined (around_ended n inner next)
around_lined n (InCascade apps) (AtPlace place items ends) h k = snoc_lined items (EndsAny apps) ends (n ∷ []) refl k
around_lined n (AtPlace inside lines within) (AtPlace place items ends) h k =
    snoc_lined items (Holds inside (plan_of_items lines)) ends (within ++ n ∷ []) (map_lined inside lines within n h) k
around_lined n (InCascade apps) (InCascade more) h k = tt
around_lined n (AtPlace inside lines within) (InCascade more) h k = tt

use_fine : (ware : Ware) (steps : ℕ) (outer : List OpenBlock) (inner : OpenBlock) → IsLined inner → AreLined outer → IsFine (behind_use ware steps outer inner)
use_fine ware steps outer (AtPlace place items ends) h k = counted_fine steps (AtPlace place (items ++ Uses ware ∷ []) ends) outer (no_lined items (Uses ware) ends refl h) k
use_fine ware steps outer (InCascade apps) h k = tt

run_fine : (app : App) (steps : ℕ) (outer : List OpenBlock) (inner : OpenBlock) → IsLined inner → AreLined outer → IsFine (behind_run app steps outer inner)
run_fine app steps outer (AtPlace place items ends) h k = counted_fine steps (AtPlace place (items ++ plans.Ends app ∷ []) ends) outer (no_lined items (plans.Ends app) ends refl h) k
run_fine app steps outer (InCascade apps) h k = counted_fine steps (InCascade (apps ++ app ∷ [])) outer tt k

opening_fine : (block : OpenBlock) (steps : ℕ) (outer : List OpenBlock) (inner : OpenBlock) → IsLined block → IsLined inner → AreLined outer → IsFine (behind_opening block steps outer inner)
opening_fine block steps outer (AtPlace place items ends) b h k = counted_fine steps block (AtPlace place items ends ∷ outer) b (h, k)
opening_fine block steps outer (InCascade apps) b h k = tt

closing_fine : (n steps : ℕ) (inner : OpenBlock) (outer : List OpenBlock) → IsLined inner → AreLined outer → IsFine (behind_end n steps inner outer)
closing_fine n steps inner [] h k = tt
closing_fine n steps inner (next ∷ outer) h k = (around_lined n inner next h k.0, k.1)

pub step_fine : (n : ℕ) (what : Said) (s : Standing) → IsLined s.inner → AreLined s.outer → IsFine (stepped n what s)
step_fine n Nothing s h k = (h, k)
step_fine n (UseLine ware) s h k = use_fine ware s.steps s.outer s.inner h k
step_fine n (RunLine app) s h k = run_fine app s.steps s.outer s.inner h k
step_fine n (MapLine place) s h k = opening_fine (AtPlace place [] []) s.steps s.outer s.inner refl h k
step_fine n CascadeLine s h k = opening_fine (InCascade []) s.steps s.outer s.inner tt h k
step_fine n EndLine s h k = closing_fine n s.steps s.inner s.outer h k
step_fine n (Breaks rule) s h k = tt

whole_is : (p : Plan App) (o : Option ℕ) → kept_whole p o ≡ whole p o
whole_is p None = refl
whole_is p (Some n) = refl

end_keeps : (n : ℕ) (inner : OpenBlock) (outer : List OpenBlock) → IsLined inner → kept_end n (keeps inner) (map keeps outer) ≡ at_end n inner outer
end_keeps n (AtPlace place items ends) [] h =
    whole_is (plan_of_items items) (lacking n (notes_of items ends))
    ∙ ap (λ o. whole (plan_of_items items) o) (sym (block_lacks place (plan_of_items items) ends n h))
end_keeps n (AtPlace place items ends) (next ∷ outer) h = refl
end_keeps n (InCascade apps) [] h = refl
end_keeps n (InCascade apps) (next ∷ outer) h = refl

goes_keep : (n : ℕ) (f : Kept → Result (Plan App) (ℕ × ℕ)) (g : Standing → Result (Plan App) (ℕ × ℕ))
    → ((s : Standing) → IsLined s.inner → AreLined s.outer → f (keeps_all s) ≡ g s)
    → (r : Result Standing ℕ) → IsFine r → kept_goes_on n f (keeps_result r) ≡ goes_on n g r
goes_keep n f g same (Ok next) fine = same next fine.0 fine.1
goes_keep n f g same (Err rule) fine = refl

-- what the program makes of lines is what they give
pub reads_keep : (ls : List (List ℕ)) (n : ℕ) (s : Standing) → IsLined s.inner → AreLined s.outer → kept_reads ls n (keeps_all s) ≡ reads_on ls n s
reads_keep [] n s h k = end_keeps n s.inner s.outer h
reads_keep (l ∷ ls) n s h k =
    ap (λ r. kept_goes_on n (kept_reads ls (n + 1)) r) (sym (step_keeps n (said l) s h k))
    ∙ goes_keep n (kept_reads ls (n + 1)) (reads_on ls (n + 1)) (reads_keep ls (n + 1)) (stepped n (said l) s) (step_fine n (said l) s h k)

pub reads_kept : (text : List ℕ) → kept_reads (lines text) 1 kept_start ≡ reads text
reads_kept text = reads_keep (lines text) 1 at_start refl tt
