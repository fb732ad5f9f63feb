-- What a value of the program stands for, of a block and of each line.
use Rattle.std.proofs.Common.{◌≡◌, ℕ, ◌+◌, List, [], ◌∷◌, map, sum, max, length, Option, refl, sym, ap, ◌∙◌}
use Rattle.std.specs.Prelude.{Vec}
use Rattle.std.specs.declared.alloc.Global.{Global}
use Rattle.builder_core.specs.Tree.{Tree, Calls, Tries}
use Rattle.builder_core.specs.Plan.{Plan, Item, Uses, Holds, EndsAny, plan_of_items, item_layer, plan_layer, plan, item}
use Rattle.builder_core.specs.Plan as plans
use Rattle.builder_core.specs.Build.{Wears, Ends, At, last_end, around, item_part, plan_parts, build, item_size, plan_size, item_height, plan_height}
use Rattle.builder_core.specs.Counts.{steps_in, height, greatest, part, line_size, line_height}
use Rattle.stock_middleware.specs.declared.ware.Ware.{Ware}
use Rattle.builder_core.specs.declared.steps.Steps.{Steps}
use Rattle.builder_core.specs.declared.steps.Line.{Line}
use Rattle.builder_core.specs.declared.steps.Line.TheVariants.{Use, Run, Map, Cascade, rolls-Use, rolls-Run, rolls-Map, rolls-Cascade}
use Rattle.builder_core.specs.declared.steps.Line.TheFolds.{fold_out-Steps, fold-roll-Line}
use Rattle.builder_core.proofs.Sums.{sum-cons}

pub item-use : {E : Type 0} (w : Ware) → item {E = E} (Use w) ≡ Uses w
item-use {E} w = ap (item {E = E}) (sym (rolls-Use w)) ∙ fold-roll-Line E (Item E) (Plan E) item_layer plan_layer _

pub item-run : {E : Type 0} (e : E) → item (Run e) ≡ plans.Ends e
item-run {E} e = ap (item {E = E}) (sym (rolls-Run e)) ∙ fold-roll-Line E (Item E) (Plan E) item_layer plan_layer _

pub item-map : {E : Type 0} (p : List ℕ) (s : Steps E) → item (Map p s) ≡ Holds p (plan s)
item-map {E} p s = ap (item {E = E}) (sym (rolls-Map p s)) ∙ fold-roll-Line E (Item E) (Plan E) item_layer plan_layer _

pub item-cascade : {E : Type 0} (es : Vec E Global) → item (Cascade es) ≡ EndsAny es.items
item-cascade {E} es = ap (item {E = E}) (sym (rolls-Cascade es)) ∙ fold-roll-Line E (Item E) (Plan E) item_layer plan_layer _

pub plan-lines : {E : Type 0} (s : Steps E) → plan s ≡ plan_of_items (map item s.lines.items)
plan-lines {E} s = fold_out-Steps E (Item E) (Plan E) item_layer plan_layer s

parts-items : {E : Type 0} (ls : List (Line E)) → plan_parts E (plan_of_items (map item ls)) ≡ map part ls
parts-items [] = refl
parts-items (l ∷ ls) = ap (λ ps. part l ∷ ps) (parts-items ls)

pub parts-lines : {E : Type 0} (s : Steps E) → plan_parts E (plan s) ≡ map part s.lines.items
parts-lines {E} s = ap (plan_parts E) (plan-lines s) ∙ parts-items s.lines.items

pub build-lines : {E : Type 0} (s : Steps E) (d : Option (Tree E)) → build s d ≡ around E (last_end d (map part s.lines.items)) (map part s.lines.items)
build-lines {E} s d = ap (λ ps. around E (last_end d ps) ps) (parts-lines s)

pub part-use : {E : Type 0} (w : Ware) → part {E = E} (Use w) ≡ Wears w
part-use {E} w = ap (item_part E) (item-use w)

pub part-run : {E : Type 0} (e : E) → part (Run e) ≡ Ends (Calls e)
part-run {E} e = ap (item_part E) (item-run e)

pub part-map : {E : Type 0} (p : List ℕ) (s : Steps E) → part (Map p s) ≡ At p (build s)
part-map {E} p s = ap (item_part E) (item-map p s)

pub part-cascade : {E : Type 0} (es : Vec E Global) → part (Cascade es) ≡ Ends (Tries es.items)
part-cascade {E} es = ap (item_part E) (item-cascade es)

sizes-items : {E : Type 0} (ls : List (Line E)) → plan_size (plan_of_items (map item ls)) ≡ sum (map line_size ls)
sizes-items [] = refl
sizes-items (l ∷ ls) =
    ap (λ n. line_size l + n) (sizes-items ls) ∙ sym (sum-cons (line_size l) (map line_size ls))

pub steps_in-lines : {E : Type 0} (s : Steps E) → steps_in s ≡ sum (map line_size s.lines.items)
steps_in-lines s = ap plan_size (plan-lines s) ∙ sizes-items s.lines.items

pub size-use : (E : Type 0) (w : Ware) → line_size {E = E} (Use w) ≡ 1
size-use E w = ap (item_size {E = E}) (item-use w)

pub size-run : {E : Type 0} (e : E) → line_size (Run e) ≡ 1
size-run e = ap item_size (item-run e)

pub size-map : {E : Type 0} (p : List ℕ) (s : Steps E) → line_size (Map p s) ≡ 1 + steps_in s
size-map p s = ap item_size (item-map p s)

pub size-cascade : {E : Type 0} (es : Vec E Global) → line_size (Cascade es) ≡ 1 + length es.items
size-cascade es = ap item_size (item-cascade es)

heights-items : {E : Type 0} (ls : List (Line E)) → plan_height (plan_of_items (map item ls)) ≡ greatest (map line_height ls)
heights-items [] = refl
heights-items (l ∷ ls) = ap (λ n. max (line_height l) n) (heights-items ls)

pub height-lines : {E : Type 0} (s : Steps E) → height s ≡ greatest (map line_height s.lines.items)
height-lines s = ap plan_height (plan-lines s) ∙ heights-items s.lines.items

pub height-use : (E : Type 0) (w : Ware) → line_height {E = E} (Use w) ≡ 0
height-use E w = ap (item_height {E = E}) (item-use w)

pub height-run : {E : Type 0} (e : E) → line_height (Run e) ≡ 0
height-run e = ap item_height (item-run e)

pub height-map : {E : Type 0} (p : List ℕ) (s : Steps E) → line_height (Map p s) ≡ 1 + height s
height-map p s = ap item_height (item-map p s)

pub height-cascade : {E : Type 0} (es : Vec E Global) → line_height (Cascade es) ≡ 1
height-cascade es = ap item_height (item-cascade es)

-- what a line's size and height are, by its kind
pub ruleset sizes = (steps_in-lines, size-use, size-run, size-map, size-cascade)

pub ruleset heights = (height-use, height-run, height-map, height-cascade)
