-- What is written of a line, by its kind, and of the lines that are left.
use Rattle.std.proofs.Common.{◌≡◌, ℕ, suc, zero, ◌+◌, ◌<◌, ◌≤◌, List, [], ◌∷◌, ◌++◌, map, length, drop, get_or, drop-cons, refl, sym, ap, ◌∙◌, add-one, append_assoc, arith}
use Rattle.std.proofs.lemmas.List.{append-nil}
use Rattle.builder_core.specs.Plan.{plan_of_items, plan, item}
use Rattle.builder_core.specs.declared.steps.Steps.{Steps}
use Rattle.builder_core.specs.declared.steps.Line.{Line}
use Rattle.builder_core.proofs.CallerLemmas.{item-use, item-run, item-map, item-cascade, plan-lines}
use Rattle.stock_apps.specs.declared.app.App.{App}
use Rattle.stack_file.specs.Canon.{item_text, plan_text}

pub ruleset kinds = (item-use, item-run, item-map, item-cascade, append_assoc)

-- what is written of lines
abbrev pub lines_text : List (Line App) → List ℕ → List ℕ
lines_text [] margin = []
lines_text (l ∷ ls) margin = item_text (item l) margin ++ lines_text ls margin

lines-text : (ls : List (Line App)) (margin : List ℕ) → plan_text (plan_of_items (map item ls)) margin ≡ lines_text ls margin
lines-text [] margin = refl
lines-text (l ∷ ls) margin = ap (λ t. item_text (item l) margin ++ t) (lines-text ls margin)

pub plan-text : (s : Steps App) (margin : List ℕ) → plan_text (plan s) margin ≡ lines_text s.lines.items margin
plan-text s margin = ap (λ p. plan_text p margin) (plan-lines s) ∙ lines-text s.lines.items margin

text_end : (ls : List (Line App)) (i : ℕ) (margin : List ℕ) → length ls ≤ i → lines_text (drop i ls) margin ≡ []
text_end [] zero margin h = refl
text_end [] (suc i) margin h = refl
text_end (l ∷ ls) zero margin h = absurd (omega arith)
text_end (l ∷ ls) (suc i) margin h = text_end ls i margin (omega arith)

-- all lines are written
pub finished : (out old : List ℕ) (s : Steps App) (i : ℕ) (margin : List ℕ) → length s.lines.items ≤ i → out ++ lines_text (drop i s.lines.items) margin ≡ old ++ lines_text s.lines.items margin → out ≡ old ++ plan_text (plan s) margin
finished out old s i margin past h =
    sym (append-nil out)
    ∙ ap (λ t. out ++ t) (sym (text_end s.lines.items i margin past))
    ∙ h
    ∙ ap (λ t. old ++ t) (sym (plan-text s margin))
