-- A text is a stack, or breaks one rule first.
use Rattle.std.proofs.Common.{◌≡◌, ℕ, List, None, Some, Result, Ok, Err, sym, ap, ◌∙◌}
use Rattle.stock_apps.specs.declared.app.App.{App}
use Rattle.builder_core.specs.Plan.{Plan}
use Rattle.builder_core.specs.Build.{build_plan}
use Rattle.builder_core.specs.Tree.{Tree}
use Rattle.stack_file.specs.Reads.{reads, IsStack, IsBadAt}
use Rattle.puma_top.specs.Stack.{IsStackOf}

no_fault : (p : Plan App) (a : ℕ × ℕ) (r : Result (Plan App) (ℕ × ℕ)) → r ≡ Ok p → r ≡ Err a → ⊥
no_fault p a r is bad = cc

pub reads_no_rule : (text : List ℕ) (steps : Plan App) (line rule : ℕ) → IsStack text steps → IsBadAt text line rule → ⊥
reads_no_rule text steps line rule is bad = no_fault steps (line, rule) (reads text) is bad

same_fault : (a b : ℕ × ℕ) (r : Result (Plan App) (ℕ × ℕ)) → r ≡ Err a → r ≡ Err b → a ≡ b
same_fault a b r is other = cc

pub one_rule : (text : List ℕ) (line rule l r : ℕ) → IsBadAt text line rule → IsBadAt text l r → (line ≡ l) × (rule ≡ r)
one_rule text line rule l r is other =
    let pair : (line, rule) ≡ (l, r) = same_fault (line, rule) (l, r) (reads text) is other in
    (ap (λ (p : ℕ × ℕ). p.0) pair, ap (λ (p : ℕ × ℕ). p.1) pair)

same_steps : (p q : Plan App) (r : Result (Plan App) (ℕ × ℕ)) → r ≡ Ok p → r ≡ Ok q → p ≡ q
same_steps p q r is other = cc

pub one_stack : (text : List ℕ) (stack other : Tree App) → IsStackOf text stack → IsStackOf text other → stack ≡ other
one_stack text stack other h k =
    let steps : h.steps ≡ k.steps = same_steps h.steps k.steps (reads text) h.reads k.reads in
    let both : Some stack ≡ Some other = sym h.built.tree ∙ ap (λ (p : Plan App). build_plan App p None) steps ∙ k.built.tree in
    cc
