use Rattle.std.proofs.Common.{ℕ, List, Option, ap, sym, ◌∙◌, bytes_eq, codes}
use Rattle.rack_types.specs.Env.{get_pair}
use Rattle.rack_types.specs.RuleWords.{if_there}
use Rattle.control_http.proofs.TokenLemmas.{decoded, passed, found}
use Rattle.control_http.proofs.token.is_allowed.Goals as goal

pub loop-name-preserved : goal.loop-name-preserved
loop-name-preserved c =
    c.loop-name.invariant ∙ passed _ _ _ _ c.in-Some.ensures.steps (sym c.in_ok-is_token.ensures ∙ c.if-branch.false)

pub returns-then-branch : goal.returns-then-branch
returns-then-branch c =
    let e = c.loop-name.invariant ∙ found _ _ _ _ c.in-Some.ensures.steps (sym c.in_ok-is_token.ensures ∙ c.if-branch.true) in
    rw e c.is_value.ensures

pub returns : goal.returns
returns c =
    sym (ap (λ (o : Option (List ℕ)). if_there (λ value. bytes_eq value c.args.token.now) o)
    (c.loop-name.invariant ∙ ap (λ (pairs : List (List ℕ × List ℕ)). get_pair (codes "token") (decoded pairs)) c.in-None.ensures.steps.0))
