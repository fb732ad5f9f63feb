-- What the endpoint `bad` is for.
use Rattle.std.specs.Prelude.{◌≡◌, ℕ, List, [], ◌∷◌, Some}
use Rattle.rack_types.specs.declared.rules.Set.TheVariants.{Server}
use Rattle.rack_types.specs.AnswerRules.{broken_rule, rule}
use Rattle.rack_types.specs.Env.{Pairs}
use Rattle.stock_apps.specs.declared.app.App.TheVariants.{Bad}
use Rattle.stock_apps.specs.Answers.{app_answer}

-- of the rules that the server looks at, the one with this number is the least that the answer of `bad` with it breaks
abbrev pub BreaksIts : ℕ → Pairs → List ℕ → Type 0
BreaksIts n pairs input = broken_rule Server pairs (app_answer (Bad (n ∷ [])) pairs input) ≡ Some (rule n)
