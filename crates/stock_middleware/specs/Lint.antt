-- What Lint answers in the place of the application, which is this project's own.
use Rattle.std.specs.Prelude.{ℕ, List, [], ◌∷◌, ◌++◌, Option, Some, None, option_map, is_some, codes, decimal}
use Rattle.rack_types.specs.declared.answer.Answer.{Answer}
use Rattle.rack_types.specs.declared.answer.Answer.TheVariants.{Reply, Raised, Taken}
use Rattle.rack_types.specs.declared.rules.EnvRule.{EnvRule}
use Rattle.rack_types.specs.declared.rules.Rule.{Rule}
use Rattle.rack_types.specs.declared.rules.Set.TheVariants.{Full}
use Rattle.rack_types.specs.AnswerRules.{broken_rule}
use Rattle.rack_types.specs.Body.{Content}
use Rattle.rack_types.specs.Env.{Pairs}
use Rattle.rack_types.specs.EnvRules.{broken_env_rule}
use Rattle.rack_types.specs.Headers.{HeaderList}
use Rattle.stock_middleware.specs.WareBody.{no_body}

-- how the rules are named
abbrev pub env_rule_name : EnvRule → List ℕ
env_rule_name r = codes "E" ++ decimal r.0

abbrev pub rule_name : Rule → List ℕ
rule_name r = codes "L" ++ decimal r.0

-- the headers that name a rule
abbrev pub naming : List ℕ → HeaderList
naming name = (codes "x-lint", name ∷ []) ∷ (codes "content-length", codes "0" ∷ []) ∷ []

-- the answer that names a rule
abbrev pub names_rule : {H : Type 0} → List ℕ → Answer Content H
names_rule name = Reply 500 (naming name) no_body None

-- the answer where the environment breaks a rule, none where it keeps all
abbrev pub env_refusal : {H : Type 0} → Pairs → Option (Answer Content H)
env_refusal ps = option_map (λ r. names_rule (env_rule_name r)) (broken_env_rule ps)

-- the answer, or in its place the one that names the rule which it breaks
abbrev pub unless_broken : {H : Type 0} → Option Rule → Answer Content H → Answer Content H
unless_broken None answer = answer
unless_broken (Some r) answer = names_rule (rule_name r)

-- what becomes of an answer by the full set of rules. One that was raised passes: L0 is the server's to say
abbrev pub linted : {H : Type 0} → Pairs → Answer Content H → Answer Content H
linted ps (Reply status headers body part) =
    unless_broken (broken_rule Full ps (Reply status headers body part)) (Reply status headers body part)
linted ps (Raised text) = Raised text
linted ps (Taken hijacker) = unless_broken (broken_rule Full ps (Taken hijacker)) (Taken hijacker)
