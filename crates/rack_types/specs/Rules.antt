-- The rules of environments, of answers and of bodies, in one place: their words stand in `RuleWords`, E1 to E10
-- in `EnvRules`, L0 to L11 in `AnswerRules`, B1 to B3 in `BodyRules`.
pub use Rattle.rack_types.specs.RuleWords.{has_value, value_or_empty, if_there, begins_with_slash, is_empty, first_broken}
unfoldable pub use Rattle.rack_types.specs.EnvRules.{broken_env_rule, env_rule, breaks_E1, breaks_E2, breaks_E3, breaks_E4, breaks_E5, breaks_E6, breaks_E7, breaks_E8, breaks_E9, breaks_E10}
unfoldable pub use Rattle.rack_types.specs.AnswerRules.{broken_rule, rule, broken_head_rule, broken_taken_rule}
unfoldable pub use Rattle.rack_types.specs.BodyRules.{body_break, body_rule}
pub use Rattle.rack_types.specs.BodyRules.{Break}
