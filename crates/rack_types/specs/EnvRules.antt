-- The rules that an environment keeps (after the Rack SPEC; numbers, order and wording are this
-- project's own). Each rule is a test that is true where it is broken.
use Rattle.std.specs.Prelude.{ℕ, Bool, not, ◌&&◌, ◌||◌, List, [], ◌∷◌, Option, is_some, codes, bytes_eq}
use Rattle.httparse.specs.Grammar.{is_token}
use Rattle.rack_text.specs.Decimal.{is_decimal}
use Rattle.rack_types.specs.declared.rules.EnvRule.{EnvRule}
use Rattle.rack_types.specs.Env.{Pairs, get_pair}
use Rattle.rack_types.specs.RuleWords.{has_value, value_or_empty, if_there, begins_with_slash, is_empty, first_broken}

-- E1: the method is not there or is no token
abbrev pub breaks_E1 : Pairs → Bool
breaks_E1 env = not (if_there is_token (get_pair (codes "REQUEST_METHOD") env))

-- E2: the server's name is not there or is empty
abbrev pub breaks_E2 : Pairs → Bool
breaks_E2 env = is_empty (value_or_empty (codes "SERVER_NAME") env)

-- E3: the query is not there
abbrev pub breaks_E3 : Pairs → Bool
breaks_E3 env = not (is_some (get_pair (codes "QUERY_STRING") env))

-- E4: the protocol is neither HTTP/1.0 nor HTTP/1.1
abbrev pub breaks_E4 : Pairs → Bool
breaks_E4 env = not (has_value (codes "SERVER_PROTOCOL") (codes "HTTP/1.0") env || has_value (codes "SERVER_PROTOCOL") (codes "HTTP/1.1") env)

-- E5: the scheme is neither http nor https
abbrev pub breaks_E5 : Pairs → Bool
breaks_E5 env = not (has_value (codes "rack.url_scheme") (codes "http") env || has_value (codes "rack.url_scheme") (codes "https") env)

-- E6: `rack.errors` is not there
abbrev pub breaks_E6 : Pairs → Bool
breaks_E6 env = not (is_some (get_pair (codes "rack.errors") env))

-- E7: SCRIPT_NAME is there, is not empty, and does not begin with `/` or is `/` alone
abbrev pub is_bad_script : List ℕ → Bool
is_bad_script name = not (is_empty name) && (not (begins_with_slash name) || bytes_eq name (codes "/"))

abbrev pub breaks_E7 : Pairs → Bool
breaks_E7 env = if_there is_bad_script (get_pair (codes "SCRIPT_NAME") env)

-- E8: PATH_INFO is not empty and does not begin with `/`, unless it is `*` and the method is OPTIONS;
-- or SCRIPT_NAME and PATH_INFO are both empty or not there
abbrev pub is_bad_path : List ℕ → Pairs → Bool
is_bad_path path env =
    not (is_empty path) && not (begins_with_slash path)
    && not (bytes_eq path (codes "*") && has_value (codes "REQUEST_METHOD") (codes "OPTIONS") env)

abbrev pub breaks_E8 : Pairs → Bool
breaks_E8 env =
    is_bad_path (value_or_empty (codes "PATH_INFO") env) env
    || (is_empty (value_or_empty (codes "SCRIPT_NAME") env) && is_empty (value_or_empty (codes "PATH_INFO") env))

-- E9: HTTP_CONTENT_TYPE or HTTP_CONTENT_LENGTH is there
abbrev pub breaks_E9 : Pairs → Bool
breaks_E9 env = is_some (get_pair (codes "HTTP_CONTENT_TYPE") env) || is_some (get_pair (codes "HTTP_CONTENT_LENGTH") env)

-- E10: CONTENT_LENGTH is there and is not one or more digits
abbrev pub breaks_E10 : Pairs → Bool
breaks_E10 env = if_there (λ value. not (is_decimal value)) (get_pair (codes "CONTENT_LENGTH") env)

-- the rule with this number
abbrev pub env_rule : ℕ → EnvRule
env_rule n = record { 0 = n }

-- the least rule E that the environment breaks, none where it keeps all
unfoldable pub broken_env_rule : Pairs → Option EnvRule
broken_env_rule env = first_broken (
    (env_rule 1, breaks_E1 env) ∷ (env_rule 2, breaks_E2 env) ∷ (env_rule 3, breaks_E3 env) ∷ (env_rule 4, breaks_E4 env)
    ∷ (env_rule 5, breaks_E5 env) ∷ (env_rule 6, breaks_E6 env) ∷ (env_rule 7, breaks_E7 env) ∷ (env_rule 8, breaks_E8 env)
    ∷ (env_rule 9, breaks_E9 env) ∷ (env_rule 10, breaks_E10 env) ∷ [])
