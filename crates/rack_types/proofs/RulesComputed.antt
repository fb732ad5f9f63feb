-- The rules at some values: each alone, at its boundary and just inside it, and which of two comes first.
use Rattle.std.proofs.Common.{◌≡◌, ℕ, true, false, [], ◌∷◌, List, None, Some, Option, codes, refl}
use Rattle.httparse.specs.Grammar.{is_token_byte}
use Rattle.rack_types.specs.declared.answer.Answer.{Answer}
use Rattle.rack_types.specs.declared.answer.Answer.TheVariants.{Reply, Raised, Taken}
use Rattle.rack_types.specs.declared.body.Kind.TheVariants.{Enumerable}
use Rattle.rack_types.specs.declared.rules.EnvRule.{EnvRule}
use Rattle.rack_types.specs.declared.rules.Rule.{Rule}
use Rattle.rack_types.specs.declared.rules.Set.TheVariants.{Server, Full}
use Rattle.rack_types.specs.AnswerRules.{broken_rule, broken_head_rule, broken_taken_rule, rule}
use Rattle.rack_types.specs.Body.{Content}
use Rattle.rack_types.specs.BodyRules.{Break, body_break, body_rule}
use Rattle.rack_types.specs.Env.{Pairs, set_pair, remove_pair}
use Rattle.rack_types.specs.EnvRules.{broken_env_rule, env_rule}
use Rattle.rack_types.specs.Headers.{HeaderList}
use Rattle.rack_types.specs.Plain.{plain_content}

-- an environment that keeps all rules
abbrev good : Pairs
good = (codes "REQUEST_METHOD", codes "GET") ∷ (codes "SCRIPT_NAME", []) ∷ (codes "PATH_INFO", codes "/p") ∷ (codes "QUERY_STRING", [])
    ∷ (codes "SERVER_NAME", codes "h") ∷ (codes "SERVER_PROTOCOL", codes "HTTP/1.1") ∷ (codes "rack.url_scheme", codes "http")
    ∷ (codes "rack.errors", codes "discard") ∷ (codes "rack.hijack?", codes "true") ∷ []

-- the rule that it breaks with another value, and without a name
abbrev with_value : List ℕ → List ℕ → Option EnvRule
with_value name value = broken_env_rule (set_pair name value good)

abbrev without : List ℕ → Option EnvRule
without name = broken_env_rule (remove_pair name good)

abbrev E : ℕ → Option EnvRule
E n = Some (env_rule n)

environments : (broken_env_rule good ≡ None) × (without (codes "REQUEST_METHOD") ≡ E 1) × (with_value (codes "REQUEST_METHOD") [] ≡ E 1) × (with_value (codes "REQUEST_METHOD") (codes "G T") ≡ E 1)
    × (without (codes "SERVER_NAME") ≡ E 2) × (with_value (codes "SERVER_NAME") [] ≡ E 2) × (without (codes "QUERY_STRING") ≡ E 3)
    × (without (codes "SERVER_PROTOCOL") ≡ E 4) × (with_value (codes "SERVER_PROTOCOL") (codes "HTTP/2") ≡ E 4) × (with_value (codes "SERVER_PROTOCOL") (codes "HTTP/1.0") ≡ None)
    × (without (codes "rack.url_scheme") ≡ E 5) × (with_value (codes "rack.url_scheme") (codes "HTTP") ≡ E 5) × (with_value (codes "rack.url_scheme") (codes "https") ≡ None)
    × (without (codes "rack.errors") ≡ E 6) × (with_value (codes "rack.errors") [] ≡ None)
unfolding broken_env_rule is_token_byte
environments = (refl, refl, refl, refl, refl, refl, refl, refl, refl, refl, refl, refl, refl, refl, refl)

paths : (without (codes "SCRIPT_NAME") ≡ None) × (with_value (codes "SCRIPT_NAME") (codes "/a") ≡ None) × (with_value (codes "SCRIPT_NAME") (codes "/") ≡ E 7) × (with_value (codes "SCRIPT_NAME") (codes "a") ≡ E 7)
    × (with_value (codes "PATH_INFO") (codes "p") ≡ E 8) × (with_value (codes "PATH_INFO") [] ≡ E 8) × (without (codes "PATH_INFO") ≡ E 8)
    × (broken_env_rule (set_pair (codes "SCRIPT_NAME") (codes "/a") (remove_pair (codes "PATH_INFO") good)) ≡ None)
    × (with_value (codes "PATH_INFO") (codes "*") ≡ E 8) × (broken_env_rule (set_pair (codes "REQUEST_METHOD") (codes "OPTIONS") (set_pair (codes "PATH_INFO") (codes "*") good)) ≡ None)
    × (with_value (codes "HTTP_CONTENT_TYPE") [] ≡ E 9) × (with_value (codes "HTTP_CONTENT_LENGTH") (codes "1") ≡ E 9)
    × (with_value (codes "CONTENT_LENGTH") [] ≡ E 10) × (with_value (codes "CONTENT_LENGTH") (codes "-1") ≡ E 10) × (with_value (codes "CONTENT_LENGTH") (codes "0002") ≡ None)
unfolding broken_env_rule is_token_byte
paths = (refl, refl, refl, refl, refl, refl, refl, refl, refl, refl, refl, refl, refl, refl, refl)

-- the rule that a reply of GET breaks
abbrev at : ℕ → HeaderList → Option ℕ → Option Rule
at status headers known = broken_head_rule Full good status headers known false

-- with one header of one value
abbrev header : List ℕ → List ℕ → HeaderList
header name value = (name, value ∷ []) ∷ []

abbrev L : ℕ → Option Rule
L n = Some (rule n)

statuses : (at 99 [] None ≡ L 1) × (at 100 [] None ≡ None) × (at 999 [] None ≡ None) × (at 1000 [] None ≡ L 1) × (at 0 [] None ≡ L 1) × (at 4294967295 [] None ≡ L 1)
unfolding broken_head_rule
statuses = (refl, refl, refl, refl, refl, refl)

names_and_values : (at 200 (header (codes "x-a") (codes "b c~")) None ≡ None) × (at 200 (header [] []) None ≡ L 2) × (at 200 (header (codes "x:") []) None ≡ L 2)
    × (at 200 (header (codes "status") []) None ≡ L 3) × (at 200 (header (codes "statuses") []) None ≡ None) × (at 200 (header (codes "STATUS") []) None ≡ L 4)
    × (at 200 (header (codes "x-A") []) None ≡ L 4) × (at 200 (header (codes "x-Z") []) None ≡ L 4) × (at 200 (header (codes "x`^") []) None ≡ None)
    × (at 200 (header (codes "x") (31 ∷ [])) None ≡ L 5) × (at 200 (header (codes "x") (32 ∷ [])) None ≡ None) × (at 200 (header (codes "x") (9 ∷ [])) None ≡ L 5)
    × (at 200 (header (codes "x") (126 ∷ [])) None ≡ None) × (at 200 (header (codes "x") (127 ∷ [])) None ≡ L 5) × (at 200 (header (codes "x") (128 ∷ 255 ∷ [])) None ≡ None)
    × (at 200 ((codes "x", [] ∷ (0 ∷ []) ∷ []) ∷ []) None ≡ L 5)
unfolding broken_head_rule is_token_byte
names_and_values = (refl, refl, refl, refl, refl, refl, refl, refl, refl, refl, refl, refl, refl, refl, refl, refl)

bare_statuses : (at 199 (header (codes "content-type") []) None ≡ L 6) × (at 200 (header (codes "content-type") []) None ≡ None) × (at 204 (header (codes "content-type") []) None ≡ L 6)
    × (at 205 (header (codes "content-type") []) None ≡ None) × (at 304 (header (codes "content-type") []) None ≡ L 6)
    × (at 100 (header (codes "content-length") (codes "0")) None ≡ L 7) × (at 304 (header (codes "content-length") (codes "0")) None ≡ L 7) × (at 303 (header (codes "content-length") (codes "0")) None ≡ None)
    × (at 204 ((codes "content-length", codes "x" ∷ []) ∷ (codes "content-type", [] ∷ []) ∷ []) None ≡ L 6)
unfolding broken_head_rule is_token_byte
bare_statuses = (refl, refl, refl, refl, refl, refl, refl, refl, refl)

-- with this `content-length`, beside a known length
abbrev stated : List ℕ → Option ℕ → Option Rule
stated value known = at 200 (header (codes "content-length") value) known

lengths : (stated (codes "18446744073709551615") None ≡ None) × (stated (codes "18446744073709551616") None ≡ L 8) × (stated [] None ≡ L 8) × (stated (codes "+1") None ≡ L 8)
    × (stated (codes "0000000000000000000000005") (Some 5) ≡ None) × (stated (codes "5") (Some 6) ≡ L 10) × (stated (codes "5") None ≡ None)
    × (at 200 ((codes "content-length", codes "5" ∷ codes "5" ∷ []) ∷ []) None ≡ L 8) × (at 200 ((codes "content-length", []) ∷ []) None ≡ L 8)
unfolding broken_head_rule is_token_byte
lengths = (refl, refl, refl, refl, refl, refl, refl, refl, refl)

-- the environment with another method, and without `rack.hijack?`
abbrev of_head : Pairs
of_head = set_pair (codes "REQUEST_METHOD") (codes "HEAD") good

abbrev no_hijack : Pairs
no_hijack = set_pair (codes "rack.hijack?") (codes "false") good

hijacks_and_head : (broken_head_rule Server good 101 [] None true ≡ None) × (broken_head_rule Server no_hijack 101 [] None true ≡ L 9) × (broken_head_rule Server no_hijack 101 [] None false ≡ None)
    × (broken_taken_rule good ≡ None) × (broken_taken_rule no_hijack ≡ L 9) × (broken_taken_rule [] ≡ L 9)
    × (broken_head_rule Full of_head 200 (header (codes "content-length") (codes "5")) (Some 6) false ≡ L 11)
    × (broken_head_rule Server of_head 200 (header (codes "content-length") (codes "5")) (Some 6) false ≡ None)
    × (broken_head_rule Full of_head 200 [] (Some 0) false ≡ None) × (broken_head_rule Full of_head 200 [] None false ≡ None)
unfolding broken_head_rule broken_taken_rule is_token_byte
hijacks_and_head = (refl, refl, refl, refl, refl, refl, refl, refl, refl, refl)

-- without two names, of which the lesser rule is named
abbrev without_both : List ℕ → List ℕ → Option EnvRule
without_both name other = broken_env_rule (remove_pair name (remove_pair other good))

pairs_of_environments : (without_both (codes "REQUEST_METHOD") (codes "SERVER_NAME") ≡ E 1) × (without_both (codes "SERVER_NAME") (codes "QUERY_STRING") ≡ E 2) × (without_both (codes "QUERY_STRING") (codes "SERVER_PROTOCOL") ≡ E 3)
    × (without_both (codes "SERVER_PROTOCOL") (codes "rack.url_scheme") ≡ E 4) × (without_both (codes "rack.url_scheme") (codes "rack.errors") ≡ E 5) × (without_both (codes "rack.errors") (codes "PATH_INFO") ≡ E 6)
    × (broken_env_rule (set_pair (codes "SCRIPT_NAME") (codes "/") (set_pair (codes "PATH_INFO") (codes "p") good)) ≡ E 7)
    × (broken_env_rule (set_pair (codes "PATH_INFO") (codes "p") (set_pair (codes "HTTP_CONTENT_TYPE") [] good)) ≡ E 8)
    × (broken_env_rule (set_pair (codes "HTTP_CONTENT_TYPE") [] (set_pair (codes "CONTENT_LENGTH") [] good)) ≡ E 9)
unfolding broken_env_rule is_token_byte
pairs_of_environments = (refl, refl, refl, refl, refl, refl, refl, refl, refl)

pairs_of_replies : (at 99 (header (codes "x y") []) None ≡ L 1) × (at 200 (header (codes "X y") []) None ≡ L 2) × (at 200 ((codes "status", []) ∷ (codes "x y", []) ∷ []) None ≡ L 2)
    × (at 200 ((codes "X", []) ∷ (codes "status", []) ∷ []) None ≡ L 3) × (at 200 (header (codes "status") (10 ∷ [])) None ≡ L 3) × (at 200 (header (codes "X") (10 ∷ [])) None ≡ L 4)
    × (at 204 (header (codes "content-type") (10 ∷ [])) None ≡ L 5) × (at 204 ((codes "content-length", []) ∷ (codes "content-type", []) ∷ []) None ≡ L 6) × (at 204 ((codes "content-length", []) ∷ []) None ≡ L 7)
    × (broken_head_rule Server no_hijack 200 (header (codes "content-length") (codes "x")) None true ≡ L 8) × (broken_head_rule Server no_hijack 200 (header (codes "content-length") (codes "5")) (Some 4) true ≡ L 9)
    × (broken_head_rule Full (set_pair (codes "rack.hijack?") [] of_head) 200 [] (Some 4) true ≡ L 9)
unfolding broken_head_rule is_token_byte
pairs_of_replies = (refl, refl, refl, refl, refl, refl, refl, refl, refl, refl, refl, refl)

-- an answer whose body has five bytes
abbrev five : ℕ → HeaderList → Answer Content ℕ
five status headers = Reply status headers (plain_content (codes "hel" ∷ codes "lo" ∷ []) false true Enumerable) None

-- one that breaks L1, L4, L5 and L9
abbrev hijack : Answer Content ℕ
hijack = Reply 99 (header (codes "Status") (0 ∷ [])) (plain_content [] false true Enumerable) (Some 7)

answers : (broken_rule Server good (five 200 (header (codes "content-length") (codes "5"))) ≡ None) × (broken_rule Server good (five 200 (header (codes "content-length") (codes "4"))) ≡ L 10)
    × (broken_rule {H = ℕ} Server good (Raised (codes "why")) ≡ L 0) × (broken_rule {H = ℕ} Server no_hijack (Taken 7) ≡ L 9) × (broken_rule {H = ℕ} Full good (Taken 7) ≡ None)
    × (broken_rule Server no_hijack hijack ≡ L 1)
unfolding broken_head_rule broken_taken_rule is_token_byte
answers = (refl, refl, refl, refl, refl, refl)

-- a break at this place
abbrev B : ℕ → ℕ → Option Break
B n place = Some (record { place = place; rule = body_rule n })

abbrev hello : List (List ℕ)
hello = codes "hel" ∷ codes "lo" ∷ []

bodies : (body_break (Some 5) hello false ≡ None) × (body_break (Some 4) hello false ≡ B 1 1) × (body_break (Some 2) hello true ≡ B 1 0) × (body_break (Some 6) hello false ≡ B 2 2)
    × (body_break (Some 6) hello true ≡ B 3 2) × (body_break (Some 5) hello true ≡ B 3 2) × (body_break None hello false ≡ None) × (body_break None hello true ≡ B 3 2)
    × (body_break (Some 0) ([] ∷ []) false ≡ None) × (body_break (Some 0) (codes "h" ∷ []) false ≡ B 1 0) × (body_break (Some 1) [] false ≡ B 2 0) × (body_break None [] true ≡ B 3 0)
unfolding body_break
bodies = (refl, refl, refl, refl, refl, refl, refl, refl, refl, refl, refl, refl)
