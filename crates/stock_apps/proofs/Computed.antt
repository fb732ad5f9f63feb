-- The answers of the endpoints at some values, and the rules that `bad` breaks.
use Rattle.std.proofs.Common.{◌≡◌, ℕ, Bool, true, false, List, [], ◌∷◌, ◌++◌, length, Option, Some, None, codes, refl}
use Rattle.std.specs.Fmt.{digits}
use Rattle.httparse.specs.Grammar.{is_token_byte}
use Rattle.hijack_core.specs.declared.stock.Stock.{Stock}
use Rattle.hijack_core.specs.declared.stock.Stock.TheVariants as stock
use Rattle.rack_text.specs.Escaped.{escaped, spelling}
use Rattle.rack_types.specs.declared.answer.Answer.{Answer}
use Rattle.rack_types.specs.declared.answer.Answer.TheVariants.{Reply, Raised, Taken}
use Rattle.rack_types.specs.declared.body.Kind.{Kind}
use Rattle.rack_types.specs.declared.body.Kind.TheVariants.{Enumerable, Streaming}
use Rattle.rack_types.specs.declared.rules.Rule.{Rule}
use Rattle.rack_types.specs.declared.rules.Set.TheVariants.{Server, Full}
use Rattle.rack_types.specs.AnswerRules.{broken_rule, broken_head_rule, broken_taken_rule, rule}
use Rattle.rack_types.specs.Body.{Content}
use Rattle.rack_types.specs.Env.{Pairs}
use Rattle.rack_types.specs.Headers.{HeaderList}
use Rattle.stock_apps.specs.declared.app.App.{App}
use Rattle.stock_apps.specs.declared.app.App.TheVariants.{Text, Echo, Env, Pieces, Stream, Cookies, Bad, Raise, Late, Take, Part}
use Rattle.stock_apps.specs.Answers.{app_answer}
use Rattle.stock_apps.specs.Lines.{pair_lines}

-- `GET /p?q=1` with the fields `Host: h:81`, `X-A: 1` and `x-a: 2`
abbrev asked : Pairs
asked =
    (codes "REQUEST_METHOD", codes "GET") ∷ (codes "SCRIPT_NAME", []) ∷ (codes "PATH_INFO", codes "/p") ∷ (codes "QUERY_STRING", codes "q=1")
    ∷ (codes "SERVER_NAME", codes "h") ∷ (codes "SERVER_PORT", codes "81") ∷ (codes "SERVER_PROTOCOL", codes "HTTP/1.1") ∷ (codes "REMOTE_ADDR", codes "127.0.0.1")
    ∷ (codes "rack.url_scheme", codes "http") ∷ (codes "rack.errors", codes "discard") ∷ (codes "rack.hijack?", codes "true") ∷ (codes "HTTP_HOST", codes "h:81")
    ∷ (codes "HTTP_X_A", codes "1, 2") ∷ []

lines : (pair_lines asked ≡
    codes "REQUEST_METHOD=GET\nSCRIPT_NAME=\\e\nPATH_INFO=/p\nQUERY_STRING=q=1\nSERVER_NAME=h\nSERVER_PORT=81\nSERVER_PROTOCOL=HTTP/1.1\nREMOTE_ADDR=127.0.0.1\n"
    ++ codes "rack.url_scheme=http\nrack.errors=discard\nrack.hijack?=true\nHTTP_HOST=h:81\nHTTP_X_A=1,\\s2\n") × (length (pair_lines asked) ≡ 229) × (pair_lines [] ≡ [])
    × (pair_lines ((codes "a", 10 ∷ 61 ∷ 255 ∷ []) ∷ ([], []) ∷ []) ≡ codes "a=\\n=\\xff\n=\\e\n")
unfolding escaped spelling
lines = (refl, refl, refl, refl)

-- the answer to that request with this input
abbrev of : App → List ℕ → Answer Content Stock
of app input = app_answer app asked input

abbrev reply : ℕ → HeaderList → List (List ℕ) → Bool → Option ℕ → Kind → Answer Content Stock
reply status headers pieces raises known kind =
    Reply status headers (record { pieces = pieces; raises = raises; known = known; kind = kind; sure = true }) None

abbrev plain : HeaderList
plain = (codes "content-type", codes "text/plain" ∷ []) ∷ []

texts : (of (Text 200 (codes "text/plain") (codes "hello")) [] ≡ reply 200 plain (codes "hello" ∷ []) false (Some 5) Enumerable)
    × (of (Text 999 [] []) (codes "hello") ≡ reply 999 ((codes "content-type", [] ∷ []) ∷ []) ([] ∷ []) false (Some 0) Enumerable)
    × (of Echo (codes "hello") ≡ reply 200 plain (codes "hello" ∷ []) false (Some 5) Enumerable)
    × (of Echo [] ≡ reply 200 plain ([] ∷ []) false (Some 0) Enumerable)
    × (of Env (codes "hello") ≡ reply 200 plain (pair_lines asked ∷ []) false (Some (length (pair_lines asked))) Enumerable)
texts = (refl, refl, refl, refl, refl)

many_pieces : (of (Pieces 200 (codes "ab" ∷ [] ∷ codes "c" ∷ [])) [] ≡ reply 200 plain (codes "ab" ∷ [] ∷ codes "c" ∷ []) false None Enumerable)
    × (of (Pieces 404 []) (codes "x") ≡ reply 404 plain [] false None Enumerable)
    × (of (Stream (codes "ab" ∷ codes "c" ∷ [])) [] ≡ reply 200 plain (codes "ab" ∷ codes "c" ∷ []) false None Streaming)
    × (of (Stream []) [] ≡ reply 200 plain [] false None Streaming)
many_pieces = (refl, refl, refl, refl)

others : (of (Cookies (codes "a=1" ∷ codes "b=2" ∷ [])) [] ≡ reply 200 ((codes "set-cookie", codes "a=1" ∷ codes "b=2" ∷ []) ∷ []) [] false (Some 0) Enumerable)
    × (of (Cookies ([] ∷ [])) [] ≡ reply 200 ((codes "set-cookie", [] ∷ []) ∷ []) [] false (Some 0) Enumerable)
    × (of (Cookies []) [] ≡ reply 200 [] [] false (Some 0) Enumerable)
    × (of (Raise (codes "oops")) [] ≡ Raised (codes "oops"))
    × (of (Late 5 (codes "abc" ∷ codes "defg" ∷ []) false) [] ≡ reply 200 ((codes "content-length", codes "5" ∷ []) ∷ []) (codes "abc" ∷ codes "defg" ∷ []) false None Enumerable)
    × (of (Late 3 (codes "ab" ∷ []) true) [] ≡ reply 200 ((codes "content-length", codes "3" ∷ []) ∷ []) (codes "ab" ∷ []) true None Enumerable)
    × (of (Late 1000000 [] true) [] ≡ reply 200 ((codes "content-length", codes "1000000" ∷ []) ∷ []) [] true None Enumerable)
    × (of (Late 0 [] false) [] ≡ reply 200 ((codes "content-length", codes "0" ∷ []) ∷ []) [] false None Enumerable)
unfolding digits
others = (refl, refl, refl, refl, refl, refl, refl, refl)

-- nothing is said but the status, of any value, and who takes the connection over
abbrev nothing : Content
nothing = record { pieces = []; raises = false; known = None; kind = Enumerable; sure = true }

hijacks : (of (Take false) (codes "hello") ≡ Taken stock.Echo) × (of (Take true) [] ≡ Taken stock.Upper)
    × (of (Part 200 false) (codes "hello") ≡ Reply 200 [] nothing (Some stock.Echo)) × (of (Part 101 true) [] ≡ Reply 101 [] nothing (Some stock.Upper))
    × (of (Part 999 true) [] ≡ Reply 999 [] nothing (Some stock.Upper))
hijacks = (refl, refl, refl, refl, refl)

-- an answer with these numbers
abbrev bad : List ℕ → Answer Content Stock
bad numbers = of (Bad numbers) []

abbrev ok : ℕ → HeaderList → Answer Content Stock
ok status headers = reply status headers (codes "ok" ∷ []) false (Some 2) Enumerable

bad_answers : (bad (1 ∷ []) ≡ ok 99 []) × (bad (2 ∷ []) ≡ ok 200 ((codes "a b", codes "x" ∷ []) ∷ [])) × (bad (3 ∷ []) ≡ ok 200 ((codes "status", codes "x" ∷ []) ∷ []))
    × (bad (4 ∷ []) ≡ ok 200 ((codes "X-Upper", codes "x" ∷ []) ∷ [])) × (bad (5 ∷ []) ≡ ok 200 ((codes "x-five", (97 ∷ 1 ∷ []) ∷ []) ∷ []))
    × (bad (6 ∷ []) ≡ ok 204 ((codes "content-type", codes "text/plain" ∷ []) ∷ [])) × (bad (7 ∷ []) ≡ ok 204 ((codes "content-length", codes "2" ∷ []) ∷ []))
    × (bad (8 ∷ []) ≡ ok 200 ((codes "content-length", codes "5x" ∷ []) ∷ [])) × (bad (10 ∷ []) ≡ ok 200 ((codes "content-length", codes "3" ∷ []) ∷ []))
    × (bad [] ≡ ok 200 []) × (bad (9 ∷ []) ≡ ok 200 []) × (bad (0 ∷ 11 ∷ 255 ∷ []) ≡ ok 200 [])
    × (bad (7 ∷ 1 ∷ []) ≡ ok 99 ((codes "content-length", codes "2" ∷ []) ∷ []))
    × (bad (10 ∷ 4 ∷ 8 ∷ 7 ∷ 4 ∷ []) ≡ ok 204 ((codes "content-length", codes "3" ∷ codes "5x" ∷ codes "2" ∷ []) ∷ (codes "X-Upper", codes "x" ∷ codes "x" ∷ []) ∷ []))
bad_answers = (refl, refl, refl, refl, refl, refl, refl, refl, refl, refl, refl, refl, refl, refl)

abbrev L : ℕ → Option Rule
L n = Some (rule n)

rules_broken : (broken_rule Server asked (bad (5 ∷ 4 ∷ [])) ≡ L 4) × (broken_rule Server asked (bad (10 ∷ 10 ∷ [])) ≡ L 8) × (broken_rule Server asked (bad (10 ∷ 6 ∷ [])) ≡ L 6)
    × (broken_rule Server asked (bad (8 ∷ 7 ∷ 6 ∷ 5 ∷ 4 ∷ 3 ∷ 2 ∷ 1 ∷ [])) ≡ L 1) × (broken_rule Server asked (bad (9 ∷ [])) ≡ None) × (broken_rule Server asked (of (Raise (codes "oops")) []) ≡ L 0)
    × (broken_rule Server asked (of (Text 200 (codes "text/plain") (codes "hello")) []) ≡ None) × (broken_rule Server asked (of (Text 204 (codes "text/plain") []) []) ≡ L 6)
    × (broken_rule Full asked (of (Late 5 (codes "abc" ∷ []) true) []) ≡ None)
    × (broken_rule Full asked (of (Take true) []) ≡ None) × (broken_rule Full asked (of (Part 200 false) []) ≡ None) × (broken_rule Full asked (of (Part 99 false) []) ≡ L 1)
    × (broken_rule Server [] (of (Take true) []) ≡ L 9) × (broken_rule Server [] (of (Part 200 false) []) ≡ L 9)
unfolding broken_head_rule broken_taken_rule digits is_token_byte
rules_broken = (refl, refl, refl, refl, refl, refl, refl, refl, refl, refl, refl, refl, refl, refl)
