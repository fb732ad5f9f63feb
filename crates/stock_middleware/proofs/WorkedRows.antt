-- The tables of the middleware worked out by computation: each rule alone, at its edges.
use Rattle.std.proofs.Common.{◌≡◌, ℕ, true, false, List, [], ◌∷◌, Option, Some, None, codes, refl}
use Rattle.std.specs.Fmt.{digits}
use Rattle.httparse.specs.Grammar.{is_token_byte, trim_ows}
use Rattle.form_urlencoded.proofs.OnLiterals.{form_urlencoded_on_literals}
use Rattle.rack_types.specs.declared.answer.Answer.{Answer}
use Rattle.rack_types.specs.declared.answer.Answer.TheVariants.{Reply, Raised, Taken}
use Rattle.rack_types.specs.declared.body.Kind.TheVariants.{Enumerable}
use Rattle.rack_types.specs.AnswerRules.{broken_head_rule, broken_taken_rule}
use Rattle.rack_types.specs.Body.{Content}
use Rattle.rack_types.specs.Env.{Pairs, set_pair, remove_pair}
use Rattle.rack_types.specs.EnvRules.{broken_env_rule}
use Rattle.rack_types.specs.Headers.{HeaderList}
use Rattle.stock_middleware.specs.declared.ware.Ware.{Ware}
use Rattle.stock_middleware.specs.declared.ware.Ware.TheVariants.{Head, ContentLength, ContentType, MethodOverride, SetHeader, Lint}
use Rattle.stock_middleware.specs.Lint.{names_rule}
use Rattle.stock_middleware.specs.Override.{asked_in_form, is_form_type, new_method, verb_of}
use Rattle.stock_middleware.specs.WareBody.{no_body}
use Rattle.stock_middleware.specs.Wares.{after, before, refusal}

-- a POST whose header asks for PUT, and which keeps all rules
abbrev post : Pairs
post = (codes "REQUEST_METHOD", codes "POST") ∷ (codes "PATH_INFO", codes "/") ∷ (codes "QUERY_STRING", []) ∷ (codes "SERVER_NAME", codes "a")
    ∷ (codes "SERVER_PROTOCOL", codes "HTTP/1.1") ∷ (codes "rack.url_scheme", codes "http") ∷ (codes "rack.errors", codes "discard")
    ∷ (codes "rack.hijack?", codes "true") ∷ (codes "HTTP_X_HTTP_METHOD_OVERRIDE", codes "put") ∷ []

-- the same with a form
abbrev form : Pairs
form = set_pair (codes "CONTENT_TYPE") (codes "application/x-www-form-urlencoded") post

-- the same by HEAD
abbrev head : Pairs
head = set_pair (codes "REQUEST_METHOD") (codes "HEAD") post

verbs : (verb_of (codes "get") ≡ Some (codes "GET")) × (verb_of (codes "HEAD") ≡ Some (codes "HEAD")) × (verb_of (codes "pUt") ≡ Some (codes "PUT")) × (verb_of (codes "post") ≡ Some (codes "POST"))
    × (verb_of (codes "delete") ≡ Some (codes "DELETE")) × (verb_of (codes "options") ≡ Some (codes "OPTIONS")) × (verb_of (codes "patch") ≡ Some (codes "PATCH")) × (verb_of (codes "link") ≡ Some (codes "LINK"))
    × (verb_of (codes "unlink") ≡ Some (codes "UNLINK")) × (verb_of (codes "brew") ≡ None) × (verb_of (codes "put ") ≡ None) × (verb_of [] ≡ None) × (verb_of (codes "trace") ≡ None) × (verb_of (codes "connect") ≡ None)
verbs = (refl, refl, refl, refl, refl, refl, refl, refl, refl, refl, refl, refl, refl, refl)

types : (is_form_type (codes "application/x-www-form-urlencoded") ≡ true) × (is_form_type (codes " \tApplication/X-WWW-Form-URLencoded\t ;q=1;r") ≡ true)
    × (is_form_type (codes "application/x-www-form-urlencodedx") ≡ false) × (is_form_type (codes "text/plain") ≡ false) × (is_form_type (codes ";application/x-www-form-urlencoded") ≡ false)
    × (is_form_type (codes "application/x-www-form-urlencoded, application/x-www-form-urlencoded") ≡ false) × (is_form_type [] ≡ false)
unfolding trim_ows
types = (refl, refl, refl, refl, refl, refl, refl)

forms : (asked_in_form (codes "_method=get&a=b&_method=head&c") ≡ Some (codes "head")) × (asked_in_form (codes "a=_method") ≡ None) × (asked_in_form (codes "_method=p+ut") ≡ Some (codes "p ut"))
    × (asked_in_form (codes "%5fmethod=%50%55t") ≡ Some (codes "PUt")) × (asked_in_form (codes "_method=%5") ≡ Some (codes "%5")) × (asked_in_form (codes "_method=%2B+") ≡ Some (codes "+ ")) × (asked_in_form (codes "_method") ≡ Some [])
    × (asked_in_form (codes "_method=a=b") ≡ Some (codes "a=b")) × (asked_in_form (codes "_METHOD=put") ≡ None) × (asked_in_form (codes "+_method=put") ≡ None) × (asked_in_form (codes "&&_method=put&") ≡ Some (codes "put"))
    × (asked_in_form [] ≡ None)
unfolding form_urlencoded_on_literals
forms = (refl, refl, refl, refl, refl, refl, refl, refl, refl, refl, refl, refl)

-- the form goes first, and where it has such a pair the header isn't asked
methods : (new_method post (codes "_method=delete") ≡ Some (codes "PUT")) × (new_method form (codes "_method=delete") ≡ Some (codes "DELETE")) × (new_method form (codes "a=b") ≡ Some (codes "PUT"))
    × (new_method form (codes "_method=brew") ≡ None) × (new_method form (codes "_method=get&_method=p+ut") ≡ None) × (new_method form (codes "_method=%50ost") ≡ Some (codes "POST")) × (new_method head [] ≡ None)
    × (new_method (remove_pair (codes "HTTP_X_HTTP_METHOD_OVERRIDE") post) [] ≡ None) × (new_method (set_pair (codes "REQUEST_METHOD") (codes "post") post) [] ≡ None)
unfolding trim_ows form_urlencoded_on_literals
methods = (refl, refl, refl, refl, refl, refl, refl, refl, refl)

-- a former method that is there keeps its place
pairs : (before MethodOverride ((codes "REQUEST_METHOD", codes "POST") ∷ (codes "HTTP_X_HTTP_METHOD_OVERRIDE", codes "put") ∷ []) []
    ≡ (codes "REQUEST_METHOD", codes "PUT") ∷ (codes "HTTP_X_HTTP_METHOD_OVERRIDE", codes "put") ∷ (codes "rack.methodoverride.original_method", codes "POST") ∷ [])
    × (before MethodOverride ((codes "rack.methodoverride.original_method", codes "x") ∷ (codes "REQUEST_METHOD", codes "POST") ∷ (codes "HTTP_X_HTTP_METHOD_OVERRIDE", codes "put") ∷ []) []
    ≡ (codes "rack.methodoverride.original_method", codes "POST") ∷ (codes "REQUEST_METHOD", codes "PUT") ∷ (codes "HTTP_X_HTTP_METHOD_OVERRIDE", codes "put") ∷ [])
    × (before MethodOverride head [] ≡ head)
pairs = (refl, refl, refl)

-- a body of five bytes
abbrev hello : Option ℕ → Content
hello known = record { pieces = codes "hello" ∷ []; raises = false; known = known; kind = Enumerable; sure = true }

abbrev etag : HeaderList
etag = (codes "etag", codes "x" ∷ []) ∷ []

-- a reply with one header, and such a body
abbrev reply : ℕ → Option ℕ → Answer Content ℕ
reply status known = Reply status etag (hello known) (Some 7)

abbrev reply_with : ℕ → HeaderList → Option ℕ → Answer Content ℕ
reply_with status headers known = Reply status headers (hello known) (Some 7)

heads : (after Head head (reply 200 (Some 5)) ≡ Reply 200 etag no_body (Some 7)) × (after Head head (reply 204 None) ≡ Reply 204 etag no_body (Some 7)) × (after Head post (reply 200 None) ≡ reply 200 None)
heads = (refl, refl, refl)

abbrev of_length : List ℕ → HeaderList
of_length n = (codes "etag", codes "x" ∷ []) ∷ (codes "content-length", n ∷ []) ∷ []

abbrev coded : HeaderList
coded = (codes "transfer-encoding", codes "x" ∷ []) ∷ []

lengths : (after ContentLength post (reply 200 (Some 5)) ≡ reply_with 200 (of_length (codes "5")) (Some 5)) × (after ContentLength post (reply 200 (Some 0)) ≡ reply_with 200 (of_length (codes "0")) (Some 0))
    × (after ContentLength post (reply 200 None) ≡ reply 200 None) × (after ContentLength post (reply 99 (Some 5)) ≡ reply_with 99 (of_length (codes "5")) (Some 5)) × (after ContentLength post (reply 100 (Some 5)) ≡ reply 100 (Some 5))
    × (after ContentLength post (reply 199 (Some 5)) ≡ reply 199 (Some 5)) × (after ContentLength post (reply 204 (Some 5)) ≡ reply 204 (Some 5)) × (after ContentLength post (reply 304 (Some 5)) ≡ reply 304 (Some 5))
    × (after ContentLength post (reply_with 200 (of_length (codes "9")) (Some 5)) ≡ reply_with 200 (of_length (codes "9")) (Some 5)) × (after ContentLength post (reply_with 200 coded (Some 5)) ≡ reply_with 200 coded (Some 5))
unfolding digits
lengths = (refl, refl, refl, refl, refl, refl, refl, refl, refl, refl)

abbrev of_type : List ℕ → HeaderList
of_type kind = (codes "etag", codes "x" ∷ []) ∷ (codes "content-type", kind ∷ []) ∷ []

kinds : (after (ContentType (codes "text/html")) post (reply 200 None) ≡ reply_with 200 (of_type (codes "text/html")) None) × (after (ContentType (codes "text/html")) post (reply 204 None) ≡ reply 204 None)
    × (after (ContentType (codes "text/html")) post (reply_with 200 (of_type (codes "a/b")) None) ≡ reply_with 200 (of_type (codes "a/b")) None)
kinds = (refl, refl, refl)

abbrev three : List (List ℕ) → HeaderList
three values = (codes "a", codes "1" ∷ []) ∷ (codes "b", values) ∷ (codes "c", codes "3" ∷ []) ∷ []

-- over a name that is there, with two values, and a new one
headers : (after (SetHeader (codes "b") (codes "new")) post (reply_with 204 (three (codes "2" ∷ codes "4" ∷ [])) None) ≡ reply_with 204 (three (codes "new" ∷ [])) None)
    × (after (SetHeader (codes "b") (codes "new")) post (reply 200 None) ≡ reply_with 200 ((codes "etag", codes "x" ∷ []) ∷ (codes "b", codes "new" ∷ []) ∷ []) None)
headers = (refl, refl)

abbrev no_hijack : Pairs
no_hijack = set_pair (codes "rack.hijack?") (codes "false") post

lints : (after Lint post (reply 200 (Some 5)) ≡ reply 200 (Some 5)) × (after Lint head (reply 200 (Some 5)) ≡ names_rule (codes "L11")) × (after Lint head (reply 200 None) ≡ reply 200 None)
    × (after Lint post (reply 99 None) ≡ names_rule (codes "L1")) × (after Lint post (reply_with 204 (of_type (codes "a/b")) None) ≡ names_rule (codes "L6")) × (after Lint post (reply_with 200 (of_length (codes "4")) (Some 5)) ≡ names_rule (codes "L10"))
    × (after Lint no_hijack (reply 200 None) ≡ names_rule (codes "L9"))
unfolding broken_head_rule is_token_byte digits
lints = (refl, refl, refl, refl, refl, refl, refl)

abbrev taken : Answer Content ℕ
taken = Taken 7

abbrev raised : Answer Content ℕ
raised = Raised (codes "oops")

others : (after Lint post taken ≡ taken) × (after Lint no_hijack taken ≡ names_rule (codes "L9")) × (after Head no_hijack taken ≡ taken) × (after Lint no_hijack raised ≡ raised) × (after (SetHeader (codes "a") (codes "b")) post raised ≡ raised)
unfolding broken_taken_rule digits
others = (refl, refl, refl, refl, refl)

refusals : (refusal {H = ℕ} Lint post ≡ None) × (refusal {H = ℕ} Lint (remove_pair (codes "QUERY_STRING") post) ≡ Some (names_rule (codes "E3"))) × (refusal {H = ℕ} Lint (set_pair (codes "CONTENT_LENGTH") (codes "x") post) ≡ Some (names_rule (codes "E10")))
    × (refusal {H = ℕ} Head [] ≡ None)
unfolding broken_env_rule is_token_byte digits
refusals = (refl, refl, refl, refl)

-- an answer that sets a cookie
abbrev cookies : Answer Content ℕ
cookies = Reply 200 ((codes "set-cookie", codes "a=1" ∷ []) ∷ []) no_body None

-- a length around a type around it
stacked : after ContentLength post (after (ContentType (codes "text/html")) post cookies)
    ≡ Reply 200 ((codes "set-cookie", codes "a=1" ∷ []) ∷ (codes "content-type", codes "text/html" ∷ []) ∷ (codes "content-length", codes "0" ∷ []) ∷ []) no_body None
unfolding digits
stacked = refl
