-- The rules of the six middleware (after Rack's classes of these names; each detail is this project's own): the
-- pairs that the application is called with, what becomes of its answer, and when it isn't called.
use Rattle.std.specs.Prelude.{ℕ, Bool, ◌||◌, List, [], ◌∷◌, ◌++◌, Option, Some, None, is_some, codes, decimal, ⊤, if◌then◌else◌}
use Rattle.rack_types.specs.declared.answer.Answer.{Answer}
use Rattle.rack_types.specs.declared.answer.Answer.TheVariants.{Reply, Raised, Taken}
use Rattle.rack_types.specs.AnswerRules.{is_bare}
use Rattle.rack_types.specs.Body.{Content}
use Rattle.rack_types.specs.Env.{Pairs}
use Rattle.rack_types.specs.Headers.{HeaderList, header_values, set_header}
use Rattle.rack_types.specs.RuleWords.{has_value}
use Rattle.stock_middleware.specs.declared.ware.Ware.{Ware}
use Rattle.stock_middleware.specs.declared.ware.Ware.TheVariants.{Head, ContentLength, ContentType, MethodOverride, SetHeader, Lint}
use Rattle.stock_middleware.specs.Lint.{env_refusal, linted}
use Rattle.stock_middleware.specs.Override.{overridden}
use Rattle.stock_middleware.specs.WareBody.{no_body}

-- the pairs that the application is called with, by those that came and the bytes of the input
abbrev pub before : Ware → Pairs → List ℕ → Pairs
before Head ps input = ps
before ContentLength ps input = ps
before (ContentType kind) ps input = ps
before MethodOverride ps input = overridden ps input
before (SetHeader name value) ps input = ps
before Lint ps input = ps

-- the answer that stands in the place of the application's, which isn't called then; none where it is called
abbrev pub refusal : {H : Type 0} → Ware → Pairs → Option (Answer Content H)
refusal Head ps = None
refusal ContentLength ps = None
refusal (ContentType kind) ps = None
refusal MethodOverride ps = None
refusal (SetHeader name value) ps = None
refusal Lint ps = env_refusal ps

-- the header is there
abbrev pub has_header : List ℕ → HeaderList → Bool
has_header name headers = is_some (header_values name headers)

-- the headers with a new one, which goes last
abbrev pub with_header : List ℕ → List ℕ → HeaderList → HeaderList
with_header name value headers = headers ++ (name, value ∷ []) ∷ []

-- the headers, with the length of the body where it is known and they say nothing of it
abbrev pub with_length : ℕ → Option ℕ → HeaderList → HeaderList
with_length status None headers = headers
with_length status (Some n) headers =
    if is_bare status || has_header (codes "content-length") headers || has_header (codes "transfer-encoding") headers
    then headers
    else with_header (codes "content-length") (decimal n) headers

-- the headers, with this type where they name none
abbrev pub with_type : List ℕ → ℕ → HeaderList → HeaderList
with_type kind status headers =
    if is_bare status || has_header (codes "content-type") headers then headers
    else with_header (codes "content-type") kind headers

-- the body of an answer to HEAD is empty (RFC 9110, section 9.3.2)
abbrev pub body_for : Pairs → Content → Content
body_for ps body = if has_value (codes "REQUEST_METHOD") (codes "HEAD") ps then no_body else body

-- What becomes of the application's answer, by the pairs that it was called with. One that was raised passes
-- unchanged, and so does one that was taken, except that Lint names L9.
abbrev pub after : {H : Type 0} → Ware → Pairs → Answer Content H → Answer Content H
after Head ps (Reply status headers body part) = Reply status headers (body_for ps body) part
after ContentLength ps (Reply status headers body part) = Reply status (with_length status body.known headers) body part
after (ContentType kind) ps (Reply status headers body part) = Reply status (with_type kind status headers) body part
after MethodOverride ps (Reply status headers body part) = Reply status headers body part
after (SetHeader name value) ps (Reply status headers body part) = Reply status (set_header name value headers) body part
after Lint ps answer = linted ps answer
after w ps (Raised text) = Raised text
after w ps (Taken hijacker) = Taken hijacker

-- what the middleware does to an answer may take memory
abbrev pub MayTakeMemory : Ware → Type 0
MayTakeMemory Head = ⊥
MayTakeMemory ContentLength = ⊤
MayTakeMemory (ContentType kind) = ⊤
MayTakeMemory MethodOverride = ⊥
MayTakeMemory (SetHeader name value) = ⊤
MayTakeMemory Lint = ⊤
