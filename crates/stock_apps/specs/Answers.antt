-- What each stock endpoint answers. The endpoints are this project's own.
use Rattle.std.specs.Prelude.{ℕ, Bool, ◌==◌, ◌||◌, if◌then◌else◌, List, [], ◌∷◌, Option, None, Some, codes, decimal, false}
use Rattle.std.specs.List.{fold, list_any}
use Rattle.hijack_core.specs.declared.stock.Stock.{Stock}
use Rattle.hijack_core.specs.declared.stock.Stock.TheVariants as stock
use Rattle.rack_types.specs.declared.answer.Answer.{Answer}
use Rattle.rack_types.specs.declared.answer.Answer.TheVariants.{Reply, Raised, Taken}
use Rattle.rack_types.specs.Body.{Content}
use Rattle.rack_types.specs.Env.{Pairs}
use Rattle.rack_types.specs.Headers.{HeaderList, add_header}
use Rattle.stock_apps.specs.declared.app.App.{App}
use Rattle.stock_apps.specs.declared.app.App.TheVariants.{Text, Echo, Env, Pieces, Stream, Cookies, Bad, Raise, Late, Take, Part}
use Rattle.stock_apps.specs.Contents.{one_piece, empty_body, enumerable, streaming, header, plain_type}
use Rattle.stock_apps.specs.Lines.{pair_lines}

-- `set-cookie` with these values; no header where there are none
abbrev pub cookie_headers : List (List ℕ) → HeaderList
cookie_headers [] = []
cookie_headers (value ∷ values) = (codes "set-cookie", value ∷ values) ∷ []

-- the number is listed
abbrev pub is_listed : ℕ → List ℕ → Bool
is_listed n numbers = list_any (λ m. m == n) numbers

-- 99 where 1 is listed, else 204 where 6 or 7 is listed, else 200
abbrev pub bad_status : List ℕ → ℕ
bad_status numbers = if is_listed 1 numbers then 99 else if is_listed 6 numbers || is_listed 7 numbers then 204 else 200

-- the name and the value that a number stands for: 1 and every number that is not here stand for none
abbrev pub bad_header : ℕ → Option (List ℕ × List ℕ)
bad_header n =
    if n == 2 then Some (codes "a b", codes "x")
    else if n == 3 then Some (codes "status", codes "x")
    else if n == 4 then Some (codes "X-Upper", codes "x")
    else if n == 5 then Some (codes "x-five", 97 ∷ 1 ∷ [])
    else if n == 6 then Some (codes "content-type", codes "text/plain")
    else if n == 7 then Some (codes "content-length", codes "2")
    else if n == 8 then Some (codes "content-length", codes "5x")
    else if n == 10 then Some (codes "content-length", codes "3")
    else None

-- the headers with one more value, where there is one
abbrev pub and_header : HeaderList → Option (List ℕ × List ℕ) → HeaderList
and_header headers None = headers
and_header headers (Some pair) = add_header pair.0 pair.1 headers

-- the value of each number in order, behind those that its name has
abbrev pub bad_headers : List ℕ → HeaderList
bad_headers numbers = fold (λ headers n. and_header headers (bad_header n)) [] numbers

-- a reply that leaves the connection with the server
abbrev pub reply : ℕ → HeaderList → Content → Answer Content Stock
reply status headers body = Reply status headers body None

-- the stock hijacker: upper, or else echo
abbrev pub hijacker : Bool → Stock
hijacker upper = if upper then stock.Upper else stock.Echo

-- a reply without headers, behind whose head that hijacker takes the connection over
abbrev pub handed_over : ℕ → Bool → Answer Content Stock
handed_over status upper = Reply status [] (enumerable [] false) (Some (hijacker upper))

-- what the endpoint answers to an environment with these pairs, and an input of these bytes
abbrev pub app_answer : App → Pairs → List ℕ → Answer Content Stock
app_answer (Text status kind body) pairs input = reply status (header (codes "content-type") kind) (one_piece body)
app_answer Echo pairs input = reply 200 plain_type (one_piece input)
app_answer Env pairs input = reply 200 plain_type (one_piece (pair_lines pairs))
app_answer (Pieces status pieces) pairs input = reply status plain_type (enumerable pieces false)
app_answer (Stream pieces) pairs input = reply 200 plain_type (streaming pieces)
app_answer (Cookies values) pairs input = reply 200 (cookie_headers values) empty_body
app_answer (Bad numbers) pairs input = reply (bad_status numbers) (bad_headers numbers) (one_piece (codes "ok"))
app_answer (Raise text) pairs input = Raised text
app_answer (Late length pieces raises) pairs input = reply 200 (header (codes "content-length") (decimal length)) (enumerable pieces raises)
app_answer (Take upper) pairs input = Taken (hijacker upper)
app_answer (Part status upper) pairs input = handed_over status upper
