-- How a reply tells the length of its body, and what becomes of the connection (RFC 9112, sections 6 and 9).
-- The order of the forms, and that a status below 200 closes, are this project's own.
use Rattle.std.specs.Prelude.{ℕ, nat_lt, Bool, true, false, not, ◌||◌, if◌then◌else◌, List, [], ◌++◌, codes, decimal, Option, Some, None}
use Rattle.std.specs.List.{list_any}
use Rattle.rack_text.specs.Lists.{list_has}
use Rattle.rack_types.specs.declared.limits.Version.{Version}
use Rattle.rack_types.specs.declared.limits.Version.TheVariants.{Http10, Http11}
use Rattle.rack_types.specs.Headers.{HeaderList, header_values}
use Rattle.rack_types.specs.AnswerRules.{is_bare, stated_length}
use Rattle.reply_framing.specs.declared.types.After.{After}
use Rattle.reply_framing.specs.declared.types.After.TheVariants.{Keep, Close, Hijack}
use Rattle.reply_framing.specs.declared.types.Ask.{Ask}
use Rattle.reply_framing.specs.declared.types.Form.{Form}
use Rattle.reply_framing.specs.declared.types.Form.TheVariants.{Bare, Stated, Known, Chunked, Closing}
use Rattle.reply_framing.specs.Head.{crlf}

-- the length that the application's `content-length` promises, none where that header isn't there. (One that is
-- there and is not one number below 2^64 breaks L8: behind the rules the two are the same.)
abbrev pub promise : HeaderList → Option ℕ
promise headers = stated_length (header_values (codes "content-length") headers)

-- the first form that fits, of a reply with a body: by the promise, the known length and the version
abbrev pub body_form : Option ℕ → Option ℕ → Version → Form
body_form (Some p) known version = Stated
body_form None (Some n) version = Known
body_form None None Http11 = Chunked
body_form None None Http10 = Closing

-- the first form that fits: HEAD and a bare status have no body (RFC 9110, sections 9.3.2, 15.2, 15.3.5 and 15.4.5)
abbrev pub form_of : Ask → ℕ → HeaderList → Option ℕ → Form
form_of ask status headers known = if ask.head || is_bare status then Bare else body_form (promise headers) known ask.version

-- the line that tells the length
abbrev pub length_line : Form → Option ℕ → List ℕ
length_line Bare known = []
length_line Stated known = []
length_line Known None = []
length_line Known (Some n) = codes "content-length: " ++ decimal n ++ crlf
length_line Chunked known = codes "transfer-encoding: chunked\r\n"
length_line Closing known = []

-- one of the values has `close`
abbrev pub has_close : List ℕ → Bool
has_close value = list_has value (codes "close")

abbrev pub have_close : Option (List (List ℕ)) → Bool
have_close None = false
have_close (Some values) = list_any has_close values

-- a value of the application's `connection` has `close`
abbrev pub wants_close : HeaderList → Bool
wants_close headers = have_close (header_values (codes "connection") headers)

-- the end of the connection is the end of the body
abbrev pub is_closing : Form → Bool
is_closing Bare = false
is_closing Stated = false
is_closing Known = false
is_closing Chunked = false
is_closing Closing = true

-- what the head says of the connection
abbrev pub head_after : Ask → ℕ → HeaderList → Form → Bool → After
head_after ask status headers form last =
    if not ask.persists || last || wants_close headers || nat_lt status 200 || is_closing form then Close else Keep

-- the line that says so
abbrev pub connection_line : After → Version → List ℕ
connection_line Keep Http10 = codes "connection: keep-alive\r\n"
connection_line Keep Http11 = []
connection_line Close version = codes "connection: close\r\n"
connection_line Hijack version = []
