-- Replies worked out by computation: the rows that this project gives as examples. `hello` is the endpoint that
-- answers 200, text/plain and `hello`.
use Rattle.std.proofs.Common.{◌≡◌, ℕ, Bool, true, false, List, [], ◌∷◌, ◌++◌, Option, Some, None, codes, refl}
use Rattle.std.specs.Fmt.{digits}
use Rattle.httparse.specs.Grammar.{is_token_byte, trim_ows}
use Rattle.rack_text.specs.Lists.{elements}
use Rattle.rack_types.specs.declared.answer.Answer.{Answer}
use Rattle.rack_types.specs.declared.answer.Answer.TheVariants as answer
use Rattle.rack_types.specs.declared.body.Kind.TheVariants.{Enumerable}
use Rattle.rack_types.specs.declared.limits.Version.TheVariants.{Http10, Http11}
use Rattle.rack_types.specs.Body.{Content}
use Rattle.rack_types.specs.Env.{Pairs}
use Rattle.rack_types.specs.Headers.{HeaderList}
use Rattle.rack_types.specs.AnswerRules.{broken_head_rule, broken_taken_rule}
use Rattle.rack_types.specs.BodyRules.{body_break}
use Rattle.reply_framing.specs.declared.types.After.{After}
use Rattle.reply_framing.specs.declared.types.After.TheVariants.{Keep, Close, Hijack}
use Rattle.reply_framing.specs.declared.types.Ask.{Ask}
use Rattle.reply_framing.specs.Fault.{fault_reply}
use Rattle.rack_types.specs.declared.fault.Fault.TheVariants.{F, T1}
use Rattle.reply_framing.specs.Reason.{reason}
use Rattle.reply_framing.specs.Reply.{WholeReply, reply}

abbrev get_env : Pairs
get_env = (codes "REQUEST_METHOD", codes "GET") ∷ (codes "rack.hijack?", codes "true") ∷ []

abbrev head_env : Pairs
head_env = (codes "REQUEST_METHOD", codes "HEAD") ∷ (codes "rack.hijack?", codes "true") ∷ []

abbrev no_hijack_env : Pairs
no_hijack_env = (codes "REQUEST_METHOD", codes "GET") ∷ (codes "rack.hijack?", codes "false") ∷ []

abbrev kept : Ask
kept = record { head = false; version = Http11; persists = true }

abbrev closed : Ask
closed = record { head = false; version = Http11; persists = false }

-- HTTP/1.0, without and with keep-alive
abbrev old : Ask
old = record { head = false; version = Http10; persists = false }

abbrev old_kept : Ask
old_kept = record { head = false; version = Http10; persists = true }

abbrev head : Ask
head = record { head = true; version = Http11; persists = true }

abbrev text_plain : HeaderList
text_plain = (codes "content-type", codes "text/plain" ∷ []) ∷ []

abbrev body_of : List (List ℕ) → Bool → Option ℕ → Content
body_of pieces raises known = record { pieces = pieces; raises = raises; known = known; kind = Enumerable; sure = true }

abbrev hello : Answer Content ℕ
hello = answer.Reply 200 text_plain (body_of (codes "hello" ∷ []) false (Some 5)) None

abbrev pieces_of : List (List ℕ) → Answer Content ℕ
pieces_of pieces = answer.Reply 200 text_plain (body_of pieces false None) None

abbrev late : List ℕ → List (List ℕ) → Bool → Answer Content ℕ
late length pieces raises = answer.Reply 200 ((codes "content-length", length ∷ []) ∷ []) (body_of pieces raises None) None

abbrev bad : ℕ → HeaderList → Answer Content ℕ
bad status headers = answer.Reply status headers (body_of (codes "ok" ∷ []) false (Some 2)) None

abbrev whole : List ℕ → After → WholeReply ℕ
whole bytes after = record { bytes = bytes; rule = None; after = after; hijacker = None }

abbrev reply_to : Ask → Pairs → Answer Content ℕ → Bool → WholeReply ℕ
reply_to ask env answer last = reply ask env answer last

abbrev cookies : Answer Content ℕ
cookies = answer.Reply 200 ((codes "set-cookie", codes "a=1" ∷ codes "b=2" ∷ []) ∷ []) (body_of [] false (Some 0)) None

abbrev upper : HeaderList
upper = (codes "X-Upper", codes "x" ∷ []) ∷ []

abbrev five : HeaderList
five = (codes "x-five", (codes "a" ++ 1 ∷ []) ∷ []) ∷ []

abbrev own : HeaderList
own = (codes "rack.x", codes "1" ∷ []) ∷ (codes "connection", codes "keep-alive, Close" ∷ []) ∷ (codes "transfer-encoding", codes "gzip" ∷ []) ∷ []

abbrev part : Answer Content ℕ
part = answer.Reply 200 [] (body_of [] false None) (Some 7)

-- kept, in HTTP/1.1
row_hello : reply_to kept get_env hello false ≡ whole (codes "HTTP/1.1 200 OK\r\ncontent-type: text/plain\r\ncontent-length: 5\r\n\r\nhello") Keep
unfolding reason broken_head_rule broken_taken_rule body_break is_token_byte elements trim_ows digits
row_hello = refl

-- the request closes, or the reply is the last one
row_hello_closed : reply_to closed get_env hello false ≡ whole (codes "HTTP/1.1 200 OK\r\ncontent-type: text/plain\r\ncontent-length: 5\r\nconnection: close\r\n\r\nhello") Close
unfolding reason broken_head_rule broken_taken_rule body_break is_token_byte elements trim_ows digits
row_hello_closed = refl

-- the connection takes no further request
row_hello_last : reply_to kept get_env hello true ≡ whole (codes "HTTP/1.1 200 OK\r\ncontent-type: text/plain\r\ncontent-length: 5\r\nconnection: close\r\n\r\nhello") Close
unfolding reason broken_head_rule broken_taken_rule body_break is_token_byte elements trim_ows digits
row_hello_last = refl

-- HTTP/1.0
row_hello_old : reply_to old get_env hello false ≡ whole (codes "HTTP/1.1 200 OK\r\ncontent-type: text/plain\r\ncontent-length: 5\r\nconnection: close\r\n\r\nhello") Close
unfolding reason broken_head_rule broken_taken_rule body_break is_token_byte elements trim_ows digits
row_hello_old = refl

-- HTTP/1.0 with keep-alive
row_hello_old_kept : reply_to old_kept get_env hello false ≡ whole (codes "HTTP/1.1 200 OK\r\ncontent-type: text/plain\r\ncontent-length: 5\r\nconnection: keep-alive\r\n\r\nhello") Keep
unfolding reason broken_head_rule broken_taken_rule body_break is_token_byte elements trim_ows digits
row_hello_old_kept = refl

-- HTTP/1.0 gets no chunks: the end of the connection ends the body
row_pieces_old : reply_to old_kept get_env (pieces_of (codes "ab" ∷ codes "c" ∷ [])) false ≡ whole (codes "HTTP/1.1 200 OK\r\ncontent-type: text/plain\r\nconnection: close\r\n\r\nabc") Close
unfolding reason broken_head_rule broken_taken_rule body_break is_token_byte elements trim_ows digits
row_pieces_old = refl

-- two values of one header, and an empty body of known length
row_cookies : reply_to kept get_env cookies false ≡ whole (codes "HTTP/1.1 200 OK\r\nset-cookie: a=1\r\nset-cookie: b=2\r\ncontent-length: 0\r\n\r\n") Keep
unfolding reason broken_head_rule broken_taken_rule body_break is_token_byte elements trim_ows digits
row_cookies = refl

-- chunks; the empty piece has none
row_pieces : reply_to kept get_env (pieces_of (codes "ab" ∷ [] ∷ codes "c" ∷ [])) false ≡ whole (codes "HTTP/1.1 200 OK\r\ncontent-type: text/plain\r\ntransfer-encoding: chunked\r\n\r\n2\r\nab\r\n1\r\nc\r\n0\r\n\r\n") Keep
unfolding reason broken_head_rule broken_taken_rule body_break is_token_byte elements trim_ows digits
row_pieces = refl

-- a name with an upper-case letter
row_bad_4 : reply_to kept get_env (bad 200 upper) false ≡ whole (codes "HTTP/1.1 500 Internal Server Error\r\nx-puma-fault: L4\r\ncontent-length: 0\r\n\r\n") Keep
unfolding reason broken_head_rule broken_taken_rule body_break is_token_byte elements trim_ows digits
row_bad_4 = refl

-- a value with a control byte, and then such a name: the least rule is named
row_bad_5_4 : reply_to kept get_env (bad 200 (five ++ upper)) false ≡ whole (codes "HTTP/1.1 500 Internal Server Error\r\nx-puma-fault: L4\r\ncontent-length: 0\r\n\r\n") Keep
unfolding reason broken_head_rule broken_taken_rule body_break is_token_byte elements trim_ows digits
row_bad_5_4 = refl

-- a type at a bare status
row_bad_6 : reply_to kept get_env (bad 204 text_plain) false ≡ whole (codes "HTTP/1.1 500 Internal Server Error\r\nx-puma-fault: L6\r\ncontent-length: 0\r\n\r\n") Keep
unfolding reason broken_head_rule broken_taken_rule body_break is_token_byte elements trim_ows digits
row_bad_6 = refl

-- the application raised
row_raise : reply_to kept get_env (answer.Raised (codes "oops")) false ≡ whole (codes "HTTP/1.1 500 Internal Server Error\r\nx-puma-fault: L0\r\ncontent-length: 0\r\n\r\n") Keep
unfolding reason broken_head_rule broken_taken_rule body_break is_token_byte elements trim_ows digits
row_raise = refl

-- a partial hijack where there is no leave for one
row_part_refused : reply_to kept no_hijack_env part false ≡ whole (codes "HTTP/1.1 500 Internal Server Error\r\nx-puma-fault: L9\r\ncontent-length: 0\r\n\r\n") Keep
unfolding reason broken_head_rule broken_taken_rule body_break is_token_byte elements trim_ows digits
row_part_refused = refl

-- the same with leave: the head alone
row_part : reply_to kept get_env part false ≡ record { bytes = codes "HTTP/1.1 200 OK\r\n\r\n"; rule = None; after = Hijack; hijacker = Some 7 }
unfolding reason broken_head_rule broken_taken_rule body_break is_token_byte elements trim_ows digits
row_part = refl

-- a full hijack, with leave and without
row_taken : reply_to kept get_env (answer.Taken 7) false ≡ record { bytes = []; rule = None; after = Hijack; hijacker = Some 7 }
unfolding reason broken_head_rule broken_taken_rule body_break is_token_byte elements trim_ows digits
row_taken = refl

-- a full hijack without leave
row_taken_refused : reply_to kept no_hijack_env (answer.Taken 7) false ≡ whole (codes "HTTP/1.1 500 Internal Server Error\r\nx-puma-fault: L9\r\ncontent-length: 0\r\n\r\n") Keep
unfolding reason broken_head_rule broken_taken_rule body_break is_token_byte elements trim_ows digits
row_taken_refused = refl

-- a piece that passes the promise isn't sent
row_late : reply_to kept get_env (late (codes "5") (codes "abc" ∷ codes "defg" ∷ []) false) false ≡ record { bytes = codes "HTTP/1.1 200 OK\r\ncontent-length: 5\r\n\r\nabc"; rule = Some (record { 0 = 1 }); after = Close; hijacker = None }
unfolding reason broken_head_rule broken_taken_rule body_break is_token_byte elements trim_ows digits
row_late = refl

-- a body that ends below its promise
row_late_short : reply_to kept get_env (late (codes "5") (codes "abc" ∷ []) false) false ≡ record { bytes = codes "HTTP/1.1 200 OK\r\ncontent-length: 5\r\n\r\nabc"; rule = Some (record { 0 = 2 }); after = Close; hijacker = None }
unfolding reason broken_head_rule broken_taken_rule body_break is_token_byte elements trim_ows digits
row_late_short = refl

-- a body that raises, below its promise too
row_late_raised : reply_to kept get_env (late (codes "3") (codes "ab" ∷ []) true) false ≡ record { bytes = codes "HTTP/1.1 200 OK\r\ncontent-length: 3\r\n\r\nab"; rule = Some (record { 0 = 3 }); after = Close; hijacker = None }
unfolding reason broken_head_rule broken_taken_rule body_break is_token_byte elements trim_ows digits
row_late_raised = refl

-- chunks of a body that raises have no last chunk
row_chunks_raised : reply_to kept get_env (answer.Reply 200 [] (body_of (codes "ab" ∷ []) true None) None) false ≡ record { bytes = codes "HTTP/1.1 200 OK\r\ntransfer-encoding: chunked\r\n\r\n2\r\nab\r\n"; rule = Some (record { 0 = 3 }); after = Close; hijacker = None }
unfolding reason broken_head_rule broken_taken_rule body_break is_token_byte elements trim_ows digits
row_chunks_raised = refl

-- HEAD: no length is told that the application did not tell
row_head : reply_to head head_env hello false ≡ whole (codes "HTTP/1.1 200 OK\r\ncontent-type: text/plain\r\n\r\n") Keep
unfolding reason broken_head_rule broken_taken_rule body_break is_token_byte elements trim_ows digits
row_head = refl

-- what the application may not say of the connection is left out; its wish to close is heard
row_left_out : reply_to kept get_env (answer.Reply 204 own (body_of [] false None) None) false ≡ whole (codes "HTTP/1.1 204 No Content\r\nconnection: close\r\n\r\n") Close
unfolding reason broken_head_rule broken_taken_rule body_break is_token_byte elements trim_ows digits
row_left_out = refl

-- a status below 200 closes, and one without a reason keeps the space
row_interim : reply_to kept get_env (answer.Reply 199 [] (body_of [] false None) None) false ≡ whole (codes "HTTP/1.1 199 \r\nconnection: close\r\n\r\n") Close
unfolding reason broken_head_rule broken_taken_rule body_break is_token_byte elements trim_ows digits
row_interim = refl

-- faults
row_faults : fault_reply (F 8) ≡ codes "HTTP/1.1 400 Bad Request\r\nx-puma-fault: F8\r\ncontent-length: 0\r\nconnection: close\r\n\r\n"
unfolding reason broken_head_rule broken_taken_rule body_break is_token_byte elements trim_ows digits
row_faults = refl

-- a request that was not whole in time
row_timeout : fault_reply T1 ≡ codes "HTTP/1.1 408 Request Timeout\r\nx-puma-fault: T1\r\ncontent-length: 0\r\nconnection: close\r\n\r\n"
unfolding reason broken_head_rule broken_taken_rule body_break is_token_byte elements trim_ows digits
row_timeout = refl
