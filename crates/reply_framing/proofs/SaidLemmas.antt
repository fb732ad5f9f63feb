-- A reply has bytes, unless a hijacker writes all of it.
use Rattle.std.proofs.Common.{◌≡◌, ◌≢◌, ℕ, ◌<◌, Bool, true, false, if◌then◌else◌, List, ◌++◌, length, length-append, Option, None, Some, refl, arith}
use Rattle.std.specs.Prelude.{codes, decimal}
use Rattle.rack_types.specs.declared.answer.Answer.{Answer}
use Rattle.rack_types.specs.declared.answer.Answer.TheVariants as answer
use Rattle.rack_types.specs.declared.fault.Fault.{Fault}
use Rattle.rack_types.specs.declared.limits.Version.{Version}
use Rattle.rack_types.specs.declared.rules.BodyRule.{BodyRule}
use Rattle.rack_types.specs.declared.rules.Rule.{Rule}
use Rattle.rack_types.specs.declared.rules.Set.TheVariants.{Server}
use Rattle.rack_types.specs.AnswerRules.{broken_rule, rule}
use Rattle.rack_types.specs.Body.{Content}
use Rattle.rack_types.specs.Env.{Pairs}
use Rattle.rack_types.specs.Headers.{HeaderList}
use Rattle.reply_framing.specs.declared.types.After.{After}
use Rattle.reply_framing.specs.declared.types.After.TheVariants.{Keep, Close, Hijack}
use Rattle.reply_framing.specs.declared.types.Ask.{Ask}
use Rattle.reply_framing.specs.declared.types.Form.{Form}
use Rattle.reply_framing.specs.Fault.{fault_reply, fault_status, fault_name}
use Rattle.reply_framing.specs.Body.{body_bytes}
use Rattle.reply_framing.specs.Form.{promise, form_of, head_after, length_line, connection_line}
use Rattle.reply_framing.specs.Hands.{HandsToNobody}
use Rattle.reply_framing.specs.Head.{crlf, status_line, value_line, header_lines}
use Rattle.reply_framing.specs.Reason.{reason}
use Rattle.reply_framing.specs.Reply.{body_after, head_text, body_reply, broken_headers, no_body, reply_by, reply}

-- a list that begins with something has something in it
some_front : (xs ys : List ℕ) → 0 < length xs → 0 < length (xs ++ ys)
some_front xs ys some = omega (arith, length-append xs ys)

line_some : (status : ℕ) → 0 < length (status_line status)
line_some status =
    let version : List ℕ = codes "HTTP/1.1 " in
    let some : 0 < length version = omega arith in
    some_front (version ++ decimal status ++ codes " " ++ reason status) crlf
    (some_front (version ++ decimal status ++ codes " ") (reason status)
    (some_front (version ++ decimal status) (codes " ") (some_front version (decimal status) some)))

head_some : (status : ℕ) (headers : HeaderList) (form : Form) (known : Option ℕ) (after : After) (version : Version)
    → 0 < length (head_text status headers form known after version)
head_some status headers form known after version =
    let line : List ℕ = status_line status in
    some_front (line ++ header_lines false headers ++ length_line form known ++ connection_line after version) crlf
    (some_front (line ++ header_lines false headers ++ length_line form known) (connection_line after version)
    (some_front (line ++ header_lines false headers) (length_line form known)
    (some_front line (header_lines false headers) (line_some status))))

-- what becomes of the connection behind a reply with a body is no hijack
no_hijack : (rule : Option BodyRule) (t : Bool) → body_after rule (if t then Close else Keep) ≢ Hijack
no_hijack None true e = let both : Close ≡ Hijack = e in cc
no_hijack None false e = let both : Keep ≡ Hijack = e in cc
no_hijack (Some rule) t e = let both : Close ≡ Hijack = e in cc

body_holds : (H : Type 0) (ask : Ask) (status : ℕ) (headers : HeaderList) (body : Content) (last : Bool) → (body_reply {H = H} ask status headers body last).after ≢ Hijack
body_holds H ask status headers body last = no_hijack _ _

body_some : (H : Type 0) (ask : Ask) (status : ℕ) (headers : HeaderList) (body : Content) (last : Bool) → 0 < length (body_reply {H = H} ask status headers body last).bytes
body_some H ask status headers body last =
    let form : Form = form_of ask status headers body.known in
    let after : After = head_after ask status headers form last in
    some_front (head_text status headers form body.known after ask.version) (body_bytes form (promise headers) body.pieces body.raises)
    (head_some status headers form body.known after ask.version)

-- an answer that hands the connection to nobody is answered by no hijack
pub reply_keeps_hold : {H : Type 0} (ask : Ask) (env : Pairs) (a : Answer Content H) (last : Bool) → HandsToNobody a → (reply ask env a last).after ≢ Hijack
reply_keeps_hold {H} ask env a last nobody = by (broken_rule Server env a) a nobody
  where
    by : (o : Option Rule) (a : Answer Content H) → HandsToNobody a → (reply_by o ask a last).after ≢ Hijack
    by (Some broken) a nobody = body_holds H ask 500 (broken_headers broken) no_body last
    by None (answer.Reply status headers body None) nobody = body_holds H ask status headers body last
    by None (answer.Reply status headers body (Some h)) nobody = absurd nobody
    by None (answer.Raised text) nobody = body_holds H ask 500 (broken_headers (rule 0)) no_body last
    by None (answer.Taken h) nobody = absurd nobody

-- a reply that is no hijack has bytes
pub reply_says : {H : Type 0} (ask : Ask) (env : Pairs) (a : Answer Content H) (last : Bool) → (reply ask env a last).after ≢ Hijack
    → 0 < length (reply ask env a last).bytes
reply_says {H} ask env a last held = by (broken_rule Server env a) a held
  where
    by : (o : Option Rule) (a : Answer Content H) → (reply_by o ask a last).after ≢ Hijack → 0 < length (reply_by o ask a last).bytes
    by (Some broken) a held = body_some H ask 500 (broken_headers broken) no_body last
    by None (answer.Reply status headers body None) held = body_some H ask status headers body last
    by None (answer.Reply status headers body (Some h)) held = absurd (held refl)
    by None (answer.Raised text) held = body_some H ask 500 (broken_headers (rule 0)) no_body last
    by None (answer.Taken h) held = absurd (held refl)

-- so has each reply, where there are no hijackers
pub reply_some : {H : Type 0} → (H → ⊥) → (ask : Ask) (env : Pairs) (a : Answer Content H) (last : Bool) → 0 < length (reply ask env a last).bytes
reply_some {H} none ask env a last = reply_says ask env a last (reply_keeps_hold ask env a last (nobody a))
  where
    nobody : (a : Answer Content H) → HandsToNobody a
    nobody (answer.Reply status headers body None) = tt
    nobody (answer.Reply status headers body (Some h)) = none h
    nobody (answer.Raised text) = tt
    nobody (answer.Taken h) = none h

-- the reply that names a fault has bytes
pub fault_some : (f : Fault) → 0 < length (fault_reply f)
fault_some f =
    let line : List ℕ = status_line (fault_status f) in
    let name : List ℕ = value_line (codes "x-puma-fault") (fault_name f) in
    let length_is : List ℕ = value_line (codes "content-length") (codes "0") in
    let close : List ℕ = value_line (codes "connection") (codes "close") in
    some_front (line ++ name ++ length_is ++ close) crlf
    (some_front (line ++ name ++ length_is) close (some_front (line ++ name) length_is (some_front line name (line_some (fault_status f)))))
