-- The reply to an answer, whole (RFC 9112, sections 4 to 9): its bytes, what becomes of the connection, and who
-- takes it over. What a broken answer becomes is this project's own.
use Rattle.std.specs.Prelude.{ℕ, Bool, true, false, List, [], ◌∷◌, ◌++◌, codes, decimal, Option, None, Some}
use Rattle.rack_types.specs.declared.answer.Answer.{Answer}
use Rattle.rack_types.specs.declared.answer.Answer.TheVariants as answer
use Rattle.rack_types.specs.declared.limits.Version.{Version}
use Rattle.rack_types.specs.declared.body.Kind.TheVariants.{Enumerable}
use Rattle.rack_types.specs.declared.rules.BodyRule.{BodyRule}
use Rattle.rack_types.specs.declared.rules.Rule.{Rule}
use Rattle.rack_types.specs.declared.rules.Set.TheVariants.{Server}
use Rattle.rack_types.specs.AnswerRules.{broken_rule, rule}
use Rattle.rack_types.specs.Body.{Content}
use Rattle.rack_types.specs.Env.{Pairs}
use Rattle.rack_types.specs.Headers.{HeaderList}
use Rattle.reply_framing.specs.declared.types.After.{After}
use Rattle.reply_framing.specs.declared.types.After.TheVariants.{Close, Hijack}
use Rattle.reply_framing.specs.declared.types.Ask.{Ask}
use Rattle.reply_framing.specs.declared.types.Form.{Form}
use Rattle.reply_framing.specs.Body.{body_bytes, rule_in}
use Rattle.reply_framing.specs.Form.{promise, form_of, length_line, head_after, connection_line}
use Rattle.reply_framing.specs.Head.{crlf, status_line, header_lines}

-- the bytes of a reply to its end or to its break, the rule that its body breaks, what becomes of the connection
-- behind it, and the hijacker that takes it over
pub record WholeReply (H : Type 0) : Type 0 where
  pub bytes : List ℕ
  pub rule : Option BodyRule
  pub after : After
  pub hijacker : Option H

-- behind a body that breaks a rule the connection closes
abbrev pub body_after : Option BodyRule → After → After
body_after None after = after
body_after (Some rule) after = Close

-- the head of a reply: its status line, its headers, the line that tells the length, and the one on the connection
abbrev pub head_text : ℕ → HeaderList → Form → Option ℕ → After → Version → List ℕ
head_text status headers form known after version =
    status_line status ++ header_lines false headers ++ length_line form known ++ connection_line after version ++ crlf

-- a reply with a body, in this form
abbrev pub framed_reply : {H : Type 0} → Form → Ask → ℕ → HeaderList → Content → Bool → WholeReply H
framed_reply form ask status headers body last = record {
  bytes = head_text status headers form body.known (head_after ask status headers form last) ask.version
      ++ body_bytes form (promise headers) body.pieces body.raises;
  rule = rule_in form (promise headers) body.pieces body.raises;
  after = body_after (rule_in form (promise headers) body.pieces body.raises) (head_after ask status headers form last);
  hijacker = None;
}

-- the same, in the first form that fits
abbrev pub body_reply : {H : Type 0} → Ask → ℕ → HeaderList → Content → Bool → WholeReply H
body_reply ask status headers body last = framed_reply (form_of ask status headers body.known) ask status headers body last

-- the head before a stream that a hijacker goes on with: neither a length line nor a connection line, and no body
abbrev pub partial_reply : {H : Type 0} → ℕ → HeaderList → H → WholeReply H
partial_reply status headers hijacker =
    record { bytes = status_line status ++ header_lines true headers ++ crlf; rule = None; after = Hijack; hijacker = Some hijacker }

-- the hijacker writes all of the reply
abbrev pub taken_reply : {H : Type 0} → H → WholeReply H
taken_reply hijacker = record { bytes = []; rule = None; after = Hijack; hijacker = Some hijacker }

-- the headers, and the body, of the answer in whose place a broken one is put: they name the rule
abbrev pub broken_headers : Rule → HeaderList
broken_headers broken = (codes "x-puma-fault", (codes "L" ++ decimal broken.0) ∷ []) ∷ (codes "content-length", codes "0" ∷ []) ∷ []

abbrev pub no_body : Content
no_body = record { pieces = []; raises = false; known = Some 0; kind = Enumerable; sure = true }

-- the reply to an answer that breaks this rule
abbrev pub broken_reply : {H : Type 0} → Rule → Ask → Bool → WholeReply H
broken_reply broken ask last = body_reply ask 500 (broken_headers broken) no_body last

-- the reply to an answer that breaks no rule. (One that was raised breaks L0.)
abbrev pub sound_reply : {H : Type 0} → Ask → Answer Content H → Bool → WholeReply H
sound_reply ask (answer.Reply status headers body None) last = body_reply ask status headers body last
sound_reply ask (answer.Reply status headers body (Some hijacker)) last = partial_reply status headers hijacker
sound_reply ask (answer.Raised text) last = broken_reply (rule 0) ask last
sound_reply ask (answer.Taken hijacker) last = taken_reply hijacker

abbrev pub reply_by : {H : Type 0} → Option Rule → Ask → Answer Content H → Bool → WholeReply H
reply_by None ask answer last = sound_reply ask answer last
reply_by (Some broken) ask answer last = broken_reply broken ask last

-- the reply to an answer that was given to an environment with these pairs. `last`: the connection takes no
-- further request, whatever the answer is
abbrev pub reply : {H : Type 0} → Ask → Pairs → Answer Content H → Bool → WholeReply H
reply ask env answer last = reply_by (broken_rule Server env answer) ask answer last
