-- A framer and the reply that it stands for.
use Rattle.std.specs.Prelude.{◌≡◌, ℕ, Bool, true, false, List, [], ◌++◌, Option, None, Some}
use Rattle.rack_types.specs.declared.answer.Answer.{Answer}
use Rattle.rack_types.specs.declared.answer.Answer.TheVariants as answer
use Rattle.rack_types.specs.declared.rules.Rule.{Rule}
use Rattle.rack_types.specs.Body.{Content}
use Rattle.reply_framing.specs.declared.types.Ask.{Ask}
use Rattle.reply_framing.specs.declared.types.Form.TheVariants.{Bare}
use Rattle.reply_framing.specs.Coming.{Coming, Rest}
use Rattle.reply_framing.specs.Form.{form_of, promise}
use Rattle.reply_framing.specs.PullOrder.{AskedNothing}
use Rattle.reply_framing.specs.Reply.{WholeReply, body_after}

-- the framer stands for the whole reply, of which nothing was appended yet
pub record StandsFor {H : Type 0} (f : Coming H) (r : WholeReply H) : Type 0 where
  pub bytes : f.rest.bytes ≡ r.bytes
  pub rule : f.rest.rule ≡ r.rule
  pub after : body_after f.rest.rule f.after ≡ r.after
  pub hijacker : f.hijacker ≡ r.hijacker

-- of the whole reply these bytes were appended, and the framer stands for the others
pub record Owes {H : Type 0} (f : Coming H) (r : WholeReply H) (sent : List ℕ) : Type 0 where
  pub bytes : r.bytes ≡ sent ++ f.rest.bytes
  pub rule : f.rest.rule ≡ r.rule
  pub after : body_after r.rule f.after ≡ r.after
  pub hijacker : f.hijacker ≡ r.hijacker

-- nothing was asked of the body; the one of a partial hijack, and one that was put aside, is never asked
abbrev pub AsksNothing : {H : Type 0} → Ask → Answer Content H → Rest → Type 0
AsksNothing ask (answer.Reply status headers body None) rest =
    AskedNothing rest (form_of ask status headers body.known) (promise headers) body.pieces body.raises
AsksNothing ask (answer.Reply status headers body (Some hijacker)) rest = AskedNothing rest Bare None body.pieces body.raises
AsksNothing ask (answer.Raised text) rest = AskedNothing rest Bare None [] false
AsksNothing ask (answer.Taken hijacker) rest = AskedNothing rest Bare None [] false

-- the same of an answer that breaks this rule, or none: the body of a broken one is closed
abbrev pub AsksNothingBy : {H : Type 0} → Option Rule → Ask → Answer Content H → Rest → Type 0
AsksNothingBy None ask answer rest = AsksNothing ask answer rest
AsksNothingBy (Some broken) ask answer rest = AskedNothing rest Bare None [] false

-- asking the body of the answer for a piece never wants memory
abbrev pub is_sure : {H : Type 0} → Answer Content H → Bool
is_sure (answer.Reply status headers body part) = body.sure
is_sure (answer.Raised text) = true
is_sure (answer.Taken hijacker) = true
