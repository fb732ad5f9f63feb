-- The steps of an order. This serves inner contracts alone.
use Rattle.std.specs.Prelude.{◌≡◌, ◌≢◌, ℕ, ◌+◌, ◌<◌, ◌≤◌, ◌⊎◌, false, List, [], ◌∷◌, ◌++◌, length, Option, None, Some, Result, Ok, Err, ⊤}
use Rattle.rack_outside.specs.Link.{Seen, Tells, faults}
use Rattle.rack_outside.specs.Told.{Rose, appended}
use Rattle.message_framing.specs.Request.{head_limit}
use Rattle.puma_ctl.specs.declared.order.Outcome.{Outcome}
use Rattle.puma_ctl.specs.declared.order.Outcome.TheVariants as outcome
use Rattle.puma_ctl.specs.declared.print.Wrote.{Wrote}
use Rattle.puma_ctl.specs.declared.print.Wrote.TheVariants as wrote
use Rattle.puma_ctl.specs.declared.talk.Heard.{Heard}
use Rattle.puma_ctl.specs.declared.talk.Heard.TheVariants as heard
use Rattle.puma_ctl.specs.Order.{OutSeen, IsUnanswered, pauses_limit, printed, outcome_of}
use Rattle.puma_ctl.specs.Reply.{BeginsReply, IsNoReply, AwaitsReply, body_limit}

-- this was sent on the link and that was given by it, its peer has not ended, and it had to wait so often at least
pub record IsTalked (s : Seen) (sent given : List ℕ) (waits : ℕ) : Type 0 where
  pub sent_is : Tells s.sent sent
  pub given_is : Tells s.given given
  pub unended : Tells s.over false
  pub waits_are : waits ≤ s.waits

-- saying a text: it was said whole, and it was waited so often
abbrev pub Says : Result ℕ Heard → List ℕ → Seen → Type 0
Says (Ok waits) text link = IsTalked link text [] waits × (waits < pauses_limit)
Says (Err (heard.Reply status)) text link = ⊥
Says (Err heard.NoAnswer) text link = pauses_limit ≤ link.waits
Says (Err heard.Failed) text link = 0 < faults link
Says (Err heard.NoMemory) text link = ⊤

-- the text was said whole, and these bytes came, which begin with a reply that has this status
pub record HearsReply (status : ℕ) (text : List ℕ) (link : Seen) (back : List ℕ) : Type 0 where
  pub sent_is : Tells link.sent text
  pub given_is : Tells link.given back
  pub body : List ℕ
  pub begins : BeginsReply back status body

-- what came of a talk
abbrev pub Hears : Heard → List ℕ → Seen → List ℕ → Type 0
Hears (heard.Reply status) text link back = HearsReply status text link back
Hears heard.NoAnswer text link back = IsUnanswered link
Hears heard.Failed text link back = 0 < faults link
Hears heard.NoMemory text link back = ⊤

-- one piece of what was heard
abbrev pub Takes : Option Heard → List ℕ → List ℕ → List ℕ → Type 0
Takes None old piece new = (new ≡ old ++ piece) × AwaitsReply new × (length new < head_limit + body_limit)
Takes (Some (heard.Reply status)) old piece new = (new ≡ old ++ piece) × ((body : List ℕ) × BeginsReply new status body)
Takes (Some heard.NoAnswer) old piece new = (new ≡ old ++ piece) × IsNoReply new
Takes (Some heard.Failed) old piece new = ⊥
Takes (Some heard.NoMemory) old piece new = ⊤

-- a front of the text was appended, and not all of it
pub record WritesLess (text : List ℕ) (old new : OutSeen) : Type 0 where
  pub front : List ℕ
  pub more : List ℕ
  pub split : text ≡ front ++ more
  pub less : more ≢ []
  pub written : new.written ≡ appended old.written front

-- writing a text
abbrev pub Writes : Wrote → List ℕ → OutSeen → OutSeen → Type 0
Writes wrote.All text old new = (new.written ≡ appended old.written text) × (old.faults ≤ new.faults)
Writes wrote.Failed text old new = WritesLess text old new × Rose old.faults new.faults
Writes wrote.NoMemory text old new = WritesLess text old new

-- printing a reply
abbrev pub PrintsReply : Outcome → ℕ → List ℕ → OutSeen → OutSeen → Type 0
PrintsReply outcome.Done status body old new = (status ≡ 200) × (new.written ≡ appended old.written (printed body))
PrintsReply (outcome.Denied denied) status body old new =
    (denied ≡ status) × (status ≢ 200) × (new.written ≡ appended old.written (printed body))
PrintsReply outcome.NoAnswer status body old new = ⊥
PrintsReply outcome.Dial status body old new = ⊥
PrintsReply outcome.SinkFault status body old new = WritesLess (printed body) old new × Rose old.faults new.faults
PrintsReply outcome.NoMemory status body old new = WritesLess (printed body) old new
