-- What the reader of a reply holds, and what it answers.
use Rattle.std.specs.Prelude.{◌≡◌, ℕ, ◌+◌, ◌<◌, ◌≤◌, List, [], ◌∷◌, ◌++◌, length, take, drop, Option, None, Some, Result, Ok, Err, ⊤}
use Rattle.std.specs.declared.alloc.AllocError.{AllocError}
use Rattle.message_framing.specs.HeadText.{head_text}
use Rattle.message_framing.specs.Request.{head_limit, head_within}
use Rattle.puma_ctl.specs.declared.head.Occurs.{Occurs}
use Rattle.puma_ctl.specs.declared.head.Occurs.TheVariants.{Never, Once, Again}
use Rattle.puma_ctl.specs.declared.back.Found.{Found}
use Rattle.puma_ctl.specs.declared.back.Found.TheVariants as found
use Rattle.puma_ctl.specs.declared.back.Got.{Got}
use Rattle.puma_ctl.specs.declared.back.Got.TheVariants.{More, Whole, Not}
use Rattle.httparse.specs.Grammar.{ResponseHead}
use Rattle.httparse.specs.declared.spans.HeaderSpan.{HeaderSpan}
use Rattle.httparse.specs.declared.spans.ResponseSpans.{ResponseSpans}
use Rattle.httparse.specs.Spans.{IsResponseWithin, IsResponseAt}
use Rattle.puma_ctl.specs.Reply.{IsHead, IsReplyHead, BeginsReply, IsNoReply, AwaitsReply}

-- the answer is right of these bytes
abbrev pub IsRight : Got → List ℕ → Type 0
IsRight More b = AwaitsReply b
IsRight (Whole status) b = (body : List ℕ) × BeginsReply b status body
IsRight Not b = IsNoReply b

-- one `feed`: while a reply may still come, the piece is taken; else nothing is. The answer is right of what was taken,
-- and a refused one takes nothing
abbrev pub Feeds : Result Got AllocError → List ℕ → List ℕ → List ℕ → Type 0
Feeds (Ok got) old piece new = IsRight got new × (AwaitsReply old → new ≡ old ++ piece) × (¬ (AwaitsReply old) → new ≡ old)
Feeds (Err e) old piece new = new ≡ old

-- The rest serves inner contracts alone.

-- how many values there are, with the one that is alone
abbrev pub OccursAs : Occurs → List (List ℕ) → Type 0
OccursAs Never values = values ≡ []
OccursAs (Once value) values = values ≡ value.now ∷ []
OccursAs Again values = (first second : List ℕ) × (more : List (List ℕ)) × (values ≡ first ∷ second ∷ more)

-- the places are those of the head that the text is
pub record ReadsHead (text : List ℕ) (places : List HeaderSpan) (s : ResponseSpans) : Type 0 where
  pub within : IsResponseWithin text places s
  pub len : s.len ≡ length text
  pub head : (h : ResponseHead) × IsHead text h × IsResponseAt text places s h

-- the head text of b is the head of a reply
pub record HasHead (b : List ℕ) (start status count : ℕ) : Type 0 where
  pub ends : head_within b ≡ Some start
  pub head : IsReplyHead (head_text (take start b)) status count

-- what was found in b
abbrev pub FoundIn : Found → List ℕ → Type 0
FoundIn found.Coming b = (head_within b ≡ None) × (length b < head_limit)
FoundIn (found.Body start count status) b = HasHead b start status count × (length b < start + count)
FoundIn (found.Whole start count status) b = HasHead b start status count × (start + count ≤ length b)
FoundIn found.Refused b = IsNoReply b

-- what more bytes behind those in which this was found keep
abbrev pub KeepsHead : Found → List ℕ → Type 0
KeepsHead found.Coming b = ⊤
KeepsHead (found.Body start count status) b = HasHead b start status count
KeepsHead (found.Whole start count status) b = HasHead b start status count
KeepsHead found.Refused b = IsNoReply b

-- the answer by what was found
abbrev pub got_of : Found → Got
got_of found.Coming = More
got_of (found.Body start count status) = More
got_of (found.Whole start count status) = Whole status
got_of found.Refused = Not
