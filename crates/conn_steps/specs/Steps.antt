-- What the steps of a connection do to the parts that they change. This serves inner contracts alone.
use Rattle.std.specs.Prelude.{◌≡◌, ◌≢◌, ◌<◌, ℕ, Bool, true, false, List, [], ◌++◌, length, drop, Option, None, Some, Ok, Err, ⊤}
use Rattle.std.specs.declared.alloc.AllocError.{AllocError}
use Rattle.circular_buffer.specs.Buffer.{Buffer}
use Rattle.hijack_core.specs.Said.{GoesOnAs}
use Rattle.rack_types.specs.declared.answer.Answer.{Answer}
use Rattle.rack_types.specs.declared.answer.Answer.TheVariants as answer
use Rattle.rack_types.specs.Body.{Content}
use Rattle.rack_types.specs.Env.{Pairs}
use Rattle.rack_outside.specs.Link.{Seen, marked}
use Rattle.rack_outside.specs.Told.{Rose, appended}
use Rattle.rack_outside.specs.declared.link.LinkRead.{LinkRead}
use Rattle.rack_outside.specs.declared.link.LinkRead.TheVariants as read
use Rattle.rack_outside.specs.declared.link.LinkWrite.{LinkWrite}
use Rattle.rack_outside.specs.declared.link.LinkWrite.TheVariants as write
use Rattle.message_framing.specs.declared.intake.Feed.TheVariants as feed
use Rattle.message_framing.specs.declared.intake.Intake.{Intake}
use Rattle.message_framing.specs.Intake.{Fed, StandsWhole, AnswersRightly, RefusesMemory}
use Rattle.reply_framing.specs.declared.types.After.TheVariants.{Hijack}
use Rattle.reply_framing.specs.declared.types.Ask.{Ask}
use Rattle.reply_framing.specs.declared.types.Filled.{Filled}
use Rattle.reply_framing.specs.declared.types.Filled.TheVariants.{Full}
use Rattle.reply_framing.specs.Coming.{Coming}
use Rattle.reply_framing.specs.Fills.{Fills, after_then}
use Rattle.reply_framing.specs.Owes.{StandsFor}
use Rattle.reply_framing.specs.Reply.{WholeReply, reply}
use Rattle.talk_core.specs.declared.ended.Why.TheVariants as why
use Rattle.talk_core.specs.Tail.{Voice}
use Rattle.conn_steps.specs.Keeps.{BegunNow}
use Rattle.conn_steps.specs.Moments.{ended_by}
use Rattle.conn_steps.specs.Rests.{after_of, BegunAs}
use Rattle.conn_steps.specs.declared.moments.Late.{Late}
use Rattle.conn_steps.specs.declared.at.At.{At}
use Rattle.conn_steps.specs.declared.at.At.TheVariants as at

-- one read, of which these bytes are unfed then
abbrev pub ReadsInto : LinkRead → List ℕ → Seen → Seen → Type 0
ReadsInto (read.Bytes n) unfed old new =
    (n ≡ length unfed) × (0 < n) × (new.given ≡ appended old.given unfed) × (new.over ≡ old.over)
ReadsInto read.NotYet unfed old new = (unfed ≡ []) × (new.given ≡ old.given) × (new.over ≡ old.over) × Rose old.waits new.waits
ReadsInto read.End unfed old new = (unfed ≡ []) × (new.given ≡ old.given) × (new.over ≡ marked old.over)
ReadsInto read.Failed unfed old new =
    (unfed ≡ []) × (new.given ≡ old.given) × (new.over ≡ old.over) × Rose old.failed_reads new.failed_reads

-- the link took a piece from the front of the ring
abbrev pub TookFront : List ℕ → List ℕ → Seen → Seen → Type 0
TookFront before after old new =
    (piece : List ℕ) × (before ≡ piece ++ after) × (0 < length piece) × (new.sent ≡ appended old.sent piece)

-- one write of all bytes of the ring, of which these are left
abbrev pub Sends : LinkWrite → List ℕ → List ℕ → Seen → Seen → Type 0
Sends (write.Took n) before after old new = TookFront before after old new
Sends write.NotYet before after old new = (after ≡ before) × (new.sent ≡ old.sent) × Rose old.waits new.waits
Sends write.Failed before after old new = (after ≡ before) × (new.sent ≡ old.sent) × Rose old.failed_writes new.failed_writes
Sends write.NoMemory before after old new = (after ≡ before) × (new.sent ≡ old.sent)

-- what a write of all bytes of the ring leaves of them
abbrev pub SendsOff : LinkWrite → List ℕ → List ℕ → Type 0
SendsOff (write.Took n) before after = after ≡ drop n before
SendsOff write.NotYet before after = after ≡ before
SendsOff write.Failed before after = after ≡ before
SendsOff write.NoMemory before after = after ≡ before

-- the unfed bytes were fed, and this place is behind them
abbrev pub FeedsHeld : {B H : Type 0} → Intake → List ℕ → Intake → List ℕ → At B H → Type 0
FeedsHeld {B} {H} old unfed new left at.Reading = AnswersRightly old unfed feed.More new × (left ≡ [])
FeedsHeld {B} {H} old unfed new left at.Asked = (n : ℕ) × AnswersRightly old unfed (feed.Whole n) new × (left ≡ drop n unfed)
FeedsHeld {B} {H} old unfed new left (at.Refused f) = AnswersRightly old unfed (feed.Refused f) new × (left ≡ [])
FeedsHeld {B} {H} old unfed new left (at.Answering f) = ⊥
FeedsHeld {B} {H} old unfed new left (at.Writing keeps) = ⊥
FeedsHeld {B} {H} old unfed new left (at.Handing h) = ⊥
FeedsHeld {B} {H} old unfed new left at.Refusing = ⊥
FeedsHeld {B} {H} old unfed new left (at.Listening h) = ⊥
FeedsHeld {B} {H} old unfed new left (at.Speaking h) = ⊥
FeedsHeld {B} {H} old unfed new left at.Parting = ⊥
FeedsHeld {B} {H} old unfed new left (at.Over why.NoMemory) = RefusesMemory old unfed new
FeedsHeld {B} {H} old unfed new left (at.Over ended) = ⊥

-- the reply says nothing, and hands the connection to this hijacker
pub record HandsOver {H : Type 0} (h : H) (r : WholeReply H) : Type 0 where
  pub bytes : r.bytes ≡ []
  pub after : r.after ≡ Hijack
  pub hijacker : r.hijacker ≡ Some h

-- the whole reply is left to a hijacker
abbrev pub TakesAll : {H : Type 0} → Answer Content H → Type 0
TakesAll (answer.Reply status headers body part) = ⊥
TakesAll (answer.Raised text) = ⊥
TakesAll (answer.Taken hijacker) = ⊤

-- a framer that hands the connection over is spent, and its hijacker is at hand; another begins to say
abbrev pub BeginsTaken : {B H : Type 0} → Coming H → At B H → Type 0
BeginsTaken {B} {H} f at.Reading = ⊥
BeginsTaken {B} {H} f at.Asked = ⊥
BeginsTaken {B} {H} f (at.Refused fault) = ⊥
BeginsTaken {B} {H} f (at.Answering new) = (new ≡ f) × (f.after ≢ Hijack)
BeginsTaken {B} {H} f (at.Writing keeps) = ⊥
BeginsTaken {B} {H} f (at.Handing h) = (f.after ≡ Hijack) × (f.hijacker ≡ Some h)
BeginsTaken {B} {H} f at.Refusing = ⊥
BeginsTaken {B} {H} f (at.Listening h) = ⊥
BeginsTaken {B} {H} f (at.Speaking h) = ⊥
BeginsTaken {B} {H} f at.Parting = ⊥
BeginsTaken {B} {H} f (at.Over ended) = ⊥

-- the reply to this answer begins; or it says nothing, and a hijacker takes the connection over; or memory was refused
abbrev pub BeginsAt : {B H : Type 0} → Ask → Pairs → Answer Content H → Bool → At B H → Type 0
BeginsAt {B} {H} ask ps a last at.Reading = ⊥
BeginsAt {B} {H} ask ps a last at.Asked = ⊥
BeginsAt {B} {H} ask ps a last (at.Refused f) = ⊥
BeginsAt {B} {H} ask ps a last (at.Answering f) = StandsFor f (reply ask ps a last) × (0 < length f.rest.bytes)
BeginsAt {B} {H} ask ps a last (at.Writing keeps) = ⊥
BeginsAt {B} {H} ask ps a last (at.Handing h) = HandsOver h (reply ask ps a last)
BeginsAt {B} {H} ask ps a last at.Refusing = ⊥
BeginsAt {B} {H} ask ps a last (at.Listening h) = ⊥
BeginsAt {B} {H} ask ps a last (at.Speaking h) = ⊥
BeginsAt {B} {H} ask ps a last at.Parting = ⊥
BeginsAt {B} {H} ask ps a last (at.Over why.NoMemory) = ⊤
BeginsAt {B} {H} ask ps a last (at.Over ended) = ⊥

-- all that was left of a reply was appended to the ring, and whether the connection goes on behind it is told
pub record Written {H : Type 0} (f : Coming H) (before : Buffer ℕ) (keeps : Bool) (after : Buffer ℕ) : Type 0 where
  pub new : Coming H
  pub result : Filled
  pub unfilled : result ≢ Full
  pub fills : Fills f.rest (Ok result) new.rest before after
  pub after_is : new.after ≡ after_then (Ok result) f.after
  pub hijacker_is : new.hijacker ≡ f.hijacker
  pub keeps_is : after_of keeps ≡ new.after

-- the same of a reply that hands the connection to this hijacker
pub record WrittenTo {H : Type 0} (f : Coming H) (before : Buffer ℕ) (h : H) (after : Buffer ℕ) : Type 0 where
  pub new : Coming H
  pub result : Filled
  pub unfilled : result ≢ Full
  pub fills : Fills f.rest (Ok result) new.rest before after
  pub after_is : new.after ≡ after_then (Ok result) f.after
  pub hijacker_is : new.hijacker ≡ f.hijacker
  pub taken : new.after ≡ Hijack
  pub who : new.hijacker ≡ Some h

-- a framer that has no more to append is spent: what becomes of the connection is at hand
abbrev pub IsWritten : {B H : Type 0} → Coming H → At B H → Type 0
IsWritten {B} {H} f at.Reading = ⊥
IsWritten {B} {H} f at.Asked = ⊥
IsWritten {B} {H} f (at.Refused fault) = ⊥
IsWritten {B} {H} f (at.Answering new) = ⊥
IsWritten {B} {H} f (at.Writing keeps) = after_of keeps ≡ f.after
IsWritten {B} {H} f (at.Handing h) = (f.after ≡ Hijack) × (f.hijacker ≡ Some h)
IsWritten {B} {H} f at.Refusing = ⊥
IsWritten {B} {H} f (at.Listening h) = ⊥
IsWritten {B} {H} f (at.Speaking h) = ⊥
IsWritten {B} {H} f at.Parting = ⊥
IsWritten {B} {H} f (at.Over ended) = ⊥

-- the same of the framer at a place
abbrev pub IsWrittenAt : {B H : Type 0} → At B H → At B H → Type 0
IsWrittenAt {B} {H} at.Reading new = ⊥
IsWrittenAt {B} {H} at.Asked new = ⊥
IsWrittenAt {B} {H} (at.Refused fault) new = ⊥
IsWrittenAt {B} {H} (at.Answering f) new = IsWritten f new
IsWrittenAt {B} {H} (at.Writing keeps) new = ⊥
IsWrittenAt {B} {H} (at.Handing h) new = ⊥
IsWrittenAt {B} {H} at.Refusing new = ⊥
IsWrittenAt {B} {H} (at.Listening h) new = ⊥
IsWrittenAt {B} {H} (at.Speaking h) new = ⊥
IsWrittenAt {B} {H} at.Parting new = ⊥
IsWrittenAt {B} {H} (at.Over ended) new = ⊥

-- a framer hands the connection over
abbrev pub IsHanded : {B H : Type 0} → At B H → Type 0
IsHanded {B} {H} at.Reading = ⊥
IsHanded {B} {H} at.Asked = ⊥
IsHanded {B} {H} (at.Refused fault) = ⊥
IsHanded {B} {H} (at.Answering f) = f.after ≡ Hijack
IsHanded {B} {H} (at.Writing keeps) = ⊥
IsHanded {B} {H} (at.Handing h) = ⊥
IsHanded {B} {H} at.Refusing = ⊥
IsHanded {B} {H} (at.Listening h) = ⊥
IsHanded {B} {H} (at.Speaking h) = ⊥
IsHanded {B} {H} at.Parting = ⊥
IsHanded {B} {H} (at.Over ended) = ⊥

-- the ring was filled from what was left of a reply, and is full; or all of it was appended; or memory was refused
abbrev pub FillsFrom : {B H : Type 0} → Coming H → Buffer ℕ → At B H → Buffer ℕ → Type 0
FillsFrom {B} {H} f before at.Reading after = ⊥
FillsFrom {B} {H} f before at.Asked after = ⊥
FillsFrom {B} {H} f before (at.Refused fault) after = ⊥
FillsFrom {B} {H} f before (at.Answering new) after =
    Fills f.rest (Ok Full) new.rest before after × (new.after ≡ f.after) × (new.hijacker ≡ f.hijacker)
FillsFrom {B} {H} f before (at.Writing keeps) after = Written f before keeps after
FillsFrom {B} {H} f before (at.Handing h) after = WrittenTo f before h after
FillsFrom {B} {H} f before at.Refusing after = ⊥
FillsFrom {B} {H} f before (at.Listening h) after = ⊥
FillsFrom {B} {H} f before (at.Speaking h) after = ⊥
FillsFrom {B} {H} f before at.Parting after = ⊥
FillsFrom {B} {H} f before (at.Over why.NoMemory) after =
    (new : Coming H) × (e : AllocError) × Fills f.rest (Err e) new.rest before after
FillsFrom {B} {H} f before (at.Over ended) after = ⊥

-- the same at a place where the framer has more to append; at the others nothing changes
abbrev pub FillsTo : {B H : Type 0} → At B H → Buffer ℕ → At B H → Buffer ℕ → Type 0
FillsTo {B} {H} at.Reading before new after = (new ≡ at.Reading) × (after ≡ before)
FillsTo {B} {H} at.Asked before new after = (new ≡ at.Asked) × (after ≡ before)
FillsTo {B} {H} (at.Refused f) before new after = (new ≡ at.Refused f) × (after ≡ before)
FillsTo {B} {H} (at.Answering f) before new after = FillsFrom f before new after
FillsTo {B} {H} (at.Writing keeps) before new after = (new ≡ at.Writing keeps) × (after ≡ before)
FillsTo {B} {H} (at.Handing h) before new after = (new ≡ at.Handing h) × (after ≡ before)
FillsTo {B} {H} at.Refusing before new after = (new ≡ at.Refusing) × (after ≡ before)
FillsTo {B} {H} (at.Listening h) before new after = (new ≡ at.Listening h) × (after ≡ before)
FillsTo {B} {H} (at.Speaking h) before new after = (new ≡ at.Speaking h) × (after ≡ before)
FillsTo {B} {H} at.Parting before new after = (new ≡ at.Parting) × (after ≡ before)
FillsTo {B} {H} (at.Over ended) before new after = (new ≡ at.Over ended) × (after ≡ before)

-- behind the reply at this place a whole request stands, where the connection goes on
abbrev pub HasRequest : {B H : Type 0} → At B H → Intake → Type 0
HasRequest {B} {H} at.Reading intake = ⊤
HasRequest {B} {H} at.Asked intake = ⊤
HasRequest {B} {H} (at.Refused f) intake = ⊤
HasRequest {B} {H} (at.Answering f) intake = ⊤
HasRequest {B} {H} (at.Writing true) intake = StandsWhole intake
HasRequest {B} {H} (at.Writing false) intake = ⊤
HasRequest {B} {H} (at.Handing h) intake = ⊤
HasRequest {B} {H} at.Refusing intake = ⊤
HasRequest {B} {H} (at.Listening h) intake = ⊤
HasRequest {B} {H} (at.Speaking h) intake = ⊤
HasRequest {B} {H} at.Parting intake = ⊤
HasRequest {B} {H} (at.Over ended) intake = ⊤

-- the intake and the unfed bytes are as before
abbrev pub Untouched : Intake → List ℕ → Intake → List ℕ → Type 0
Untouched old unfed new left = (new ≡ old) × (left ≡ unfed)

-- a hijacker that goes on was told these bytes, and this one is behind them; what it said is in the ring, and no byte
-- is unfed any more
pub record GoesOnTo {H : Type 0} (V : Voice H) (h : H) (piece : List ℕ) (now : H) (ring left : List ℕ) : Type 0 where
  pub ring_is : ring ≡ (V.says h piece).bytes
  pub goes : (V.says h piece).go_on ≡ true
  pub behind : GoesOnAs (V.says h) (V.ends h) piece (V.says now) (V.ends now)
  pub left_is : left ≡ []

-- one that doesn't go on
pub record StopsTo {H : Type 0} (V : Voice H) (h : H) (piece ring : List ℕ) : Type 0 where
  pub ring_is : ring ≡ (V.says h piece).bytes
  pub stops : (V.says h piece).go_on ≡ false

-- a hijacker was told these bytes, with nothing in the ring; or memory was refused
abbrev pub Tells : {B H : Type 0} → Voice H → H → List ℕ → At B H → List ℕ → List ℕ → Type 0
Tells {B} {H} V h piece at.Reading ring left = ⊥
Tells {B} {H} V h piece at.Asked ring left = ⊥
Tells {B} {H} V h piece (at.Refused f) ring left = ⊥
Tells {B} {H} V h piece (at.Answering f) ring left = ⊥
Tells {B} {H} V h piece (at.Writing keeps) ring left = ⊥
Tells {B} {H} V h piece (at.Handing now) ring left = ⊥
Tells {B} {H} V h piece at.Refusing ring left = ⊥
Tells {B} {H} V h piece (at.Listening now) ring left = GoesOnTo V h piece now ring left × (ring ≡ [])
Tells {B} {H} V h piece (at.Speaking now) ring left = GoesOnTo V h piece now ring left × (0 < length ring)
Tells {B} {H} V h piece at.Parting ring left = StopsTo V h piece ring × (0 < length ring)
Tells {B} {H} V h piece (at.Over why.NoMemory) ring left = ⊤
Tells {B} {H} V h piece (at.Over why.Hijacked) ring left = StopsTo V h piece [] × (ring ≡ [])
Tells {B} {H} V h piece (at.Over ended) ring left = ⊥

-- a hijacker was told the peer's end, with nothing in the ring; or memory was refused
abbrev pub TellsEnd : {B H : Type 0} → Voice H → H → At B H → List ℕ → Type 0
TellsEnd {B} {H} V h at.Reading ring = ⊥
TellsEnd {B} {H} V h at.Asked ring = ⊥
TellsEnd {B} {H} V h (at.Refused f) ring = ⊥
TellsEnd {B} {H} V h (at.Answering f) ring = ⊥
TellsEnd {B} {H} V h (at.Writing keeps) ring = ⊥
TellsEnd {B} {H} V h (at.Handing now) ring = ⊥
TellsEnd {B} {H} V h at.Refusing ring = ⊥
TellsEnd {B} {H} V h (at.Listening now) ring = ⊥
TellsEnd {B} {H} V h (at.Speaking now) ring = ⊥
TellsEnd {B} {H} V h at.Parting ring = (ring ≡ V.ends h []) × (0 < length ring)
TellsEnd {B} {H} V h (at.Over why.NoMemory) ring = ⊤
TellsEnd {B} {H} V h (at.Over why.Hijacked) ring = (V.ends h [] ≡ []) × (ring ≡ [])
TellsEnd {B} {H} V h (at.Over ended) ring = ⊥

-- the hijacker at this place was told the unfed bytes; the other places stay as they are
abbrev pub HandsOn : {B H : Type 0} → Voice H → At B H → List ℕ → List ℕ → At B H → List ℕ → List ℕ → Type 0
HandsOn {B} {H} V at.Reading unfed before then after left = (then ≡ at.Reading) × (after ≡ before) × (left ≡ unfed)
HandsOn {B} {H} V at.Asked unfed before then after left = (then ≡ at.Asked) × (after ≡ before) × (left ≡ unfed)
HandsOn {B} {H} V (at.Refused f) unfed before then after left = (then ≡ at.Refused f) × (after ≡ before) × (left ≡ unfed)
HandsOn {B} {H} V (at.Answering f) unfed before then after left = (then ≡ at.Answering f) × (after ≡ before) × (left ≡ unfed)
HandsOn {B} {H} V (at.Writing keeps) unfed before then after left = (then ≡ at.Writing keeps) × (after ≡ before) × (left ≡ unfed)
HandsOn {B} {H} V (at.Handing h) unfed before then after left = Tells V h unfed then after left
HandsOn {B} {H} V at.Refusing unfed before then after left = (then ≡ at.Refusing) × (after ≡ before) × (left ≡ unfed)
HandsOn {B} {H} V (at.Listening h) unfed before then after left = Tells V h unfed then after left
HandsOn {B} {H} V (at.Speaking h) unfed before then after left = (then ≡ at.Speaking h) × (after ≡ before) × (left ≡ unfed)
HandsOn {B} {H} V at.Parting unfed before then after left = (then ≡ at.Parting) × (after ≡ before) × (left ≡ unfed)
HandsOn {B} {H} V (at.Over ended) unfed before then after left = (then ≡ at.Over ended) × (after ≡ before) × (left ≡ unfed)

-- the hijacker at this place, where one has the connection, was told the peer's end
abbrev pub EndsOn : {B H : Type 0} → Voice H → At B H → At B H → List ℕ → Type 0
EndsOn {B} {H} V at.Reading then ring = ⊤
EndsOn {B} {H} V at.Asked then ring = ⊤
EndsOn {B} {H} V (at.Refused f) then ring = ⊤
EndsOn {B} {H} V (at.Answering f) then ring = ⊤
EndsOn {B} {H} V (at.Writing keeps) then ring = ⊤
EndsOn {B} {H} V (at.Handing h) then ring = ⊤
EndsOn {B} {H} V at.Refusing then ring = ⊤
EndsOn {B} {H} V (at.Listening h) then ring = TellsEnd V h then ring
EndsOn {B} {H} V (at.Speaking h) then ring = ⊤
EndsOn {B} {H} V at.Parting then ring = ⊤
EndsOn {B} {H} V (at.Over ended) then ring = ⊤

-- the link took all of the ring: the connection goes on with the unfed bytes, or is handed to a hijacker that is told
-- them, or ends; or more of the reply comes
abbrev pub CompletesTo : {B H : Type 0} → Option Late → Voice H → At B H → Intake → List ℕ → At B H → Intake → List ℕ → List ℕ → Type 0
CompletesTo {B} {H} late V at.Reading old unfed then new left ring = (then ≡ at.Reading) × Untouched old unfed new left × (ring ≡ [])
CompletesTo {B} {H} late V at.Asked old unfed then new left ring = (then ≡ at.Asked) × Untouched old unfed new left × (ring ≡ [])
CompletesTo {B} {H} late V (at.Refused f) old unfed then new left ring = (then ≡ at.Refused f) × Untouched old unfed new left × (ring ≡ [])
CompletesTo {B} {H} late V (at.Answering f) old unfed then new left ring = (then ≡ at.Answering f) × Untouched old unfed new left × (ring ≡ [])
CompletesTo {B} {H} late V (at.Writing true) old unfed then new left ring =
    (fresh : Intake) × Fed fresh [] × FeedsHeld fresh unfed new left then × (ring ≡ [])
CompletesTo {B} {H} late V (at.Writing false) old unfed then new left ring = (then ≡ at.Over why.Closed) × Untouched old unfed new left × (ring ≡ [])
CompletesTo {B} {H} late V (at.Handing h) old unfed then new left ring = Tells V h unfed then ring left
CompletesTo {B} {H} late V at.Refusing old unfed then new left ring = (then ≡ at.Over (ended_by late)) × Untouched old unfed new left × (ring ≡ [])
CompletesTo {B} {H} late V (at.Listening h) old unfed then new left ring = (then ≡ at.Listening h) × Untouched old unfed new left × (ring ≡ [])
CompletesTo {B} {H} late V (at.Speaking h) old unfed then new left ring = (then ≡ at.Listening h) × Untouched old unfed new left × (ring ≡ [])
CompletesTo {B} {H} late V at.Parting old unfed then new left ring = (then ≡ at.Over why.Hijacked) × Untouched old unfed new left × (ring ≡ [])
CompletesTo {B} {H} late V (at.Over ended) old unfed then new left ring = (then ≡ at.Over ended) × Untouched old unfed new left × (ring ≡ [])

-- the moment at which the request was begun that is to be read at this place, if one was: the one kept, or this one
abbrev pub BeginsAs : {B H : Type 0} → At B H → Intake → ℕ → Option ℕ → Option ℕ → Type 0
BeginsAs {B} {H} at.Reading intake now before after =
    ((b : List ℕ) → Fed intake b → BegunAs after b) × BegunNow now before after
BeginsAs {B} {H} at.Asked intake now before after = after ≡ None
BeginsAs {B} {H} (at.Refused f) intake now before after = after ≡ None
BeginsAs {B} {H} (at.Answering f) intake now before after = after ≡ before
BeginsAs {B} {H} (at.Writing keeps) intake now before after = after ≡ before
BeginsAs {B} {H} (at.Handing h) intake now before after = after ≡ before
BeginsAs {B} {H} at.Refusing intake now before after = after ≡ before
BeginsAs {B} {H} (at.Listening h) intake now before after = after ≡ before
BeginsAs {B} {H} (at.Speaking h) intake now before after = after ≡ before
BeginsAs {B} {H} at.Parting intake now before after = after ≡ before
BeginsAs {B} {H} (at.Over why) intake now before after = after ≡ before
