-- What contracts see of a connection.
use Rattle.std.specs.Prelude.{◌≡◌, ℕ, ◌-◌, ◌≤◌, Bool, true, List, [], ◌++◌, length, Option, None, Some, if◌then◌else◌}
use Rattle.rack_types.specs.declared.fault.Fault.{Fault}
use Rattle.rack_types.specs.declared.peer.Local.{Local}
use Rattle.rack_types.specs.declared.body.Body.{Ghosts}
use Rattle.rack_outside.specs.Link.{Seen}
use Rattle.rack_outside.specs.Told.{appended}
use Rattle.reply_framing.specs.declared.types.After.{After}
use Rattle.reply_framing.specs.declared.types.After.TheVariants.{Keep, Close, Hijack}
use Rattle.reply_framing.specs.Reply.{body_after}
use Rattle.talk_core.specs.Counts.{counted_by}
use Rattle.talk_core.specs.declared.ended.Life.{Life}
use Rattle.talk_core.specs.declared.ended.Why.{Why}
use Rattle.conn_steps.specs.declared.inside.Inside.{Inside}
use Rattle.conn_steps.specs.declared.moments.Ending.{Ending}
use Rattle.conn_steps.specs.declared.moments.Moments.{Moments}
use Rattle.conn_steps.specs.declared.at.At.{At}
use Rattle.conn_steps.specs.declared.at.At.TheVariants as at
use Rattle.conn_steps.specs.declared.state.State.{State}
use Rattle.conn_steps.specs.At.{state_at}
use Rattle.conn_steps.specs.Rests.{after_of}

-- what a connection shows: the peer, the local side and its lives; how many requests were run, and, while it isn't
-- Over, to how many of them the reply was sent whole (where it is Over, that number is `calls` and says nothing); how
-- many bytes were read, up to 2^64 - 1; the bytes that are owed; its state; where that is Over, why; where it is
-- Ready, the refusal that stands, or none where a request does; the unfed bytes, which were read and not fed;
-- what becomes of the connection behind what is owed; that no memory is wanted to make the rest of it; of the bytes
-- that are owed those that are in the ring; what was told of its end; and the moments that it keeps
pub record Shown : Type 0 where
  pub peer : List ℕ
  pub local : Local
  pub lives : List Life
  pub calls : ℕ
  pub replied : ℕ
  pub taken : ℕ
  pub owed : List ℕ
  pub state : State
  pub why : Option Why
  pub fault : Option Fault
  pub unfed : List ℕ
  pub after : After
  pub sure : Bool
  pub ring : List ℕ
  pub ending : Ending
  pub moments : Moments

-- how many replies to requests were sent whole at this place, behind so many runs, while the connection isn't over
abbrev pub replied_at : {B H : Type 0} → At B H → ℕ → ℕ
replied_at {B} {H} at.Reading calls = calls
replied_at {B} {H} at.Asked calls = calls
replied_at {B} {H} (at.Refused f) calls = calls
replied_at {B} {H} (at.Answering f) calls = calls - 1
replied_at {B} {H} (at.Writing keeps) calls = calls - 1
replied_at {B} {H} (at.Handing h) calls = calls - 1
replied_at {B} {H} at.Refusing calls = calls
replied_at {B} {H} (at.Listening h) calls = calls
replied_at {B} {H} (at.Speaking h) calls = calls
replied_at {B} {H} at.Parting calls = calls
replied_at {B} {H} (at.Over why) calls = calls

-- what is owed at this place, with these bytes in the ring
abbrev pub owed_at : {B H : Type 0} → At B H → List ℕ → List ℕ
owed_at {B} {H} at.Reading ring = ring
owed_at {B} {H} at.Asked ring = ring
owed_at {B} {H} (at.Refused f) ring = ring
owed_at {B} {H} (at.Answering f) ring = ring ++ f.rest.bytes
owed_at {B} {H} (at.Writing keeps) ring = ring
owed_at {B} {H} (at.Handing h) ring = ring
owed_at {B} {H} at.Refusing ring = ring
owed_at {B} {H} (at.Listening h) ring = ring
owed_at {B} {H} (at.Speaking h) ring = ring
owed_at {B} {H} at.Parting ring = ring
owed_at {B} {H} (at.Over why) ring = []

-- the bytes that are in the ring, of those that are owed
abbrev pub ring_at : {B H : Type 0} → At B H → List ℕ → List ℕ
ring_at {B} {H} at.Reading ring = ring
ring_at {B} {H} at.Asked ring = ring
ring_at {B} {H} (at.Refused f) ring = ring
ring_at {B} {H} (at.Answering f) ring = ring
ring_at {B} {H} (at.Writing keeps) ring = ring
ring_at {B} {H} (at.Handing h) ring = ring
ring_at {B} {H} at.Refusing ring = ring
ring_at {B} {H} (at.Listening h) ring = ring
ring_at {B} {H} (at.Speaking h) ring = ring
ring_at {B} {H} at.Parting ring = ring
ring_at {B} {H} (at.Over why) ring = []

abbrev pub why_at : {B H : Type 0} → At B H → Option Why
why_at {B} {H} at.Reading = None
why_at {B} {H} at.Asked = None
why_at {B} {H} (at.Refused f) = None
why_at {B} {H} (at.Answering f) = None
why_at {B} {H} (at.Writing keeps) = None
why_at {B} {H} (at.Handing h) = None
why_at {B} {H} at.Refusing = None
why_at {B} {H} (at.Listening h) = None
why_at {B} {H} (at.Speaking h) = None
why_at {B} {H} at.Parting = None
why_at {B} {H} (at.Over why) = Some why

-- the refusal that stands at this place
abbrev pub fault_at : {B H : Type 0} → At B H → Option Fault
fault_at {B} {H} at.Reading = None
fault_at {B} {H} at.Asked = None
fault_at {B} {H} (at.Refused f) = Some f
fault_at {B} {H} (at.Answering f) = None
fault_at {B} {H} (at.Writing keeps) = None
fault_at {B} {H} (at.Handing h) = None
fault_at {B} {H} at.Refusing = None
fault_at {B} {H} (at.Listening h) = None
fault_at {B} {H} (at.Speaking h) = None
fault_at {B} {H} at.Parting = None
fault_at {B} {H} (at.Over why) = None

-- what becomes of the connection behind what is owed at this place; where nothing is owed, it goes on
abbrev pub after_at : {B H : Type 0} → At B H → After
after_at {B} {H} at.Reading = Keep
after_at {B} {H} at.Asked = Keep
after_at {B} {H} (at.Refused f) = Keep
after_at {B} {H} (at.Answering f) = body_after f.rest.rule f.after
after_at {B} {H} (at.Writing keeps) = after_of keeps
after_at {B} {H} (at.Handing h) = Hijack
after_at {B} {H} at.Refusing = Close
after_at {B} {H} (at.Listening h) = Keep
after_at {B} {H} (at.Speaking h) = Keep
after_at {B} {H} at.Parting = Close
after_at {B} {H} (at.Over why) = Keep

-- to make the rest of what is owed wants no memory: all of it is in the ring, or the body never wants any
abbrev pub sure_at : {B H : Type 0} → At B H → Bool
sure_at {B} {H} at.Reading = true
sure_at {B} {H} at.Asked = true
sure_at {B} {H} (at.Refused f) = true
sure_at {B} {H} (at.Answering f) = f.rest.sure
sure_at {B} {H} (at.Writing keeps) = true
sure_at {B} {H} (at.Handing h) = true
sure_at {B} {H} at.Refusing = true
sure_at {B} {H} (at.Listening h) = true
sure_at {B} {H} (at.Speaking h) = true
sure_at {B} {H} at.Parting = true
sure_at {B} {H} (at.Over why) = true

abbrev pub shows : {B H : Type 0} {g : Ghosts B} → Inside B H g → Shown
shows {B} {H} {g} p = record {
  peer = p.peer;
  local = p.local;
  lives = p.lives.items;
  calls = p.calls;
  replied = replied_at p.at p.calls;
  taken = p.taken;
  owed = owed_at p.at p.ring.items;
  state = state_at p.at;
  why = why_at p.at;
  fault = fault_at p.at;
  unfed = p.unfed;
  after = after_at p.at;
  sure = sure_at p.at;
  ring = ring_at p.at p.ring.items;
  ending = p.ending;
  moments = p.moments;
}

-- what a call with so many reads and writes leaves: the connection is the same one on the same link, no count of
-- the link fell, and these bytes came
pub record Moved (old new : Shown) (before after : Seen) (reads writes : ℕ) : Type 0 where
  pub peer : new.peer ≡ old.peer
  pub local : new.local ≡ old.local
  pub lives : new.lives ≡ old.lives
  pub tag : after.tag ≡ before.tag
  pub link_peer : after.peer ≡ before.peer
  pub borrows : after.borrows ≡ before.borrows
  pub input : after.input ≡ before.input
  pub waits : before.waits ≤ after.waits
  pub failed_reads : before.failed_reads ≤ after.failed_reads
  pub failed_writes : before.failed_writes ≤ after.failed_writes
  pub reads_are : after.reads ≡ counted_by reads before.reads
  pub writes_are : after.writes ≡ counted_by writes before.writes
  pub came : List ℕ
  pub given : after.given ≡ appended before.given came
  pub taken : new.taken ≡ counted_by (length came) old.taken
