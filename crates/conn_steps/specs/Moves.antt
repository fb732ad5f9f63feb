-- The moves of a call, one by one: a request is run, a refusal is named, memory is refused, a read or a write is made.
use Rattle.std.specs.Prelude.{◌≡◌, ◌≢◌, ℕ, ◌+◌, ◌-◌, ◌<◌, ◌≤◌, Bool, true, false, List, [], ◌∷◌, length, take, drop, Option, None, Some, ◌⊎◌, ⊤}
use Rattle.rack_types.specs.declared.fault.Fault.{Fault}
use Rattle.rack_outside.specs.Link.{Seen, Reads, IsOneRead, ReadsAhead, Writes, IsOneWrite, WritesAhead, next_place}
use Rattle.rack_outside.specs.declared.link.LinkRead.{LinkRead}
use Rattle.rack_outside.specs.declared.link.LinkRead.TheVariants as read
use Rattle.rack_outside.specs.declared.link.LinkWrite.{LinkWrite}
use Rattle.rack_outside.specs.declared.link.LinkWrite.TheVariants as write
use Rattle.message_framing.specs.Intake.{LacksRightly}
use Rattle.reply_framing.specs.Fault.{fault_reply}
use Rattle.reply_framing.specs.declared.types.After.{After}
use Rattle.reply_framing.specs.declared.types.After.TheVariants.{Keep, Close, Hijack}
use Rattle.talk_core.specs.Counts.{counted_by}
use Rattle.talk_core.specs.declared.ended.Why.{Why}
use Rattle.talk_core.specs.declared.ended.Why.TheVariants as why
use Rattle.conn_steps.specs.declared.state.State.{State}
use Rattle.conn_steps.specs.declared.state.State.TheVariants as state
use Rattle.conn_steps.specs.Keeps.{Keeps, Move, Run, Refusal, Want, Read, Write}
use Rattle.conn_steps.specs.Moments.{ended_by}
use Rattle.conn_steps.specs.Shown.{Shown}
pub use Rattle.conn_steps.specs.Keeps.{read_room, ring_room, Move, Run, Refusal, Want, Read, Write}

-- the peer, the local side, the lives and the count of bytes that were read are as before
pub record SameShown (old new : Shown) : Type 0 where
  pub peer : new.peer ≡ old.peer
  pub local : new.local ≡ old.local
  pub lives : new.lives ≡ old.lives
  pub taken : new.taken ≡ old.taken

-- a request was run, or was to be: its reply is under way; or it says nothing, and a hijacker took the connection over,
-- which was told the unfed bytes, and goes on, or said its last; or memory was refused
abbrev pub StartsAs : State → Option Why → Shown → Shown → Type 0
StartsAs state.Reading w old new = ⊥
StartsAs state.Ready w old new = ⊥
StartsAs state.Answering w old new = (w ≡ None) × (new.replied ≡ old.replied) × (new.unfed ≡ old.unfed)
StartsAs state.Hijacked w old new = (w ≡ None) × (new.replied ≡ old.replied + 1)
StartsAs state.Over w old new = (w ≡ Some why.NoMemory) ⊎ (w ≡ Some why.Hijacked)

-- a request was run: its reply begins
pub record Starts (old new : Shown) : Type 0 where
  pub same : SameShown old new
  pub calls : new.calls ≡ old.calls + 1
  pub place : StartsAs new.state new.why old new

-- the reply that names this fault was begun, and all of it is owed. That takes no memory
pub record NamesFault (fault : Fault) (old new : Shown) : Type 0 where
  pub same : SameShown old new
  pub calls : new.calls ≡ old.calls
  pub replied : new.replied ≡ old.replied
  pub state : new.state ≡ state.Answering
  pub why : new.why ≡ None
  pub owed : new.owed ≡ fault_reply fault
  pub unfed : new.unfed ≡ old.unfed
  pub after : new.after ≡ Close
  pub sure : new.sure ≡ true

-- memory was refused, and the connection ended of it
pub record WantsMemory (old new : Shown) : Type 0 where
  pub same : SameShown old new
  pub calls : new.calls ≡ old.calls
  pub state : new.state ≡ state.Over
  pub why : new.why ≡ Some why.NoMemory

-- the link's one read, into a room of that size
abbrev pub OffersRoom : LinkRead → Seen → Seen → Type 0
OffersRoom answer s s' =
    (room : List ℕ) × (length room ≡ read_room) × Reads answer room s s' × ReadsAhead answer room s.ahead (next_place s) s'.ahead

-- how many bytes a read gave, and whether it had to wait
abbrev pub size_of : LinkRead → ℕ
size_of (read.Bytes n) = n
size_of read.NotYet = 0
size_of read.End = 0
size_of read.Failed = 0

abbrev pub read_waits : LinkRead → Bool
read_waits (read.Bytes n) = false
read_waits read.NotYet = true
read_waits read.End = false
read_waits read.Failed = false

-- behind bytes that were fed to the reader of requests more are to be read, or a request or a refusal stands, or memory
-- was refused
abbrev pub FedTo : State → Option Why → Type 0
FedTo state.Reading w = w ≡ None
FedTo state.Ready w = w ≡ None
FedTo state.Answering w = ⊥
FedTo state.Hijacked w = ⊥
FedTo state.Over w = w ≡ Some why.NoMemory

-- behind what a hijacker was told it has the connection, or what it said last is owed, or was nothing, or memory was
-- refused
abbrev pub ToldTo : State → Option Why → Type 0
ToldTo state.Reading w = ⊥
ToldTo state.Ready w = ⊥
ToldTo state.Answering w = ⊥
ToldTo state.Hijacked w = w ≡ None
ToldTo state.Over w = (w ≡ Some why.Hijacked) ⊎ (w ≡ Some why.NoMemory)

-- the same behind the peer's end, where a hijacker that still has the connection said something
abbrev pub EndedTo : Shown → Type 0
EndedTo new = ToldTo new.state new.why × (new.state ≡ state.Hijacked → (new.after ≡ Close) × (new.owed ≢ []))

-- what a read leaves, by the state before it: behind bytes what they make; as before where it had to wait; behind the
-- peer's end, and behind a failure, an end that is named for it, unless a hijacker was told the peer's end
abbrev pub BehindRead : State → LinkRead → Shown → Shown → Type 0
BehindRead state.Reading (read.Bytes n) old new = FedTo new.state new.why × (new.owed ≡ old.owed)
BehindRead state.Reading read.NotYet old new = new ≡ old
BehindRead state.Reading read.End old new = (new.state ≡ state.Over) × (new.why ≡ Some why.PeerEnd)
BehindRead state.Reading read.Failed old new = (new.state ≡ state.Over) × (new.why ≡ Some why.ReadFailed)
BehindRead state.Hijacked (read.Bytes n) old new = ToldTo new.state new.why
BehindRead state.Hijacked read.NotYet old new = new ≡ old
BehindRead state.Hijacked read.End old new = EndedTo new
BehindRead state.Hijacked read.Failed old new = (new.state ≡ state.Over) × (new.why ≡ Some why.ReadFailed)
BehindRead state.Ready answer old new = ⊥
BehindRead state.Answering answer old new = ⊥
BehindRead state.Over answer old new = ⊥

-- one read, which answered so
pub record ReadsOnce (answer : LinkRead) (old new : Shown) (s s' : Seen) : Type 0 where
  pub offers : OffersRoom answer s s'
  pub one : IsOneRead s s'
  pub peer : new.peer ≡ old.peer
  pub local : new.local ≡ old.local
  pub lives : new.lives ≡ old.lives
  pub calls : new.calls ≡ old.calls
  pub replied : new.replied ≡ old.replied
  pub taken : new.taken ≡ counted_by (size_of answer) old.taken
  pub behind : BehindRead old.state answer old new

-- whether a write had to wait
abbrev pub write_waits : LinkWrite → Bool
write_waits (write.Took n) = false
write_waits write.NotYet = true
write_waits write.Failed = false
write_waits write.NoMemory = false

-- some bytes are still owed behind a write that took bytes
pub record StillOwes (rest : List ℕ) (old new : Shown) : Type 0 where
  pub some : rest ≢ []
  pub owed : new.owed ≡ rest
  pub state : new.state ≡ old.state
  pub why : new.why ≡ None
  pub replied : new.replied ≡ old.replied
  pub unfed : new.unfed ≡ old.unfed
  pub after : new.after ≡ old.after
  pub sure : (old.sure ≡ true) ⊎ (length old.owed ≤ ring_room) → new.sure ≡ true

-- a reply was sent whole behind which the connection goes on: the unfed bytes were fed, for which memory may be refused
-- where they take some
abbrev pub KeptTo : State → Option Why → Shown → Shown → Type 0
KeptTo state.Reading w old new = (w ≡ None) × (new.replied ≡ old.replied + 1) × (new.owed ≡ [])
KeptTo state.Ready w old new = (w ≡ None) × (new.replied ≡ old.replied + 1) × (new.owed ≡ [])
KeptTo state.Answering w old new = ⊥
KeptTo state.Hijacked w old new = ⊥
KeptTo state.Over w old new = (w ≡ Some why.NoMemory) × LacksRightly [] old.unfed

-- all that was owed is sent. Behind a reply the connection goes on or closes, or a hijacker takes it over and is told the
-- unfed bytes. Behind what a hijacker said it has the connection, or that was its last
abbrev pub SentTo : State → After → Shown → Shown → Type 0
SentTo state.Answering Keep old new = KeptTo new.state new.why old new
SentTo state.Answering Close old new = (new.state ≡ state.Over) × (new.why ≡ Some (ended_by old.ending.late))
SentTo state.Answering Hijack old new = ToldTo new.state new.why × (new.state ≡ state.Hijacked → new.replied ≡ old.replied + 1)
SentTo state.Hijacked Keep old new =
    (new.state ≡ state.Hijacked) × (new.why ≡ None) × (new.replied ≡ old.replied) × (new.owed ≡ [])
SentTo state.Hijacked Close old new = (new.state ≡ state.Over) × (new.why ≡ Some why.Hijacked)
SentTo state.Hijacked Hijack old new = ⊥
SentTo state.Reading after old new = ⊥
SentTo state.Ready after old new = ⊥
SentTo state.Over after old new = ⊥

-- what a write leaves: the bytes that it took are no longer owed; as before where it had to wait; and else an end
-- that is named for it
abbrev pub BehindWrite : LinkWrite → Shown → Shown → Type 0
BehindWrite (write.Took n) old new =
    StillOwes (drop n old.owed) old new ⊎ ((drop n old.owed ≡ []) × SentTo old.state old.after old new)
BehindWrite write.NotYet old new = StillOwes old.owed old new
BehindWrite write.Failed old new = (new.state ≡ state.Over) × (new.why ≡ Some why.WriteFailed)
BehindWrite write.NoMemory old new = (new.state ≡ state.Over) × (new.why ≡ Some why.NoMemory)

-- one write, which answered so. It offered the front of what is owed, as much as the ring holds
pub record WritesOnce (answer : LinkWrite) (old new : Shown) (s s' : Seen) : Type 0 where
  pub offers : Writes answer (take ring_room old.owed) s s'
  pub one : IsOneWrite s s'
  pub ahead : WritesAhead answer (take ring_room old.owed) s.ahead (next_place s) s'.ahead
  pub same : SameShown old new
  pub calls : new.calls ≡ old.calls
  pub behind : BehindWrite answer old new

-- bytes are owed where a reply is under way, and else only where a hijacker has the connection. No byte is unfed where
-- more are to be read, nor where a hijacker goes on; and what one said last is owed
abbrev pub OwesAs : State → Shown → Type 0
OwesAs state.Reading s = (s.owed ≡ []) × (s.unfed ≡ [])
OwesAs state.Ready s = s.owed ≡ []
OwesAs state.Answering s = s.owed ≢ []
OwesAs state.Hijacked s = (s.after ≢ Hijack) × (s.after ≡ Keep → s.unfed ≡ []) × (s.after ≡ Close → s.owed ≢ [])
OwesAs state.Over s = s.owed ≡ []

abbrev pub OwesRightly : Shown → Type 0
OwesRightly s = OwesAs s.state s

-- a point of a call: what the connection and its link show; how many runs, reads and writes are left of those that
-- the call may make; and whether the link had to wait
pub record Point : Type 0 where
  pub shown : Shown
  pub seen : Seen
  pub runs : ℕ
  pub reads : ℕ
  pub writes : ℕ
  pub waited : Bool

-- a request may be run, a refusal be named or a read be made: some are left of each kind, and nothing had to wait
pub record IsOpen (m : Point) : Type 0 where
  pub runs : 0 < m.runs
  pub reads : 0 < m.reads
  pub writes : 0 < m.writes
  pub unwaited : m.waited ≡ false

-- a write may be made
pub record MayWrite (m : Point) : Type 0 where
  pub reads : 0 < m.reads
  pub writes : 0 < m.writes
  pub unwaited : m.waited ≡ false

-- a move of so many runs, reads and writes, in which the link had to wait or not
pub record Spends (runs reads writes : ℕ) (waits : Bool) (m n : Point) : Type 0 where
  pub runs_are : m.runs ≡ n.runs + runs
  pub reads_are : m.reads ≡ n.reads + reads
  pub writes_are : m.writes ≡ n.writes + writes
  pub waits_is : n.waited ≡ waits

-- bytes are owed: a reply is under way, or what a hijacker said was not sent
abbrev pub IsOwing : Shown → Type 0
IsOwing s = (s.state ≡ state.Answering) ⊎ ((s.state ≡ state.Hijacked) × (s.owed ≢ []))

-- one move from a point to the next: where a request or a refusal stands, it is taken up; where bytes are owed, they
-- are written; and only where neither is so, is there a read. Memory is refused where a request is to be run, and where
-- a body is asked for the rest of what is owed
abbrev pub MakesMove : Move → Point → Point → Type 0
MakesMove Run m n =
    (m.shown.state ≡ state.Ready) × (m.shown.fault ≡ None) × IsOpen m × Spends 1 0 0 false m n × (n.seen ≡ m.seen) × Starts m.shown n.shown
MakesMove (Refusal fault) m n =
    (m.shown.state ≡ state.Ready) × (m.shown.fault ≡ Some fault) × IsOpen m × Spends 0 0 0 false m n × (n.seen ≡ m.seen)
    × NamesFault fault m.shown n.shown
MakesMove Want m n =
    (((m.shown.state ≡ state.Ready) × (m.shown.fault ≡ None) × IsOpen m)
    ⊎ ((m.shown.state ≡ state.Answering) × (m.shown.sure ≡ false) × MayWrite m))
    × Spends 0 0 0 false m n × (n.seen ≡ m.seen) × WantsMemory m.shown n.shown
MakesMove (Read answer) m n =
    (m.shown.state ≡ state.Reading) × IsOpen m × Spends 0 1 0 (read_waits answer) m n × ReadsOnce answer m.shown n.shown m.seen n.seen
MakesMove (Write answer) m n =
    IsOwing m.shown × MayWrite m × Spends 0 0 1 (write_waits answer) m n × WritesOnce answer m.shown n.shown m.seen n.seen

-- the same in a call that was handed this moment
abbrev pub Makes : ℕ → Move → Point → Point → Type 0
Makes now move m n = MakesMove move m n × Keeps now move m.shown n.shown

-- these moves lead from a point to another
abbrev pub Goes : ℕ → List Move → Point → Point → Type 0
Goes now [] m n = n ≡ m
Goes now (move ∷ moves) m n = (next : Point) × Makes now move m next × OwesRightly next.shown × Goes now moves next n

-- the point of a turn at which so many runs, reads and writes were made. It may make 10, 160 and 160
abbrev pub turn_at : Shown → Seen → ℕ → ℕ → ℕ → Bool → Point
turn_at shown seen runs reads writes waited = record {
  shown = shown;
  seen = seen;
  runs = 10 - runs;
  reads = 160 - reads;
  writes = 160 - writes;
  waited = waited;
}

-- none is left of some kind
abbrev pub IsSpentAt : Point → Type 0
IsSpentAt m = (m.runs ≡ 0) ⊎ ((m.reads ≡ 0) ⊎ (m.writes ≡ 0))

-- a turn goes no further in this state. What is owed is still written where no run is left, and what a hijacker said
-- too; but nothing is read for a hijacker
abbrev pub StopsIn : State → Point → Type 0
StopsIn state.Reading m = IsSpentAt m
StopsIn state.Ready m = IsSpentAt m
StopsIn state.Answering m = (m.reads ≡ 0) ⊎ (m.writes ≡ 0)
StopsIn state.Hijacked m = (m.shown.owed ≡ []) ⊎ ((m.reads ≡ 0) ⊎ (m.writes ≡ 0))
StopsIn state.Over m = ⊤

-- a turn stops only where the link had to wait, or where no move may be made
abbrev pub TurnStops : Point → Type 0
TurnStops m = (m.waited ≡ true) ⊎ StopsIn m.shown.state m

-- the point of a flush at which so many writes were made. It may make 16, and it runs and reads nothing
abbrev pub flush_at : Shown → Seen → ℕ → Bool → Point
flush_at shown seen writes waited = record {
  shown = shown;
  seen = seen;
  runs = 0;
  reads = 1;
  writes = 16 - writes;
  waited = waited;
}

-- a flush stops only where the link had to wait, where nothing is owed, or where no write is left
abbrev pub FlushStops : Point → Type 0
FlushStops m = (m.waited ≡ true) ⊎ (¬ (IsOwing m.shown) ⊎ (m.writes ≡ 0))
