-- What contracts see of a link, and what its reads and writes leave of it.
use Rattle.std.specs.Prelude.{◌≡◌, ◌≢◌, ℕ, ◌+◌, ◌-◌, ◌<◌, ◌≤◌, min, Bool, true, false, ◌||◌, List, [], length, take, drop, Option, None, Some, is_some, ⊤}
use Rattle.rack_outside.specs.declared.link.LinkRead.{LinkRead}
use Rattle.rack_outside.specs.declared.link.LinkRead.TheVariants as read
use Rattle.rack_outside.specs.declared.link.LinkWrite.{LinkWrite}
use Rattle.rack_outside.specs.declared.link.LinkWrite.TheVariants as write
use Rattle.rack_outside.specs.Told.{counted, Rose, appended}
use Rattle.rack_outside.specs.Places.{is_named}

-- what is to come at a link that tells it: the bytes that the peer gave and that were not read, whether the peer
-- ends behind them, how many bytes are still taken (without an end where it is None), and the failures that are
-- set: by place, where reads and writes are counted together from 1, for the next read, and for the next write
pub record Ahead : Type 0 where
  pub unread : List ℕ
  pub ended : Bool
  pub room : Option ℕ
  pub fails : List ℕ
  pub read_fails : Bool
  pub write_fails : Bool

-- what a link shows: its tag and its peer; the names of what it borrows, by which a lender knows it again; all bytes
-- that are there to be read from its start on; the bytes that were read from it and those that it took; whether a read answered that the peer ended; how many reads
-- and how many writes failed, how many calls had to wait, how many reads and how many writes there were; and what
-- is to come. What is None is not told.
pub record Seen : Type 0 where
  pub tag : ℕ
  pub peer : Option (List ℕ)
  pub borrows : List ℕ
  pub input : Option (List ℕ)
  pub given : Option (List ℕ)
  pub sent : Option (List ℕ)
  pub over : Option Bool
  pub failed_reads : ℕ
  pub failed_writes : ℕ
  pub waits : ℕ
  pub reads : ℕ
  pub writes : ℕ
  pub ahead : Option Ahead

-- the count of faults
abbrev pub faults : Seen → ℕ
faults s = s.failed_reads + s.failed_writes

-- where it is told, it is x
abbrev pub Tells : {A : Type 0} → Option A → A → Type 0
Tells {A} None x = ⊤
Tells {A} (Some y) x = y ≡ x

-- true, where it is told
abbrev pub marked : Option Bool → Option Bool
marked None = None
marked (Some b) = Some true

-- one read gave 1 byte up to the room's length, which are told as given; or nothing yet, and then the count of
-- waits rose; or the peer's end, which is told; or it failed, and then the count of failed reads rose
abbrev pub Reads : LinkRead → List ℕ → Seen → Seen → Type 0
Reads (read.Bytes n) room old new =
    (0 < n) × (n ≤ length room) × (new.given ≡ appended old.given (take n room)) × (new.over ≡ old.over)
Reads read.NotYet room old new = (new.given ≡ old.given) × (new.over ≡ old.over) × Rose old.waits new.waits
Reads read.End room old new = (new.given ≡ old.given) × (new.over ≡ marked old.over)
Reads read.Failed room old new = (new.given ≡ old.given) × (new.over ≡ old.over) × Rose old.failed_reads new.failed_reads

-- what a read leaves alone: it counts as one read, changes nothing that writes do, and no count falls
pub record IsOneRead (old new : Seen) : Type 0 where
  pub tag : new.tag ≡ old.tag
  pub peer : new.peer ≡ old.peer
  pub borrows : new.borrows ≡ old.borrows
  pub input : new.input ≡ old.input
  pub sent : new.sent ≡ old.sent
  pub reads : new.reads ≡ counted old.reads
  pub writes : new.writes ≡ old.writes
  pub failed_writes : new.failed_writes ≡ old.failed_writes
  pub failed_reads : old.failed_reads ≤ new.failed_reads
  pub waits : old.waits ≤ new.waits

-- one write took 1 byte of the piece up to all of it, from its front, which are told as sent; or it could take
-- nothing yet, and then the count of waits rose; or it failed, and then the count of failed writes rose; or
-- memory was refused
abbrev pub Writes : LinkWrite → List ℕ → Seen → Seen → Type 0
Writes (write.Took n) piece old new = (0 < n) × (n ≤ length piece) × (new.sent ≡ appended old.sent (take n piece))
Writes write.NotYet piece old new = (new.sent ≡ old.sent) × Rose old.waits new.waits
Writes write.Failed piece old new = (new.sent ≡ old.sent) × Rose old.failed_writes new.failed_writes
Writes write.NoMemory piece old new = new.sent ≡ old.sent

-- what a write leaves alone: it counts as one write, changes nothing that reads do, and no count falls
pub record IsOneWrite (old new : Seen) : Type 0 where
  pub tag : new.tag ≡ old.tag
  pub peer : new.peer ≡ old.peer
  pub borrows : new.borrows ≡ old.borrows
  pub input : new.input ≡ old.input
  pub given : new.given ≡ old.given
  pub over : new.over ≡ old.over
  pub reads : new.reads ≡ old.reads
  pub writes : new.writes ≡ counted old.writes
  pub failed_reads : new.failed_reads ≡ old.failed_reads
  pub failed_writes : old.failed_writes ≤ new.failed_writes
  pub waits : old.waits ≤ new.waits

-- what a touch leaves alone: all that the link told and counted. It tells what is to come where it told it before
pub record IsTouched (old new : Seen) : Type 0 where
  pub tag : new.tag ≡ old.tag
  pub peer : new.peer ≡ old.peer
  pub borrows : new.borrows ≡ old.borrows
  pub given : new.given ≡ old.given
  pub sent : new.sent ≡ old.sent
  pub over : new.over ≡ old.over
  pub failed_reads : new.failed_reads ≡ old.failed_reads
  pub failed_writes : new.failed_writes ≡ old.failed_writes
  pub waits : new.waits ≡ old.waits
  pub reads : new.reads ≡ old.reads
  pub writes : new.writes ≡ old.writes
  pub tells : is_some new.ahead ≡ is_some old.ahead

-- the place of the next call
abbrev pub next_place : Seen → ℕ
next_place s = counted (s.reads + s.writes)

-- a failure is set for the next call, if it is a read, and if it is a write
abbrev pub fails_read : Ahead → ℕ → Bool
fails_read a place = a.read_fails || is_named a.fails place

abbrev pub fails_write : Ahead → ℕ → Bool
fails_write a place = a.write_fails || is_named a.fails place

-- a read fails exactly where a failure is set for it; else it gives as many of the unread bytes as fit, from the
-- front; else it tells the end where the peer ended, and else that there is nothing yet
abbrev pub AnswersRead : LinkRead → List ℕ → Ahead → ℕ → Type 0
AnswersRead (read.Bytes n) room a place =
    (fails_read a place ≡ false) × (n ≡ min (length room) (length a.unread)) × (take n room ≡ take n a.unread)
AnswersRead read.NotYet room a place = (fails_read a place ≡ false) × (a.unread ≡ []) × (a.ended ≡ false)
AnswersRead read.End room a place = (fails_read a place ≡ false) × (a.unread ≡ []) × (a.ended ≡ true)
AnswersRead read.Failed room a place = fails_read a place ≡ true

-- a read takes away the bytes that it gives, and the failure for the next read
abbrev pub behind_read : LinkRead → Ahead → Ahead
behind_read (read.Bytes n) a = record a { unread = drop n a.unread; read_fails = false }
behind_read read.NotYet a = record a { read_fails = false }
behind_read read.End a = record a { read_fails = false }
behind_read read.Failed a = record a { read_fails = false }

-- what a read gives and leaves of what is to come, where the link tells it
abbrev pub ReadsAhead : LinkRead → List ℕ → Option Ahead → ℕ → Option Ahead → Type 0
ReadsAhead answer room None place new = new ≡ None
ReadsAhead answer room (Some a) place new = AnswersRead answer room a place × (new ≡ Some (behind_read answer a))

-- how many of so many bytes a room takes
abbrev pub room_for : Option ℕ → ℕ → ℕ
room_for None n = n
room_for (Some room) n = min room n

-- the room behind n bytes, where it has an end
abbrev pub lowered : ℕ → Option ℕ → Option ℕ
lowered n None = None
lowered n (Some room) = Some (room - n)

-- a write fails exactly where a failure is set for it; else it has to wait exactly where the room is 0; else it
-- takes as many bytes as the room holds, or memory was refused
abbrev pub AnswersWrite : LinkWrite → List ℕ → Ahead → ℕ → Type 0
AnswersWrite (write.Took n) piece a place = (fails_write a place ≡ false) × (n ≡ room_for a.room (length piece))
AnswersWrite write.NotYet piece a place = (fails_write a place ≡ false) × (a.room ≡ Some 0)
AnswersWrite write.Failed piece a place = fails_write a place ≡ true
AnswersWrite write.NoMemory piece a place = (fails_write a place ≡ false) × (a.room ≢ Some 0)

-- a write lowers the room by the bytes that it takes, and takes away the failure for the next write
abbrev pub behind_write : LinkWrite → Ahead → Ahead
behind_write (write.Took n) a = record a { room = lowered n a.room; write_fails = false }
behind_write write.NotYet a = record a { write_fails = false }
behind_write write.Failed a = record a { write_fails = false }
behind_write write.NoMemory a = record a { write_fails = false }

-- what a write takes and leaves of what is to come, where the link tells it
abbrev pub WritesAhead : LinkWrite → List ℕ → Option Ahead → ℕ → Option Ahead → Type 0
WritesAhead answer piece None place new = new ≡ None
WritesAhead answer piece (Some a) place new = AnswersWrite answer piece a place × (new ≡ Some (behind_write answer a))
