-- What a link in memory is, as plain lists and counts.
use Rattle.std.specs.Prelude.{◌≡◌, ℕ, Bool, false, true, List, [], ◌++◌, codes, Option, None, Some, ⊤}
use Rattle.rack_outside.specs.declared.link.LinkRead.{LinkRead}
use Rattle.rack_outside.specs.declared.link.LinkRead.TheVariants as read
use Rattle.rack_outside.specs.declared.link.LinkWrite.{LinkWrite}
use Rattle.rack_outside.specs.declared.link.LinkWrite.TheVariants as write
use Rattle.rack_outside.specs.Link.{Seen}
use Rattle.rack_outside.specs.Told.{counted}

-- a link that never fails: its tag, the bytes that were read from it and those that it took, whether a read
-- answered that the peer ended, its counts of waits, reads and writes, the bytes that the peer gave and that were
-- not read, whether the peer ends behind them, and how many bytes are still taken (without an end where it is None)
pub record Pipe : Type 0 where
  pub tag : ℕ
  pub given : List ℕ
  pub sent : List ℕ
  pub over : Bool
  pub waits : ℕ
  pub reads : ℕ
  pub writes : ℕ
  pub unread : List ℕ
  pub ended : Bool
  pub room : Option ℕ

-- a link that fails where it is told to: the places of the calls that fail, where reads and writes are counted
-- together from 1, whether the next read and the next write fail, and how many reads and writes failed
pub record Wire : Type 0 where
  pub pipe : Pipe
  pub fails : List ℕ
  pub read_fails : Bool
  pub write_fails : Bool
  pub failed_reads : ℕ
  pub failed_writes : ℕ

-- the peer of each link in memory
abbrev pub memory_peer : List ℕ
memory_peer = codes "127.0.0.1"

-- a link that fails where it is told to tells all that it is
abbrev pub wire_seen : Wire → Seen
wire_seen w = record {
  tag = w.pipe.tag;
  peer = Some memory_peer;
  borrows = [];
  input = None;
  given = Some w.pipe.given;
  sent = Some w.pipe.sent;
  over = Some w.pipe.over;
  failed_reads = w.failed_reads;
  failed_writes = w.failed_writes;
  waits = w.pipe.waits;
  reads = w.pipe.reads;
  writes = w.pipe.writes;
  ahead = Some (record {
    unread = w.pipe.unread;
    ended = w.pipe.ended;
    room = w.pipe.room;
    fails = w.fails;
    read_fails = w.read_fails;
    write_fails = w.write_fails;
  });
}

-- one that never fails: no failure is set, and none came
abbrev pub unfailing : Pipe → Wire
unfailing p = record {
  pipe = p;
  fails = [];
  read_fails = false;
  write_fails = false;
  failed_reads = 0;
  failed_writes = 0;
}

-- one that never fails tells all that it is too
abbrev pub pipe_seen : Pipe → Seen
pipe_seen p = wire_seen (unfailing p)

-- nothing was given, read or taken, and what is taken has no end
abbrev pub fresh_pipe : ℕ → Pipe
fresh_pipe tag = record {
  tag = tag;
  given = [];
  sent = [];
  over = false;
  waits = 0;
  reads = 0;
  writes = 0;
  unread = [];
  ended = false;
  room = None;
}

-- the same, with these places to fail at
abbrev pub fresh_wire : ℕ → List ℕ → Wire
fresh_wire tag fails = record (unfailing (fresh_pipe tag)) { fails = fails }

-- the peer gave these bytes too
abbrev pub with_more : List ℕ → Pipe → Pipe
with_more text p = record p { unread = p.unread ++ text }

-- the peer ends behind what it gave
abbrev pub with_end : Pipe → Pipe
with_end p = record p { ended = true }

-- so many bytes are still taken
abbrev pub with_room : ℕ → Pipe → Pipe
with_room n p = record p { room = Some n }

-- the answer is no failure
abbrev pub IsSureRead : LinkRead → Type 0
IsSureRead (read.Bytes n) = ⊤
IsSureRead read.NotYet = ⊤
IsSureRead read.End = ⊤
IsSureRead read.Failed = ⊥

abbrev pub IsSureWrite : LinkWrite → Type 0
IsSureWrite (write.Took n) = ⊤
IsSureWrite write.NotYet = ⊤
IsSureWrite write.Failed = ⊥
IsSureWrite write.NoMemory = ⊤

-- behind a read of a link in memory the counts of failed reads and of waits are one more exactly where the answer
-- says so, and else the same
abbrev pub CountsRead : LinkRead → Seen → Seen → Type 0
CountsRead (read.Bytes n) old new = (new.failed_reads ≡ old.failed_reads) × (new.waits ≡ old.waits)
CountsRead read.NotYet old new = (new.failed_reads ≡ old.failed_reads) × (new.waits ≡ counted old.waits)
CountsRead read.End old new = (new.failed_reads ≡ old.failed_reads) × (new.waits ≡ old.waits)
CountsRead read.Failed old new = (new.failed_reads ≡ counted old.failed_reads) × (new.waits ≡ old.waits)

-- behind a write so are those of failed writes and of waits
abbrev pub CountsWrite : LinkWrite → Seen → Seen → Type 0
CountsWrite (write.Took n) old new = (new.failed_writes ≡ old.failed_writes) × (new.waits ≡ old.waits)
CountsWrite write.NotYet old new = (new.failed_writes ≡ old.failed_writes) × (new.waits ≡ counted old.waits)
CountsWrite write.Failed old new = (new.failed_writes ≡ counted old.failed_writes) × (new.waits ≡ old.waits)
CountsWrite write.NoMemory old new = (new.failed_writes ≡ old.failed_writes) × (new.waits ≡ old.waits)
