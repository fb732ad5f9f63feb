-- What the sockets of the command for orders show: their counts, and nothing of content.
use Rattle.std.specs.Prelude.{ℕ, [], Option, None}
use Rattle.rack_outside.specs.Link.{Seen}

-- a socket with these counts of failed reads and writes, waits, reads and writes
abbrev pub socket_seen : ℕ → ℕ → ℕ → ℕ → ℕ → Seen
socket_seen failed_reads failed_writes waits reads writes = record {
  tag = 0;
  peer = None;
  borrows = [];
  input = None;
  given = None;
  sent = None;
  over = None;
  failed_reads = failed_reads;
  failed_writes = failed_writes;
  waits = waits;
  reads = reads;
  writes = writes;
  ahead = None;
}
