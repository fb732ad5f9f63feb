-- What each move of a connection does to its ring, to what was told of its end, and to the moments that it keeps.
use Rattle.std.specs.Prelude.{◌≡◌, ◌≢◌, ℕ, ◌<◌, ◌≤◌, nat_lt, Bool, false, ◌&&◌, ◌||◌, not, if◌then◌else◌, ◌==◌, List, [], length, take, drop, Option, None, Some, ◌⊎◌}
use Rattle.rack_types.specs.declared.fault.Fault.{Fault}
use Rattle.rack_outside.specs.declared.link.LinkRead.{LinkRead}
use Rattle.rack_outside.specs.declared.link.LinkRead.TheVariants as read
use Rattle.rack_outside.specs.declared.link.LinkWrite.{LinkWrite}
use Rattle.rack_outside.specs.declared.link.LinkWrite.TheVariants as write
use Rattle.conn_steps.specs.declared.moments.Ending.{Ending}
use Rattle.conn_steps.specs.declared.moments.Moments.{Moments}
use Rattle.conn_steps.specs.declared.state.State.{State}
use Rattle.conn_steps.specs.declared.state.State.TheVariants as state
use Rattle.conn_steps.specs.Moments.{reached, or_else}
use Rattle.conn_steps.specs.Shown.{Shown}

-- how many bytes a read offers room for, and how many of those that are owed a write offers at most
abbrev pub read_room : ℕ
read_room = 16384

abbrev pub ring_room : ℕ
ring_room = 65536

abbrev pub no_bytes : List ℕ → Bool
no_bytes xs = length xs == 0

-- a call was handed this moment
abbrev pub reaching : ℕ → Shown → Shown
reaching now c = record c { moments = reached now c.moments }

-- a move: the request that stands was run, and its reply begun; the reply to the refusal that stands was begun; memory
-- was refused where a request was to be run, or bytes of a reply were to be made; one read; one write
pub data Move : Type 0 where
  Run : Move
  Refusal : (fault : Fault) → Move
  Want : Move
  Read : (answer : LinkRead) → Move
  Write : (answer : LinkWrite) → Move

-- the request that is run closes the connection by draining: that was told, and no byte is unfed behind it
abbrev pub drains_now : ℕ → List ℕ → Bool
drains_now told unfed = nat_lt 0 told && no_bytes unfed

-- what was told of the end behind a run
abbrev pub ending_run : Ending → List ℕ → ℕ → Ending
ending_run e unfed calls = record e { closing = if drains_now e.told unfed then Some calls else e.closing }

-- nothing but a run changes it
abbrev pub ending_by : Move → Shown → Ending
ending_by Run old = ending_run old.ending old.unfed old.calls
ending_by (Refusal fault) old = old.ending
ending_by Want old = old.ending
ending_by (Read answer) old = old.ending
ending_by (Write answer) old = old.ending

-- the moment at which the link last took a byte
abbrev pub took_by : ℕ → Move → Option ℕ → Option ℕ
took_by now (Write (write.Took n)) before = Some now
took_by now move before = before

-- bytes came into an empty ring; or not
abbrev pub filled_if : Bool → ℕ → ℕ → ℕ
filled_if came now before = if came then now else before

-- the moments where bytes may have come into the ring, which was empty
abbrev pub filled_then : ℕ → List ℕ → Moments → Moments
filled_then now ring m = record m { filled = filled_if (not (no_bytes ring)) now m.filled }

-- a write that took all that was owed, behind which a hijacker said something
abbrev pub says_behind : LinkWrite → Shown → Shown → Bool
says_behind (write.Took n) old new = no_bytes (drop n old.owed) && not (no_bytes new.ring)
says_behind answer old new = false

-- the moment at which bytes first came into the ring after it was last empty. Before each write the ring is filled
-- with what is owed
abbrev pub filled_by : ℕ → Move → Shown → Shown → ℕ
filled_by now Run old new = filled_if (not (no_bytes new.ring)) now old.moments.filled
filled_by now (Refusal fault) old new = now
filled_by now Want old new = old.moments.filled
filled_by now (Read answer) old new = filled_if (not (no_bytes new.ring)) now old.moments.filled
filled_by now (Write answer) old new = filled_if (no_bytes old.ring || says_behind answer old new) now old.moments.filled

-- the moment at which the request was begun that is to be read on; none where none is
abbrev pub BegunNow : ℕ → Option ℕ → Option ℕ → Type 0
BegunNow now before after = (after ≡ None) ⊎ (after ≡ Some (or_else before now))

-- by the state behind it: where more of a request is to be read, one may have been begun
abbrev pub BegunFrom : State → ℕ → Option ℕ → Option ℕ → Type 0
BegunFrom state.Reading now before after = BegunNow now before after
BegunFrom state.Ready now before after = after ≡ None
BegunFrom state.Answering now before after = after ≡ before
BegunFrom state.Hijacked now before after = after ≡ before
BegunFrom state.Over now before after = after ≡ before

-- where none is to be read none may be kept
abbrev pub BegunStill : Option ℕ → Option ℕ → Type 0
BegunStill before after = (after ≡ before) ⊎ (after ≡ None)

abbrev pub BegunBy : ℕ → Move → State → Option ℕ → Option ℕ → Type 0
BegunBy now Run new before after = after ≡ before
BegunBy now (Refusal fault) new before after = after ≡ before
BegunBy now Want new before after = after ≡ before
BegunBy now (Read (read.Bytes n)) new before after = BegunFrom new now before after
BegunBy now (Read read.NotYet) new before after = after ≡ before
BegunBy now (Read read.End) new before after = after ≡ before
BegunBy now (Read read.Failed) new before after = after ≡ before
BegunBy now (Write answer) state.Reading before after = BegunNow now None after
BegunBy now (Write answer) state.Ready before after = after ≡ None
BegunBy now (Write answer) state.Answering before after = BegunStill before after
BegunBy now (Write answer) state.Hijacked before after = BegunStill before after
BegunBy now (Write answer) state.Over before after = BegunStill before after

-- the bytes in the ring: all that is owed, but where a reply is under way. There none are behind a run, and behind a
-- write those that were offered and not taken
abbrev pub still_in : LinkWrite → List ℕ → List ℕ
still_in (write.Took n) ring = drop n ring
still_in write.NotYet ring = ring
still_in write.Failed ring = ring
still_in write.NoMemory ring = ring

abbrev pub ring_behind : Move → Shown → Shown → List ℕ
ring_behind Run old new = []
ring_behind (Refusal fault) old new = new.owed
ring_behind Want old new = new.owed
ring_behind (Read answer) old new = new.owed
ring_behind (Write answer) old new = still_in answer (take ring_room old.owed)

abbrev pub ring_by : State → Move → Shown → Shown → List ℕ
ring_by state.Reading move old new = new.owed
ring_by state.Ready move old new = new.owed
ring_by state.Answering move old new = ring_behind move old new
ring_by state.Hijacked move old new = new.owed
ring_by state.Over move old new = []

-- such a move, in a call that was handed this moment
pub record Keeps (now : ℕ) (move : Move) (old new : Shown) : Type 0 where
  pub ending : new.ending ≡ ending_by move old
  pub last : new.moments.last ≡ old.moments.last
  pub opened : new.moments.opened ≡ old.moments.opened
  pub took : new.moments.took ≡ took_by now move old.moments.took
  pub filled : new.state ≢ state.Over → new.moments.filled ≡ filled_by now move old new
  pub filled_or : (new.moments.filled ≡ old.moments.filled) ⊎ (new.moments.filled ≡ now)
  pub begun : BegunBy now move new.state old.moments.begun new.moments.begun
  pub ring : new.ring ≡ ring_by new.state move old new

-- what several moves leave of what was told of the end: a reply may close by draining that was told, of a request that
-- was run since
abbrev pub DrainsOnce : Shown → Shown → Type 0
DrainsOnce old new =
    (k : ℕ) × (1 ≤ old.ending.told) × (old.ending.closing ≡ None) × (new.ending.closing ≡ Some k) × (old.calls ≤ k) × (k < new.calls)

pub record Drains (old new : Shown) : Type 0 where
  pub told : new.ending.told ≡ old.ending.told
  pub late : new.ending.late ≡ old.ending.late
  pub dismissed : new.ending.dismissed ≡ old.ending.dismissed
  pub closing : (new.ending.closing ≡ old.ending.closing) ⊎ DrainsOnce old new
