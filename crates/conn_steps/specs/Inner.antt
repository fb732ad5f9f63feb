-- What the steps of a connection leave of what it shows. This serves inner contracts alone.
use Rattle.std.specs.Prelude.{◌≡◌, ◌≢◌, ℕ, ◌+◌, ◌-◌, ◌*◌, ◌<◌, ◌≤◌, Bool, true, false, List, [], length, take, Option, None, Some, ◌⊎◌, ⊤}
use Rattle.rack_types.specs.declared.fault.Fault.{Fault}
use Rattle.rack_types.specs.declared.peer.Local.{Local}
use Rattle.rack_types.specs.Request.{Parts}
use Rattle.rack_env.specs.Environment.{env_pairs}
use Rattle.rack_outside.specs.Link.{Seen}
use Rattle.rack_outside.specs.Told.{Rose}
use Rattle.rack_outside.specs.declared.link.LinkRead.{LinkRead}
use Rattle.rack_outside.specs.declared.link.LinkRead.TheVariants as read
use Rattle.rack_outside.specs.declared.link.LinkWrite.{LinkWrite}
use Rattle.rack_outside.specs.declared.link.LinkWrite.TheVariants as write
use Rattle.talk_core.specs.Counts.{counted_by}
use Rattle.talk_core.specs.Teller.{Stack, Teller, reply_of, is_last}
use Rattle.conn_steps.specs.declared.budget.Budget.{Budget}
use Rattle.conn_steps.specs.declared.budget.SayStep.{SayStep}
use Rattle.conn_steps.specs.declared.budget.SayStep.TheVariants as said
use Rattle.conn_steps.specs.declared.budget.Step.{Step}
use Rattle.conn_steps.specs.declared.budget.Step.TheVariants as step
use Rattle.conn_steps.specs.declared.at.At.{At}
use Rattle.conn_steps.specs.declared.at.At.TheVariants as at
use Rattle.conn_steps.specs.declared.state.State.{State}
use Rattle.conn_steps.specs.declared.state.State.TheVariants as state
use Rattle.conn_steps.specs.At.{IsHearing, state_at}
use Rattle.conn_steps.specs.Shown.{Shown, Moved}
use Rattle.conn_steps.specs.Ends.{TurnEnds, IsOfFeed, IsOfFlush, RestsBehind}
use Rattle.conn_steps.specs.Keeps.{Keeps, Drains, filled_if, no_bytes, Move, Run, Refusal, Want, Write}
use Rattle.conn_steps.specs.Moves.{ring_room, SameShown, Starts, NamesFault, WantsMemory, write_waits, WritesOnce, OwesRightly, Point, Makes, TurnStops}

-- behind bytes that were fed the connection reads on, is ready, or wanted memory
abbrev pub IsFed : State → Type 0
IsFed state.Reading = ⊤
IsFed state.Ready = ⊤
IsFed state.Answering = ⊥
IsFed state.Hijacked = ⊥
IsFed state.Over = ⊤

-- how a read went
abbrev pub ReadLeaves : LinkRead → Shown → List ℕ → Seen → Seen → Type 0
ReadLeaves (read.Bytes n) new came s s' = (n ≡ length came) × (0 < n) × IsFed new.state
ReadLeaves read.NotYet new came s s' = (came ≡ []) × (new.state ≡ state.Reading) × Rose s.waits s'.waits
ReadLeaves read.End new came s s' = (came ≡ []) × (new.state ≡ state.Over)
ReadLeaves read.Failed new came s s' = (came ≡ []) × (new.state ≡ state.Over)

pub record ReadsBy (result : LinkRead) (old new : Shown) (s s' : Seen) : Type 0 where
  pub moved : Moved old new s s' 1 0
  pub calls : new.calls ≡ old.calls
  pub replied : new.replied ≡ old.replied
  pub sent : s'.sent ≡ s.sent
  pub why : IsOfFeed new.why
  pub ends : TurnEnds None new.why s s'
  pub leaves : ReadLeaves result new moved.came s s'

-- behind what it was told a hijacker has the connection, or that ended
abbrev pub IsHeard : State → Type 0
IsHeard state.Reading = ⊥
IsHeard state.Ready = ⊥
IsHeard state.Answering = ⊥
IsHeard state.Hijacked = ⊤
IsHeard state.Over = ⊤

-- how a read for a hijacker went
abbrev pub HearLeaves : LinkRead → Shown → List ℕ → Seen → Seen → Type 0
HearLeaves (read.Bytes n) new came s s' = (n ≡ length came) × (0 < n) × IsHeard new.state
HearLeaves read.NotYet new came s s' = (came ≡ []) × (new.state ≡ state.Hijacked) × Rose s.waits s'.waits
HearLeaves read.End new came s s' = (came ≡ []) × IsHeard new.state
HearLeaves read.Failed new came s s' = (came ≡ []) × (new.state ≡ state.Over)

pub record HearsBy (result : LinkRead) (old new : Shown) (s s' : Seen) : Type 0 where
  pub moved : Moved old new s s' 1 0
  pub calls : new.calls ≡ old.calls
  pub replied : new.replied ≡ old.replied
  pub sent : s'.sent ≡ s.sent
  pub why : IsOfFeed new.why
  pub leaves : HearLeaves result new moved.came s s'

-- a request was run, and its reply begins; or memory was refused before it
abbrev pub RunsOnce : ℕ → Bool → Shown → Shown → Type 0
RunsOnce now true old new = Starts old new × Keeps now Run old new
RunsOnce now false old new = WantsMemory old new × Keeps now Want old new

-- the run of a request was made, or not
abbrev pub runs_of : Bool → ℕ
runs_of true = 1
runs_of false = 0

-- the reply to this request is that by this answer, where the reply to one closes by draining
abbrev pub TellsBy : {H : Type 0} → Teller H → Stack H → Local → List ℕ → Option ℕ → ℕ → Type 0
TellsBy {H} T answer local peer closing k = (r : Parts) → T k r ≡ reply_of answer (env_pairs r peer local) r (is_last closing k)

-- the same of each request from one number on and below another
abbrev pub TellsFrom : {H : Type 0} → Teller H → Stack H → Local → List ℕ → Option ℕ → ℕ → ℕ → Type 0
TellsFrom {H} T answer local peer closing first end = (k : ℕ) → first ≤ k → k < end → TellsBy T answer local peer closing k

-- the writes of a step that says
abbrev pub writes_of : SayStep → ℕ
writes_of said.Unwritten = 0
writes_of said.Wrote = 1
writes_of said.Waits = 1

-- how such a step went
abbrev pub SaidLeaves : SayStep → Shown → Shown → Seen → Seen → Type 0
SaidLeaves said.Unwritten old new s s' = new.state ≡ state.Over
SaidLeaves said.Wrote old new s s' = new.state ≡ old.state → length new.owed < length old.owed
SaidLeaves said.Waits old new s s' = (new.state ≡ old.state) × Rose s.waits s'.waits × (length new.owed ≤ length old.owed) × (new.owed ≢ [])

-- a hijacker took the connection over behind a reply, or had it before
abbrev pub HijackedOn : State → ℕ → ℕ → Type 0
HijackedOn state.Reading before replied = ⊥
HijackedOn state.Ready before replied = ⊥
HijackedOn state.Answering before replied = before < replied
HijackedOn state.Hijacked before replied = replied ≡ before
HijackedOn state.Over before replied = ⊥

-- more replies were sent whole, where the connection rests behind it, by the states before and behind
abbrev pub SaysOn : State → State → ℕ → ℕ → Type 0
SaysOn old state.Reading before replied = (old ≡ state.Answering) × (before < replied)
SaysOn old state.Ready before replied = (old ≡ state.Answering) × (before < replied)
SaysOn old state.Answering before replied = (old ≡ state.Answering) × (replied ≡ before)
SaysOn old state.Hijacked before replied = HijackedOn old before replied
SaysOn old state.Over before replied = ⊤

pub record Says (result : SayStep) (old new : Shown) (s s' : Seen) : Type 0 where
  pub moved : Moved old new s s' 0 (writes_of result)
  pub came : moved.came ≡ []
  pub given : s'.given ≡ s.given
  pub calls : new.calls ≡ old.calls
  pub replied : SaysOn old.state new.state old.replied new.replied
  pub why : IsOfFlush new.why
  pub ends : TurnEnds old.ending.late new.why s s'
  pub leaves : SaidLeaves result old new s s'

-- one step of a turn: where a connection rests behind so many replies before it, it does behind it; and what ended
-- it since then, ended it since then
pub record Steps (old new : Shown) (s s' : Seen) (l l' : Budget) : Type 0 where
  pub moved : Moved old new s s' (l.reads - l'.reads) (l.writes - l'.writes)
  pub came : l'.came ≡ counted_by (length moved.came) l.came
  pub calls : new.calls + l'.runs ≡ old.calls + l.runs
  pub few : (l'.runs ≤ l.runs) × (l'.reads ≤ l.reads) × (l'.writes ≤ l.writes)
  pub replied : (n : ℕ) → RestsBehind old.state n old.replied → RestsBehind new.state n new.replied
  pub drains : Drains old new
  pub ends : old.ending.late ≡ None → (first : Seen) → first.failed_reads ≤ s.failed_reads → first.failed_writes ≤ s.failed_writes
      → TurnEnds None old.why first s → TurnEnds None new.why first s'

-- what falls with each step that was made
abbrev pub rank : {B H : Type 0} → At B H → ℕ
rank {B} {H} at.Reading = 1
rank {B} {H} at.Asked = 1
rank {B} {H} (at.Refused f) = 2
rank {B} {H} (at.Answering f) = 1
rank {B} {H} (at.Writing keeps) = 1
rank {B} {H} (at.Handing h) = 1
rank {B} {H} at.Refusing = 1
rank {B} {H} (at.Listening h) = 1
rank {B} {H} (at.Speaking h) = 1
rank {B} {H} at.Parting = 1
rank {B} {H} (at.Over ended) = 0

abbrev pub work : {B H : Type 0} → Budget → At B H → ℕ
work {B} {H} l a = 3 * (l.runs + l.reads + l.writes) + rank a

-- no run, read or write is left
abbrev pub IsSpentBudget : Budget → Type 0
IsSpentBudget l = (l.runs ≡ 0) ⊎ ((l.reads ≡ 0) ⊎ (l.writes ≡ 0))

-- how a step went: it was made, and less is left to do; the link had to wait; or none may be made
abbrev pub StepLeaves : {B H : Type 0} → Step → Budget → Budget → At B H → At B H → Seen → Seen → Type 0
StepLeaves {B} {H} step.GoesOn l l' a b s s' = work l' b < work l a
StepLeaves {B} {H} step.Waits l l' a b s s' = Rose s.waits s'.waits
StepLeaves {B} {H} step.Stops l l' a b s s' = (state_at b ≡ state.Over) ⊎ (IsHearing b ⊎ IsSpentBudget l')

-- the ring was filled with what is owed, or memory was refused for the rest of it
pub record Fills (now : ℕ) (old new : Shown) : Type 0 where
  pub same : SameShown old new
  pub calls : new.calls ≡ old.calls
  pub replied : new.replied ≡ old.replied
  pub owed : new.owed ≡ old.owed
  pub state : new.state ≡ old.state
  pub why : new.why ≡ None
  pub unfed : new.unfed ≡ old.unfed
  pub after : new.after ≡ old.after
  pub sure : (old.sure ≡ true) ⊎ (length old.owed ≤ ring_room) → new.sure ≡ true
  pub ending : new.ending ≡ old.ending
  pub moments : new.moments ≡ record old.moments { filled = filled_if (no_bytes old.ring) now old.moments.filled }
  pub ring : new.ring ≡ take ring_room old.owed

abbrev pub FillsShown : ℕ → Bool → Shown → Shown → Type 0
FillsShown now true old new = Fills now old new
FillsShown now false old new = (old.state ≡ state.Answering) × (old.sure ≡ false) × WantsMemory old new × Keeps now Want old new

-- bytes are in the ring; and where a framer has the rest of the reply, the ring is full and more come
abbrev pub IsFilledAt : {B H : Type 0} → At B H → List ℕ → Type 0
IsFilledAt {B} {H} at.Reading ring = ⊥
IsFilledAt {B} {H} at.Asked ring = ⊥
IsFilledAt {B} {H} (at.Refused f) ring = ⊥
IsFilledAt {B} {H} (at.Answering f) ring = (length ring ≡ ring_room) × (0 < length f.rest.bytes)
IsFilledAt {B} {H} (at.Writing keeps) ring = 0 < length ring
IsFilledAt {B} {H} (at.Handing h) ring = 0 < length ring
IsFilledAt {B} {H} at.Refusing ring = 0 < length ring
IsFilledAt {B} {H} (at.Listening h) ring = ⊥
IsFilledAt {B} {H} (at.Speaking h) ring = 0 < length ring
IsFilledAt {B} {H} at.Parting ring = 0 < length ring
IsFilledAt {B} {H} (at.Over ended) ring = ⊥

-- how a request or a refusal was taken up, by the runs that it took
abbrev pub TakesUp : ℕ → ℕ → Shown → Shown → Type 0
TakesUp now runs old new =
    ((runs ≡ 1) × (old.fault ≡ None) × Starts old new × Keeps now Run old new)
    ⊎ ((runs ≡ 0)
    × (((fault : Fault) × (old.fault ≡ Some fault) × NamesFault fault old new × Keeps now (Refusal fault) old new)
    ⊎ ((old.fault ≡ None) × WantsMemory old new × Keeps now Want old new)))

-- how a step that says went: memory was refused, or it was one write
abbrev pub SaysOnce : ℕ → SayStep → Shown → Shown → Seen → Seen → Type 0
SaysOnce now said.Unwritten old new s s' =
    (s' ≡ s) × (old.state ≡ state.Answering) × (old.sure ≡ false) × WantsMemory old new × Keeps now Want old new
SaysOnce now said.Wrote old new s s' =
    (answer : LinkWrite) × (write_waits answer ≡ false) × WritesOnce answer old new s s' × Keeps now (Write answer) old new
SaysOnce now said.Waits old new s s' = WritesOnce write.NotYet old new s s' × Keeps now (Write write.NotYet) old new

-- the point of a turn at which this is left
abbrev pub budget_at : Shown → Seen → Budget → Bool → Point
budget_at shown seen budget waited = record {
  shown = shown;
  seen = seen;
  runs = budget.runs;
  reads = budget.reads;
  writes = budget.writes;
  waited = waited;
}

-- a move that was made, and what it leaves is owed rightly
abbrev pub MadeTo : ℕ → Point → Point → Type 0
MadeTo now m n = (move : Move) × Makes now move m n × OwesRightly n.shown

-- how a step went: one move, in which the link had to wait or not; or nothing changed, and the turn stops
abbrev pub StepMoves : ℕ → Step → Shown → Shown → Seen → Seen → Budget → Budget → Type 0
StepMoves now step.GoesOn old new s s' l l' = MadeTo now (budget_at old s l false) (budget_at new s' l' false)
StepMoves now step.Waits old new s s' l l' = MadeTo now (budget_at old s l false) (budget_at new s' l' true)
StepMoves now step.Stops old new s s' l l' = (new ≡ old) × (s' ≡ s) × (l' ≡ l) × TurnStops (budget_at new s' l' false)
