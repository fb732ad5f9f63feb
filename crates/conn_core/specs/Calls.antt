-- What the calls of a connection answer, and when each why may come.
use Rattle.std.specs.Prelude.{◌≡◌, ◌≢◌, ℕ, ◌+◌, ◌<◌, ◌≤◌, Bool, false, List, [], ◌∷◌, length, Option, None, Some, ◌⊎◌, ⊤}
use Rattle.rack_outside.specs.Link.{Seen, marked}
use Rattle.rack_outside.specs.Told.{Rose}
use Rattle.rack_outside.specs.declared.link.LinkRead.{LinkRead}
use Rattle.rack_outside.specs.declared.link.LinkRead.TheVariants as read
use Rattle.talk_core.specs.declared.ended.Why.{Why}
use Rattle.talk_core.specs.declared.ended.Why.TheVariants as why
use Rattle.conn_steps.specs.declared.moments.Late.{Late}
use Rattle.conn_steps.specs.declared.state.Next.{Next}
use Rattle.conn_steps.specs.declared.state.Next.TheVariants as next
use Rattle.conn_steps.specs.declared.state.State.{State}
use Rattle.conn_steps.specs.declared.state.State.TheVariants as state
use Rattle.conn_steps.specs.Keeps.{Keeps, Drains, Read}
use Rattle.conn_steps.specs.Shown.{Shown, Moved}
use Rattle.conn_steps.specs.Owner.{BeginsRightly}
use Rattle.conn_steps.specs.Moves.{size_of, ReadsOnce, Move, Point, Makes, Goes, turn_at, TurnStops, flush_at, FlushStops, OwesRightly}
use Rattle.conn_steps.specs.Ends.{TurnEnds, IsOfFeed, IsOfFlush, RestsBehind, FeedEnds}

-- what a `feed` answers: the first of Over, Ready, More and Waiting that stands. More tells that bytes came, or that a
-- hijacker was told the peer's end
abbrev pub FeedTells : Next → LinkRead → Shown → Shown → List ℕ → Seen → Seen → Type 0
FeedTells next.Waiting answer old new came s s' =
    (answer ≡ read.NotYet) × (new.state ≡ old.state) × (came ≡ []) × Rose s.waits s'.waits
FeedTells next.More answer old new came s s' = (new.state ≡ old.state) × ((0 < length came) ⊎ (answer ≡ read.End))
FeedTells next.Ready answer old new came s s' = new.state ≡ state.Ready
FeedTells next.TurnOver answer old new came s s' = ⊥
FeedTells next.Over answer old new came s s' = new.state ≡ state.Over

-- a `feed`: one read, which answered so, and gave the bytes that came
pub record Feeds (now : ℕ) (result : Next) (old new : Shown) (s s' : Seen) : Type 0 where
  pub answer : LinkRead
  pub once : ReadsOnce answer old new s s'
  pub keeps : Keeps now (Read answer) old new
  pub moved : Moved old new s s' 1 0
  pub came_is : length moved.came ≡ size_of answer
  pub calls : new.calls ≡ old.calls
  pub replied : new.replied ≡ old.replied
  pub sent : s'.sent ≡ s.sent
  pub why : IsOfFeed new.why
  pub ends : FeedEnds answer s s'
  pub rightly : OwesRightly new
  pub tells : FeedTells result answer old new moved.came s s'

-- the last run, read or write of a turn was made
abbrev pub IsSpent : ℕ → ℕ → ℕ → Type 0
IsSpent runs reads writes = (runs ≡ 10) ⊎ ((reads ≡ 160) ⊎ (writes ≡ 160))

-- a hijacker has the connection, and nothing is owed
abbrev pub IsListening : Shown → Type 0
IsListening c = (c.state ≡ state.Hijacked) × (c.owed ≡ [])

-- bytes came, or a reply was sent whole, as that which hands the connection to a hijacker
abbrev pub GotOn : List ℕ → Shown → Shown → Type 0
GotOn came old new = (0 < length came) ⊎ (old.replied < new.replied)

-- what a turn of so many runs, reads and writes answers: the first of Over, TurnOver, More and Waiting that stands
abbrev pub TurnTells : Next → ℕ → ℕ → ℕ → List ℕ → Shown → Shown → Seen → Seen → Type 0
TurnTells next.Waiting runs reads writes came old new s s' =
    (new.state ≢ state.Over) × ¬ (IsSpent runs reads writes) × ¬ (GotOn came old new) × Rose s.waits s'.waits
TurnTells next.More runs reads writes came old new s s' =
    (new.state ≢ state.Over) × ¬ (IsSpent runs reads writes) × GotOn came old new × (Rose s.waits s'.waits ⊎ IsListening new)
TurnTells next.Ready runs reads writes came old new s s' = ⊥
TurnTells next.TurnOver runs reads writes came old new s s' = (new.state ≢ state.Over) × IsSpent runs reads writes
TurnTells next.Over runs reads writes came old new s s' = new.state ≡ state.Over

-- a turn: at most 10 runs, 160 reads and 160 writes, made by these moves, behind which it stops
pub record Turns (now : ℕ) (result : Next) (old new : Shown) (s s' : Seen) : Type 0 where
  pub runs : ℕ
  pub reads : ℕ
  pub writes : ℕ
  pub few : (runs ≤ 10) × (reads ≤ 160) × (writes ≤ 160)
  pub moves : List Move
  pub waited : Bool
  pub made : Goes now moves (turn_at old s 0 0 0 false) (turn_at new s' runs reads writes waited)
  pub stops : TurnStops (turn_at new s' runs reads writes waited)
  pub moved : Moved old new s s' reads writes
  pub calls : new.calls ≡ old.calls + runs
  pub rests : RestsBehind new.state old.replied new.replied
  pub drains : Drains old new
  pub ends : TurnEnds None new.why s s'
  pub tells : TurnTells result runs reads writes moved.came old new s s'

-- at each point of these moves what is read on, stands or is refused is what comes behind the requests that were run
abbrev pub AreRight : (now : ℕ) (moves : List Move) (m n : Point) → Goes now moves m n → Type 0
AreRight now [] m n made = BeginsRightly n.seen n.shown
AreRight now (move ∷ moves) m n made = BeginsRightly m.seen m.shown × AreRight now moves made.0 n made.3

-- a turn, at each point of which that is so
pub record TurnsRightly (now : ℕ) (result : Next) (old new : Shown) (s s' : Seen) : Type 0 where
  pub turns : Turns now result old new s s'
  pub rightly : AreRight now turns.moves (turn_at old s 0 0 0 false) (turn_at new s' turns.runs turns.reads turns.writes turns.waited) turns.made

-- what a `flush` leaves, by the state before it: behind a reply the connection rests as behind one, and a hijacker that
-- has it keeps it
abbrev pub Leaves : State → Shown → Shown → Type 0
Leaves state.Answering old new = RestsBehind new.state old.replied new.replied
Leaves state.Hijacked old new = (new.state ≡ state.Hijacked → new.replied ≡ old.replied) × ((new.state ≡ state.Hijacked) ⊎ (new.state ≡ state.Over))
Leaves other old new = ⊥

-- a reply was sent whole that hands the connection to a hijacker, or all that the hijacker said was sent
abbrev pub GotOnHijacked : Shown → Shown → Type 0
GotOnHijacked old new = (new.state ≡ state.Hijacked) × ((old.state ≡ state.Answering) ⊎ (new.owed ≡ []))

-- a reply is still under way, or what a hijacker said is, that had the connection before
abbrev pub IsStillOwing : Shown → Shown → Type 0
IsStillOwing old new =
    (new.state ≡ state.Answering) ⊎ ((new.state ≡ state.Hijacked) × (old.state ≡ state.Hijacked) × (new.owed ≢ []))

-- what a `flush` of so many writes answers: the first of Over, TurnOver, Ready, More and Waiting that stands
abbrev pub FlushTells : Next → ℕ → Shown → Shown → Seen → Seen → Type 0
FlushTells next.Waiting writes old new s s' = IsStillOwing old new × (writes ≢ 16) × Rose s.waits s'.waits
FlushTells next.More writes old new s s' = ((new.state ≡ state.Reading) ⊎ GotOnHijacked old new) × (writes ≢ 16)
FlushTells next.Ready writes old new s s' = (new.state ≡ state.Ready) × (writes ≢ 16)
FlushTells next.TurnOver writes old new s s' = (new.state ≢ state.Over) × (writes ≡ 16)
FlushTells next.Over writes old new s s' = new.state ≡ state.Over

-- a `flush`: at most 16 writes, each of which took bytes but a last one that had to wait, made by these moves, behind
-- which it stops
pub record Flushes (now : ℕ) (result : Next) (old new : Shown) (s s' : Seen) : Type 0 where
  pub writes : ℕ
  pub few : writes ≤ 16
  pub moves : List Move
  pub waited : Bool
  pub made : Goes now moves (flush_at old s 0 false) (flush_at new s' writes waited)
  pub stops : FlushStops (flush_at new s' writes waited)
  pub moved : Moved old new s s' 0 writes
  pub came : moved.came ≡ []
  pub given : s'.given ≡ s.given
  pub calls : new.calls ≡ old.calls
  pub falls : new.state ≡ old.state → length new.owed + writes ≤ length old.owed + 1
  pub rests : Leaves old.state old new
  pub drains : Drains old new
  pub why : IsOfFlush new.why
  pub ends : TurnEnds old.ending.late new.why s s'
  pub tells : FlushTells result writes old new s s'
