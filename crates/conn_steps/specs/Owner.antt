-- What a connection's owner does with it beside moving it on: it ends it, places it anew, tells it the time or a drain, or
-- lends its link out.
use Rattle.std.specs.Prelude.{◌≡◌, ◌≢◌, ℕ, ◌+◌, ◌<◌, ◌≤◌, zero, suc, nat_lt, Bool, true, false, if◌then◌else◌, List, [], length, Option, None, Some, ◌⊎◌, ⊤}
use Rattle.rack_types.specs.declared.fault.Fault.{Fault}
use Rattle.rack_types.specs.declared.fault.Fault.TheVariants.{T1}
use Rattle.rack_types.specs.Limits.{stock_limits}
use Rattle.reply_framing.specs.declared.types.After.TheVariants.{Keep, Close}
use Rattle.reply_framing.specs.Fault.{fault_reply}
use Rattle.talk_core.specs.declared.ended.IdleBy.TheVariants.{Clock, Drain}
use Rattle.talk_core.specs.declared.ended.Life.{Life}
use Rattle.talk_core.specs.declared.ended.Why.{Why}
use Rattle.talk_core.specs.declared.ended.Why.TheVariants as why
use Rattle.talk_core.specs.Lives.{lives_limit, placed_lives, StayBelow}
use Rattle.rack_outside.specs.Link.{Seen, Tells}
use Rattle.rack_types.specs.Request.{Parts}
use Rattle.message_framing.specs.Request.{Wanting, Refusal}
use Rattle.talk_core.specs.Talk.{Asks}
use Rattle.conn_steps.specs.Rests.{BegunAs}
use Rattle.conn_steps.specs.declared.state.State.{State}
use Rattle.conn_steps.specs.declared.state.State.TheVariants as state
use Rattle.conn_steps.specs.declared.state.Tick.{Tick}
use Rattle.conn_steps.specs.declared.state.Tick.TheVariants as tick
use Rattle.conn_steps.specs.declared.state.Told.{Told}
use Rattle.conn_steps.specs.declared.state.Told.TheVariants as told
use Rattle.conn_steps.specs.Keeps.{no_bytes}
use Rattle.conn_steps.specs.Moments.{quiet_since, stuck_since, Passed}
use Rattle.conn_steps.specs.Moves.{IsOwing}
use Rattle.conn_steps.specs.Shown.{Shown}

-- no byte was ever read, and it isn't over
abbrev pub IsUnread : Shown → Type 0
IsUnread c = (c.taken ≡ 0) × (c.state ≢ state.Over)

-- it was read before, all that it was asked is answered, and nothing is begun
abbrev pub IsIdle : Shown → Type 0
IsIdle c = (c.state ≡ state.Reading) × (0 < c.taken) × (c.moments.begun ≡ None)

-- it may be placed anew: nothing that was read of it is unanswered
abbrev pub MayPlace : Shown → Type 0
MayPlace c = IsUnread c ⊎ IsIdle c

-- it ended for this why, and nothing else of it changed
abbrev pub ended_as : Why → Shown → Shown
ended_as reason c = record c {
  replied = c.calls;
  owed = [];
  state = state.Over;
  why = Some reason;
  fault = None;
  after = Keep;
  sure = true;
  ring = [];
}

-- a connection may be ended so at any moment: by a halt, whose level is 2, or where its owner lacks memory for it
abbrev pub EndsAnyTime : Why → Type 0
EndsAnyTime why.Closed = ⊥
EndsAnyTime why.PeerEnd = ⊥
EndsAnyTime (why.Idle by) = ⊥
EndsAnyTime (why.TimedOut since now) = ⊥
EndsAnyTime (why.Stalled since now) = ⊥
EndsAnyTime (why.Unread level) = ⊥
EndsAnyTime why.ReadFailed = ⊥
EndsAnyTime why.WriteFailed = ⊥
EndsAnyTime (why.Halted level) = level ≡ 2
EndsAnyTime why.NoMemory = ⊤
EndsAnyTime why.Hijacked = ⊥

-- these lives, placed in this phase, are at most 64, and none of them has a greater phase
abbrev pub HasPlace : ℕ → ℕ → List Life → Type 0
HasPlace phase calls lives = (length (placed_lives phase calls lives) ≤ lives_limit) × StayBelow phase (placed_lives phase calls lives)

-- placed in this phase, it has at most 64 lives
abbrev pub HasRoomFor : ℕ → Shown → Type 0
HasRoomFor phase c = length (placed_lives phase c.calls c.lives) ≤ lives_limit

-- placed in this phase, it goes back to no older generation: no life has a greater phase
abbrev pub IsNoneAbove : ℕ → Shown → Type 0
IsNoneAbove phase c = StayBelow phase (placed_lives phase c.calls c.lives)

-- placed in this phase: its next request is answered in that phase, and it was told nothing
abbrev pub placed : ℕ → Shown → Shown
placed phase c = record c { lives = placed_lives phase c.calls c.lives; ending = record c.ending { told = 0 } }

-- for 10,000 ms the link took nothing of what is in the ring
abbrev pub IsStalled : ℕ → Shown → Type 0
IsStalled now c = (c.ring ≢ []) × Passed (stuck_since c.moments) stock_limits.write_ms now

-- a request was begun at this moment, and did not become whole for 30,000 ms
abbrev pub IsLate : ℕ → ℕ → Shown → Type 0
IsLate since now c = (c.state ≡ state.Reading) × (c.moments.begun ≡ Some since) × Passed since stock_limits.request_ms now

-- nothing is begun, and for 20,000 ms nothing was sent
abbrev pub IsQuiet : ℕ → Shown → Type 0
IsQuiet now c = (c.state ≡ state.Reading) × (c.moments.begun ≡ None) × Passed (quiet_since c.moments) stock_limits.idle_ms now

-- the reply that says that a request took too long was begun, and all of it is owed
abbrev pub late_as : ℕ → ℕ → Shown → Shown
late_as since now c = record c {
  owed = fault_reply T1;
  state = state.Answering;
  after = Close;
  ring = fault_reply T1;
  ending = record c.ending { late = Some (record { since = since; now = now }) };
  moments = record c.moments { filled = now };
}

-- what a tick at this moment answers, and leaves
abbrev pub Ticks : Tick → ℕ → Shown → Shown → Type 0
Ticks tick.Still now old new = ¬ (IsStalled now old) × ((since : ℕ) → ¬ (IsLate since now old)) × ¬ (IsQuiet now old) × (new ≡ old)
Ticks tick.Write now old new =
    ¬ (IsStalled now old) × ((since : ℕ) × IsLate since now old × (new ≡ late_as since now old))
Ticks tick.Over now old new =
    (IsStalled now old × (new ≡ ended_as (why.Stalled (stuck_since old.moments) now) old))
    ⊎ (¬ (IsStalled now old) × IsQuiet now old × (new ≡ ended_as (why.Idle (Clock (quiet_since old.moments) now)) old))

-- what a drain of this level leaves of a connection that was read, by its state: one that reads and has begun nothing
-- stays, to be placed anew, where it has room for one more life, and else ends; one that a hijacker has ends where nothing
-- is owed, and else behind what is owed
abbrev pub drained_reading : Option ℕ → ℕ → Shown → Shown
drained_reading None level c = if nat_lt (length c.lives) lives_limit then c else ended_as (why.Idle (Drain level)) c
drained_reading (Some since) level c = c

abbrev pub drained_hijacked : Bool → Shown → Shown
drained_hijacked true c = ended_as why.Hijacked c
drained_hijacked false c = record c { after = Close }

abbrev pub drained_in : State → ℕ → Shown → Shown
drained_in state.Reading level c = drained_reading c.moments.begun level c
drained_in state.Ready level c = c
drained_in state.Answering level c = c
drained_in state.Hijacked level c = drained_hijacked (no_bytes c.owed) (record c { ending = record c.ending { dismissed = true } })
drained_in state.Over level c = c

-- one of which no byte was ever read stays as it is
abbrev pub drained_from : ℕ → ℕ → Shown → Shown
drained_from zero level c = c
drained_from (suc n) level c = drained_in c.state level c

-- what a drain of this level leaves
abbrev pub drained : ℕ → Shown → Shown
drained level c = drained_from c.taken level (record c { ending = record c.ending { told = level } })

-- what the telling answers: the first of Over, Unread, Idle, Write and Stays that stands behind it
abbrev pub DrainTells : Told → Shown → Type 0
DrainTells told.Over c = c.state ≡ state.Over
DrainTells told.Unread c = IsUnread c
DrainTells told.Idle c = IsIdle c × (length c.lives < lives_limit)
DrainTells told.Write c = (c.state ≢ state.Over) × ¬ (IsUnread c) × ¬ (IsIdle c) × IsOwing c
DrainTells told.Stays c = (c.state ≢ state.Over) × ¬ (IsUnread c) × ¬ (IsIdle c) × ¬ (IsOwing c)

-- where more of a request is to be read: all requests in the bytes that came were run, and a moment is kept exactly where
-- one is begun behind them
pub record ReadsOn (s : Seen) (c : Shown) : Type 0 where
  pub given : List ℕ
  pub asked : List Parts
  pub rest : List ℕ
  pub given_is : Tells s.given given
  pub asks : Asks given asked rest
  pub all : c.calls ≡ length asked
  pub waits : Wanting rest
  pub begun : BegunAs c.moments.begun rest

-- where a request stands: those before it in the bytes that came were run, and the unfed bytes are all that stand behind it
pub record StandsNext (s : Seen) (c : Shown) : Type 0 where
  pub given : List ℕ
  pub asked : List Parts
  pub given_is : Tells s.given given
  pub asks : Asks given asked c.unfed
  pub next : length asked ≡ c.calls + 1

-- where a refusal stands: all requests before it in the bytes that came were run, and what stands behind them is refused
pub record RefusesNext (f : Fault) (s : Seen) (c : Shown) : Type 0 where
  pub given : List ℕ
  pub asked : List Parts
  pub rest : List ℕ
  pub given_is : Tells s.given given
  pub asks : Asks given asked rest
  pub all : c.calls ≡ length asked
  pub refusal : Refusal rest f

pub record BeginsRightly (s : Seen) (c : Shown) : Type 0 where
  pub reads : c.state ≡ state.Reading → ReadsOn s c
  pub stands : c.state ≡ state.Ready → c.fault ≡ None → StandsNext s c
  pub refuses : (f : Fault) → c.state ≡ state.Ready → c.fault ≡ Some f → RefusesNext f s c
