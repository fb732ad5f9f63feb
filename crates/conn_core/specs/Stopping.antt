-- Where a turn and a flush leave a connection, in words of its link: over one that tells what is to come; and that a flush
-- writes.
use Rattle.std.specs.Prelude.{◌≡◌, ◌≢◌, ℕ, ◌≤◌, false, List, [], ◌∷◌, ◌++◌, Option, None, Some, ◌⊎◌, ⊤}
use Rattle.rack_outside.specs.Link.{Ahead}
use Rattle.talk_core.specs.declared.ended.Why.TheVariants as why
use Rattle.conn_steps.specs.declared.state.State.TheVariants as state
use Rattle.conn_core.specs.Calls.{IsListening}
use Rattle.conn_steps.specs.Moves.{Move, Run, Refusal, Want, Read, Write}
use Rattle.conn_steps.specs.Shown.{Shown}

-- none of these moves is a read
abbrev pub AreUnread : List Move → Type 0
AreUnread [] = ⊤
AreUnread (Run ∷ moves) = AreUnread moves
AreUnread (Refusal fault ∷ moves) = AreUnread moves
AreUnread (Want ∷ moves) = AreUnread moves
AreUnread (Read answer ∷ moves) = ⊥
AreUnread (Write answer ∷ moves) = AreUnread moves

-- no read was made behind the last run
pub record RunsLast (moves : List Move) : Type 0 where
  pub front : List Move
  pub behind : List Move
  pub moves_are : moves ≡ front ++ Run ∷ behind
  pub unread : AreUnread behind

-- a turn of these moves leaves a connection over; with a hijacker and nothing owed; with bytes owed and no room; behind
-- its 10th run, with all that was owed sent, and no read made since; behind its 160th read or write; or with nothing left
-- to read
pub data TurnLeaves (runs reads writes : ℕ) (moves : List Move) (c : Shown) (a : Ahead) : Type 0 where
  ended : c.state ≡ state.Over → TurnLeaves runs reads writes moves c a
  listens : IsListening c → TurnLeaves runs reads writes moves c a
  stuck : c.owed ≢ [] → a.room ≡ Some 0 → TurnLeaves runs reads writes moves c a
  ran_out : runs ≡ 10 → c.owed ≡ [] → RunsLast moves → TurnLeaves runs reads writes moves c a
  read_out : reads ≡ 160 → TurnLeaves runs reads writes moves c a
  wrote_out : writes ≡ 160 → TurnLeaves runs reads writes moves c a
  waits : c.state ≡ state.Reading → a.unread ≡ [] → a.ended ≡ false → TurnLeaves runs reads writes moves c a

-- a flush leaves a connection with nothing owed; behind its 16th write; or with bytes owed and no room
abbrev pub FlushLeaves : ℕ → Shown → Ahead → Type 0
FlushLeaves writes c a = (c.owed ≡ []) ⊎ ((writes ≡ 16) ⊎ ((c.owed ≢ []) × (a.room ≡ Some 0)))

-- a flush of so many writes made one, or memory was refused before the first and ended the connection
abbrev pub WritesAny : ℕ → Shown → Type 0
WritesAny writes c = (1 ≤ writes) ⊎ ((writes ≡ 0) × (c.state ≡ state.Over) × (c.why ≡ Some why.NoMemory))
