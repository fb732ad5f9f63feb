-- What is left of a connection that was driven. This serves inner contracts alone.
use Rattle.std.specs.Prelude.{◌≡◌, ◌≢◌, ℕ, ◌+◌, ◌-◌, ◌*◌, ◌≤◌, List, [], ◌∷◌, length, Option, None, Some, ◌⊎◌, suc, ⊤}
use Rattle.rack_outside.specs.Link.{Seen}
use Rattle.rack_outside.specs.Told.{Rose}
use Rattle.reply_framing.specs.declared.types.After.{After}
use Rattle.reply_framing.specs.declared.types.After.TheVariants.{Keep, Close, Hijack}
use Rattle.talk_core.specs.declared.ended.Why.{Why}
use Rattle.talk_core.specs.declared.ended.Why.TheVariants as why
use Rattle.conn_steps.specs.Shown.{Shown, Moved}
use Rattle.conn_steps.specs.declared.state.State.{State}
use Rattle.conn_steps.specs.declared.state.State.TheVariants as state
use Rattle.puma_top.specs.Once.{most_taken}

-- why it ended, where it did: of a failure only where that was counted
abbrev pub EndsSo : Option Why → Seen → Seen → Type 0
EndsSo None s s' = ⊤
EndsSo (Some why.Closed) s s' = ⊤
EndsSo (Some why.PeerEnd) s s' = ⊤
EndsSo (Some (why.Idle by)) s s' = ⊥
EndsSo (Some (why.TimedOut since now)) s s' = ⊥
EndsSo (Some (why.Stalled since now)) s s' = ⊥
EndsSo (Some (why.Unread level)) s s' = ⊥
EndsSo (Some why.ReadFailed) s s' = Rose s.failed_reads s'.failed_reads
EndsSo (Some why.WriteFailed) s s' = Rose s.failed_writes s'.failed_writes
EndsSo (Some (why.Halted level)) s s' = ⊥
EndsSo (Some why.NoMemory) s s' = ⊤
EndsSo (Some why.Hijacked) s s' = ⊤

-- what so many reads and writes leave, and why it ended since, where it did. Nobody told it of an end
pub record Drives (old new : Shown) (s s' : Seen) : Type 0 where
  pub reads : ℕ
  pub writes : ℕ
  pub moved : Moved old new s s' reads writes
  pub ending : new.ending ≡ old.ending
  pub ends : EndsSo new.why s s'

-- it ended, or gave too many bytes
abbrev pub IsDriven : Shown → Type 0
IsDriven c = (c.state ≡ state.Over) ⊎ (most_taken ≤ c.taken)

-- what is still to be done for a hijacker: what it said is to be written, more is to be read, or what it said last is to
-- be written
abbrev pub left_to : List ℕ → After → ℕ
left_to [] after = 2
left_to (byte ∷ owed) Keep = 3
left_to (byte ∷ owed) Close = 1
left_to (byte ∷ owed) Hijack = 3

-- what is still to be done, at most, behind so many bytes and replies: each step makes it less
abbrev pub left_of : State → ℕ → ℕ → ℕ → ℕ
left_of state.Reading taken replied hijacked = 6 * (most_taken - taken) + 6 * (10001 - replied) + 6
left_of state.Ready taken replied hijacked = 6 * (most_taken - taken) + 6 * (10001 - replied) + 5
left_of state.Answering taken replied hijacked = 6 * (most_taken - taken) + 6 * (10001 - replied) + 4
left_of state.Hijacked taken replied hijacked = 6 * (most_taken - taken) + hijacked
left_of state.Over taken replied hijacked = 0

abbrev pub still_left : Shown → ℕ
still_left c = left_of c.state c.taken c.replied (left_to c.owed c.after)

-- the bytes that are owed while a reply is under way, and one more
abbrev pub owing : State → ℕ → ℕ
owing state.Reading owed = 0
owing state.Ready owed = 0
owing state.Answering owed = suc owed
owing state.Hijacked owed = 0
owing state.Over owed = 0

abbrev pub still_owing : Shown → ℕ
still_owing c = owing c.state (length c.owed)

-- the same while a hijacker has the connection
abbrev pub saying : State → ℕ → ℕ
saying state.Reading owed = 0
saying state.Ready owed = 0
saying state.Answering owed = 0
saying state.Hijacked owed = suc owed
saying state.Over owed = 0

abbrev pub still_saying : Shown → ℕ
still_saying c = saying c.state (length c.owed)

-- what a hijacker said last is owed
pub record SaysLast (c : Shown) : Type 0 where
  pub state : c.state ≡ state.Hijacked
  pub after : c.after ≡ Close
  pub owed : c.owed ≢ []

-- it is over, or a hijacker has the connection still, and says its last where it did
abbrev pub IsHeard : Shown → Shown → Type 0
IsHeard old new = (new.state ≡ state.Over) ⊎ ((new.state ≡ state.Hijacked) × (old.after ≡ Close → SaysLast new))

-- all that a hijacker said was written: it is over, or more is to be read
abbrev pub IsSaid : Shown → Shown → Type 0
IsSaid old new = (new.state ≡ state.Over) ⊎ ((new.state ≡ state.Hijacked) × (new.owed ≡ []) × (old.after ≢ Close))
