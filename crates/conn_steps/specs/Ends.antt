-- When each why may come, when a read may be made, and where a connection rests behind what was sent.
use Rattle.std.specs.Prelude.{◌≡◌, ◌≢◌, ℕ, ◌<◌, ◌≤◌, List, [], Option, None, Some, ◌⊎◌, ⊤}
use Rattle.rack_outside.specs.Link.{Seen, marked}
use Rattle.rack_outside.specs.Told.{Rose}
use Rattle.rack_outside.specs.declared.link.LinkRead.{LinkRead}
use Rattle.rack_outside.specs.declared.link.LinkRead.TheVariants as read
use Rattle.talk_core.specs.declared.ended.Why.{Why}
use Rattle.talk_core.specs.declared.ended.Why.TheVariants as why
use Rattle.conn_steps.specs.declared.moments.Late.{Late}
use Rattle.conn_steps.specs.declared.state.State.{State}
use Rattle.conn_steps.specs.declared.state.State.TheVariants as state
use Rattle.conn_steps.specs.Shown.{Shown}

-- why a turn or a flush may end a connection, by what became of its link: that a read told the peer's end, or that a
-- failure was counted. Whether the peer ended changes only with the first of them. One whose last request took too long
-- ends as that
abbrev pub TurnEnds : Option Late → Option Why → Seen → Seen → Type 0
TurnEnds late None s s' = s'.over ≡ s.over
TurnEnds late (Some why.Closed) s s' = s'.over ≡ s.over
TurnEnds late (Some why.PeerEnd) s s' = s'.over ≡ marked s.over
TurnEnds late (Some (why.Idle by)) s s' = ⊥
TurnEnds late (Some (why.TimedOut since now)) s s' = (late ≡ Some (record { since = since; now = now })) × (s'.over ≡ s.over)
TurnEnds late (Some (why.Stalled since now)) s s' = ⊥
TurnEnds late (Some (why.Unread level)) s s' = ⊥
TurnEnds late (Some why.ReadFailed) s s' = (s'.over ≡ s.over) × Rose s.failed_reads s'.failed_reads
TurnEnds late (Some why.WriteFailed) s s' = (s'.over ≡ s.over) × Rose s.failed_writes s'.failed_writes
TurnEnds late (Some (why.Halted level)) s s' = ⊥
TurnEnds late (Some why.NoMemory) s s' = s'.over ≡ s.over
TurnEnds late (Some why.Hijacked) s s' = s'.over ≡ s.over

-- what became of the link in a read that answered so: whether the peer ended changes only where the read told it, and
-- a failure was counted
abbrev pub FeedEnds : LinkRead → Seen → Seen → Type 0
FeedEnds (read.Bytes n) s s' = s'.over ≡ s.over
FeedEnds read.NotYet s s' = s'.over ≡ s.over
FeedEnds read.End s s' = s'.over ≡ marked s.over
FeedEnds read.Failed s s' = (s'.over ≡ s.over) × Rose s.failed_reads s'.failed_reads

-- why a `feed` may end a connection, and why a `flush` may, which reads nothing
abbrev pub IsOfFeed : Option Why → Type 0
IsOfFeed None = ⊤
IsOfFeed (Some why.PeerEnd) = ⊤
IsOfFeed (Some why.ReadFailed) = ⊤
IsOfFeed (Some why.NoMemory) = ⊤
IsOfFeed (Some why.Hijacked) = ⊤
IsOfFeed (Some ended) = ⊥

abbrev pub IsOfFlush : Option Why → Type 0
IsOfFlush None = ⊤
IsOfFlush (Some why.Closed) = ⊤
IsOfFlush (Some (why.TimedOut since now)) = ⊤
IsOfFlush (Some why.WriteFailed) = ⊤
IsOfFlush (Some why.NoMemory) = ⊤
IsOfFlush (Some why.Hijacked) = ⊤
IsOfFlush (Some ended) = ⊥

-- a `feed` may be made: requests are read, or a hijacker has the connection and nothing is owed
abbrev pub MayFeed : Shown → Type 0
MayFeed c = (c.state ≡ state.Reading) ⊎ ((c.state ≡ state.Hijacked) × (c.owed ≡ []))

-- the connection got on where it rests: behind it there are more replies that were sent whole, and fewer than 10,000
abbrev pub RestsBehind : State → ℕ → ℕ → Type 0
RestsBehind state.Reading before replied = (before < replied) × (replied < 10000)
RestsBehind state.Ready before replied = (before < replied) × (replied < 10000)
RestsBehind state.Answering before replied = before ≤ replied
RestsBehind state.Hijacked before replied = before < replied
RestsBehind state.Over before replied = ⊤
