-- How a connection ended, and why: over the talk on the bytes that came. The limits are this project's own.
use Rattle.std.specs.Prelude.{◌≡◌, ◌≢◌, ℕ, ◌+◌, ◌<◌, ◌≤◌, Bool, true, false, List, [], ◌∷◌, ◌++◌, length, Option, None, Some, IsSome, ◌⊎◌, ⊤}
use Rattle.rack_types.specs.declared.fault.Fault.TheVariants.{T1}
use Rattle.rack_types.specs.declared.peer.Local.{Local}
use Rattle.rack_types.specs.Limits.{stock_limits}
use Rattle.rack_types.specs.Request.{Parts}
use Rattle.rack_outside.specs.Link.{Seen, Tells}
use Rattle.message_framing.specs.Request.{Begun}
use Rattle.reply_framing.specs.Fault.{fault_reply}
use Rattle.talk_core.specs.declared.ended.Ended.{Ended}
use Rattle.talk_core.specs.declared.ended.IdleBy.{IdleBy}
use Rattle.talk_core.specs.declared.ended.IdleBy.TheVariants.{Clock, Drain}
use Rattle.talk_core.specs.declared.ended.Life.{Life}
use Rattle.talk_core.specs.declared.ended.Why.{Why}
use Rattle.talk_core.specs.declared.ended.Why.TheVariants as why
use Rattle.talk_core.specs.Answer.{IsHandedOver}
use Rattle.talk_core.specs.Lives.{AreLives}
use Rattle.talk_core.specs.Stands.{Word, times_out, IsHijack, ClosesAt, Partly}
use Rattle.talk_core.specs.Tail.{Voice, tail_of, goes_on}
use Rattle.talk_core.specs.Talk.{Stop, wanting, refused, closed, hijacked, Talk, text}
use Rattle.talk_core.specs.Teller.{Stacks, Teller, tell, fates_of}

-- what a connection has behind it: the bytes that it was given and those that it sent, whether a read answered that
-- the peer ended, how many of its link's reads and writes failed, how many requests were run, the level of draining
-- that it was last told since its opening or its last placing, and the request that was the last by draining
pub record Past : Type 0 where
  pub given : List ℕ
  pub sent : List ℕ
  pub over : Bool
  pub failed_reads : ℕ
  pub failed_writes : ℕ
  pub calls : ℕ
  pub told : ℕ
  pub closing : Option ℕ

-- each request of the talk was run, and its text was sent whole; this is that text
pub record SentWhole {H : Type 0} (T : Teller H) (p : Past) (stop : Stop) (rest said : List ℕ) : Type 0 where
  pub asked : List Parts
  pub talk : Talk (fates_of T) p.given asked stop rest
  pub calls_is : p.calls ≡ length asked
  pub said_is : said ≡ text T asked stop
  pub closes : ClosesAt p.closing p.calls (stop ≡ hijacked) rest

-- the same of a talk that stopped at a hijack, with the hijacker
pub record SentWholeTo {H : Type 0} (T : Teller H) (p : Past) (h : H) (rest said : List ℕ) : Type 0 where
  pub whole : SentWhole T p hijacked rest said
  pub hijacker : (T (length whole.talk.stops.front) whole.talk.stops.last).hijacker ≡ Some h

-- of the requests that were run all replies but the last were sent whole, and of what was being said this is lacking
pub record Lacks {H : Type 0} (V : Voice H) (T : Teller H) (p : Past) (lacks : List ℕ) : Type 0 where
  pub word : Word H
  pub partly : Partly V T p.over p.given p.sent p.calls p.closing word lacks

-- the same, to a hijack
pub record LacksToHijack {H : Type 0} (V : Voice H) (T : Teller H) (p : Past) : Type 0 where
  pub word : Word H
  pub lacks : List ℕ
  pub partly : Partly V T p.over p.given p.sent p.calls p.closing word lacks
  pub taken : IsHijack T partly.k word

-- the talk stopped by a reply that closes, or refused
abbrev pub IsClosed : Stop → Type 0
IsClosed wanting = ⊥
IsClosed (refused f) = ⊤
IsClosed closed = ⊤
IsClosed hijacked = ⊥

-- the talk did not stop at a hijack
abbrev pub IsUntaken : Stop → Type 0
IsUntaken wanting = ⊤
IsUntaken (refused f) = ⊤
IsUntaken closed = ⊤
IsUntaken hijacked = ⊥

-- a drain was told, where this is so
abbrev pub NeedsDrain : Bool → ℕ → Type 0
NeedsDrain false told = ⊤
NeedsDrain true told = 1 ≤ told

-- an idle connection: nothing is begun, and for long enough nothing was sent; or all was answered and a drain was told
abbrev pub IdleAs : IdleBy → Past → Type 0
IdleAs (Clock since now) p = since + stock_limits.idle_ms ≤ now
IdleAs (Drain level) p = (p.given ≢ []) × (1 ≤ level)

-- a read failed, and all was said, or what was being said is a reply that hands the connection over, or behind it
abbrev pub FailsReading : {H : Type 0} → Voice H → Teller H → Past → Type 0
FailsReading V T p =
    (0 < p.failed_reads)
    × (((stop : Stop) × (rest : List ℕ) × IsUntaken stop × SentWhole T p stop rest p.sent) ⊎ LacksToHijack V T p)

-- what holds of a connection that ended so
abbrev pub EndsBy : {H : Type 0} → Why → Voice H → Teller H → Past → Type 0
EndsBy why.Closed V T p = (stop : Stop) × (rest : List ℕ) × IsClosed stop × SentWhole T p stop rest p.sent
EndsBy why.PeerEnd V T p = (rest : List ℕ) × SentWhole T p wanting rest p.sent × (p.over ≡ true)
EndsBy (why.Idle by) V T p = (rest : List ℕ) × SentWhole T p wanting rest p.sent × ¬ (Begun rest) × IdleAs by p
EndsBy (why.TimedOut since now) V T p =
    (rest : List ℕ) × (said : List ℕ)
    × SentWhole T p wanting rest said × Begun rest × (p.sent ≡ said ++ fault_reply T1) × (since + stock_limits.request_ms ≤ now)
EndsBy (why.Stalled since now) V T p = (lacks : List ℕ) × Lacks V T p lacks × (lacks ≢ []) × (since + stock_limits.write_ms ≤ now)
EndsBy (why.Unread level) V T p =
    (p.given ≡ []) × (p.sent ≡ []) × (p.calls ≡ 0) × (p.closing ≡ None) × (1 ≤ level)
EndsBy why.ReadFailed V T p =
    (0 < p.failed_reads)
    × (((stop : Stop) × (rest : List ℕ) × IsUntaken stop × SentWhole T p stop rest p.sent) ⊎ ((lacks : List ℕ) × Lacks V T p lacks × IsHandedOver T p.given))
EndsBy why.WriteFailed V T p = (0 < p.failed_writes) × ((lacks : List ℕ) × Lacks V T p lacks × (lacks ≢ []))
EndsBy (why.Halted level) V T p = (level ≡ 2) × ((lacks : List ℕ) × Lacks V T p lacks)
EndsBy why.NoMemory V T p = (lacks : List ℕ) × Lacks V T p lacks
EndsBy {H} why.Hijacked V T p =
    (h : H) × (rest : List ℕ) × (said : List ℕ)
    × SentWholeTo T p h rest said × (p.sent ≡ said ++ tail_of V h rest p.over) × NeedsDrain (goes_on V h rest p.over) p.told

-- an ended connection has its lives; one that could not be opened has none, and nothing behind it
abbrev pub AreEndedLives : List Life → Why → Past → Type 0
AreEndedLives [] why.NoMemory p = (p.given ≡ []) × (p.sent ≡ []) × (p.calls ≡ 0) × (p.closing ≡ None)
AreEndedLives [] ended p = ⊥
AreEndedLives (life ∷ lives) ended p = AreLives (life ∷ lives) p.calls

-- what an ended connection has behind it, where its link was given and sent these bytes
abbrev pub past_of : {L : Type 0} → Seen → Ended L → List ℕ → List ℕ → Bool → Past
past_of s e given sent over = record {
  given = given;
  sent = sent;
  over = over;
  failed_reads = s.failed_reads;
  failed_writes = s.failed_writes;
  calls = e.calls;
  told = e.told;
  closing = e.closing;
}

-- the link shows this peer, these bytes, and whether the peer ended, as far as it tells them
pub record Shows (s : Seen) (peer given sent : List ℕ) (over : Bool) : Type 0 where
  pub peer_is : Tells s.peer peer
  pub given_is : Tells s.given given
  pub sent_is : Tells s.sent sent
  pub over_is : Tells s.over over

-- an ended connection, over these stacks and hijackers, this local side and this peer. `seen` is what contracts see of a
-- link
pub record IsEnded (L : Type 0) (seen : L → Seen) {H : Type 0} (V : Voice H) (S : Stacks H) (local : Local) (peer : List ℕ) (e : Ended L) : Type 0 where
  pub given : List ℕ
  pub sent : List ℕ
  pub over : Bool
  pub shows : Shows (seen e.link) peer given sent over
  pub lives : AreEndedLives e.lives.items e.why (past_of (seen e.link) e given sent over)
  pub ends : EndsBy e.why V (tell S e.lives.items local peer e.closing) (past_of (seen e.link) e given sent over)

-- the 408 is said to a connection that was timed out alone
abbrev pub IsTimed : {H : Type 0} → Word H → Bool → Type 0
IsTimed times_out timed = timed ≡ true
IsTimed word timed = ⊤

-- a live connection stands for its talk, over these stacks and hijackers, this local side and this peer: `timed` from
-- the moment on at which its last request was timed out
pub record StandsForTalk (s : Seen) {H : Type 0} (V : Voice H) (S : Stacks H) (local : Local) (peer : List ℕ) (lives : List Life) (calls : ℕ)
    (closing : Option ℕ) (timed : Bool) : Type 0 where
  pub given : List ℕ
  pub sent : List ℕ
  pub over : Bool
  pub word : Word H
  pub lacks : List ℕ
  pub shows : Shows s peer given sent over
  pub lives_are : AreLives lives calls
  pub partly : Partly V (tell S lives local peer closing) over given sent calls closing word lacks
  pub is_timed : IsTimed word timed

-- a drain ended it: a reply closed by draining, or the why says so; a hijacked one was ended by it where the hijacker
-- goes on and the peer did not end
abbrev pub WhyByDrain : {H : Type 0} → Why → Voice H → Teller H → Past → Type 0
WhyByDrain why.Closed V T p = ⊥
WhyByDrain why.PeerEnd V T p = ⊥
WhyByDrain (why.Idle (Clock since now)) V T p = ⊥
WhyByDrain (why.Idle (Drain level)) V T p = ⊤
WhyByDrain (why.TimedOut since now) V T p = ⊥
WhyByDrain (why.Stalled since now) V T p = ⊥
WhyByDrain (why.Unread level) V T p = ⊤
WhyByDrain why.ReadFailed V T p = ⊥
WhyByDrain why.WriteFailed V T p = ⊥
WhyByDrain (why.Halted level) V T p = ⊤
WhyByDrain why.NoMemory V T p = ⊥
WhyByDrain {H} why.Hijacked V T p =
    (h : H) × (rest : List ℕ) × (said : List ℕ) × SentWholeTo T p h rest said × (goes_on V h rest p.over ≡ true)

abbrev pub ByDrain : {H : Type 0} → Why → Voice H → Teller H → Past → Type 0
ByDrain ended V T p = IsSome p.closing ⊎ WhyByDrain ended V T p

-- an ended connection, over these stacks and hijackers, this local side and this peer, that no drain ended
pub record IsUndrained (L : Type 0) (seen : L → Seen) {H : Type 0} (V : Voice H) (S : Stacks H) (local : Local) (peer : List ℕ) (e : Ended L) : Type 0 where
  pub given : List ℕ
  pub sent : List ℕ
  pub over : Bool
  pub shows : Shows (seen e.link) peer given sent over
  pub ends : EndsBy e.why V (tell S e.lives.items local peer e.closing) (past_of (seen e.link) e given sent over)
  pub undrained : ¬ (ByDrain e.why V (tell S e.lives.items local peer e.closing) (past_of (seen e.link) e given sent over))
