-- How a connection ended, with what was being said, where some of it is lacking: the reply that says that a request took
-- too long is said only where one was timed out, and where a read failed before all was said, that goes to a hijack.
use Rattle.std.specs.Prelude.{◌≡◌, ◌≢◌, ℕ, ◌+◌, ◌<◌, ◌≤◌, Bool, true, List, [], ◌++◌, is_some}
use Rattle.rack_types.specs.declared.peer.Local.{Local}
use Rattle.rack_types.specs.Limits.{stock_limits}
use Rattle.rack_outside.specs.Link.{Seen}
use Rattle.talk_core.specs.declared.ended.Ended.{Ended}
use Rattle.talk_core.specs.declared.ended.Why.{Why}
use Rattle.talk_core.specs.declared.ended.Why.TheVariants as why
use Rattle.talk_core.specs.Ended.{Past, EndsBy, FailsReading, Shows, past_of, IsTimed, SentWholeTo, NeedsDrain}
use Rattle.talk_core.specs.Stands.{Word, Partly}
use Rattle.talk_core.specs.Tail.{Voice, tail_of, goes_on}
use Rattle.talk_core.specs.Teller.{Stacks, Teller, tell}
use Rattle.conn_steps.specs.declared.moments.Ending.{Ending}

-- of what was being said this is lacking, and that is the reply to a request that took too long only where one did
pub record LacksPlainly (timed : Bool) {H : Type 0} (V : Voice H) (T : Teller H) (p : Past) (lacks : List ℕ) : Type 0 where
  pub word : Word H
  pub untimed : IsTimed word timed
  pub partly : Partly V T p.over p.given p.sent p.calls p.closing word lacks

-- what a hijacker says last is all that it says: it does not go on, or a drain was told while it had the connection
pub record HijackedPlainly (left : Bool) {H : Type 0} (V : Voice H) (T : Teller H) (p : Past) : Type 0 where
  pub h : H
  pub rest : List ℕ
  pub said : List ℕ
  pub whole : SentWholeTo T p h rest said
  pub sent : p.sent ≡ said ++ tail_of V h rest p.over
  pub drain : NeedsDrain (goes_on V h rest p.over) p.told
  pub leaves : goes_on V h rest p.over ≡ true → left ≡ true

abbrev pub EndsPlainly : {H : Type 0} → Ending → Why → Voice H → Teller H → Past → Type 0
EndsPlainly e why.Closed V T p = EndsBy why.Closed V T p
EndsPlainly e why.PeerEnd V T p = EndsBy why.PeerEnd V T p
EndsPlainly e (why.Idle by) V T p = EndsBy (why.Idle by) V T p
EndsPlainly e (why.TimedOut since now) V T p = EndsBy (why.TimedOut since now) V T p
EndsPlainly e (why.Stalled since now) V T p =
    (lacks : List ℕ) × LacksPlainly (is_some e.late) V T p lacks × (lacks ≢ []) × (since + stock_limits.write_ms ≤ now)
EndsPlainly e (why.Unread level) V T p = EndsBy (why.Unread level) V T p
EndsPlainly e why.ReadFailed V T p = FailsReading V T p
EndsPlainly e why.WriteFailed V T p = (0 < p.failed_writes) × ((lacks : List ℕ) × LacksPlainly (is_some e.late) V T p lacks × (lacks ≢ []))
EndsPlainly e (why.Halted level) V T p = (level ≡ 2) × ((lacks : List ℕ) × LacksPlainly (is_some e.late) V T p lacks)
EndsPlainly e why.NoMemory V T p = (lacks : List ℕ) × LacksPlainly (is_some e.late) V T p lacks
EndsPlainly e why.Hijacked V T p = HijackedPlainly e.dismissed V T p

-- an ended connection, of which this was told, over these stacks and hijackers, this local side and this peer
pub record IsPlainEnd (L : Type 0) (seen : L → Seen) {H : Type 0} (V : Voice H) (S : Stacks H) (local : Local) (peer : List ℕ) (ending : Ending) (e : Ended L) : Type 0 where
  pub given : List ℕ
  pub sent : List ℕ
  pub over : Bool
  pub shows : Shows (seen e.link) peer given sent over
  pub ends : EndsPlainly ending e.why V (tell S e.lives.items local peer e.closing) (past_of (seen e.link) e given sent over)

-- the same over any replies: those that are at its end
pub record EndsByReplies (L : Type 0) (seen : L → Seen) {H : Type 0} (V : Voice H) (T : Teller H) (peer : List ℕ) (ending : Ending) (e : Ended L) : Type 0 where
  pub given : List ℕ
  pub sent : List ℕ
  pub over : Bool
  pub shows : Shows (seen e.link) peer given sent over
  pub ends : EndsPlainly ending e.why V T (past_of (seen e.link) e given sent over)
