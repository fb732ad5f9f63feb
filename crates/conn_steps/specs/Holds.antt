-- What a connection stands for between its steps, by where it is.
use Rattle.std.specs.Prelude.{◌≡◌, ℕ, suc, ◌-◌, ◌^◌, min, ◌+◌, ◌≤◌, Bool, true, false, List, [], ◌++◌, length, Option, None, Some, ⊤}
use Rattle.rack_types.specs.declared.fault.Fault.{Fault}
use Rattle.rack_types.specs.Limits.{stock_limits}
use Rattle.rack_types.specs.Request.{Parts}
use Rattle.rack_types.specs.declared.body.Body.{Ghosts}
use Rattle.rack_outside.specs.Link.{Seen}
use Rattle.message_framing.specs.declared.intake.Intake.{Intake}
use Rattle.message_framing.specs.Intake.{Fed}
use Rattle.message_framing.specs.Request.{IsRequest, Refusal, Wanting}
use Rattle.hijack_core.specs.Said.{GoesOnAs}
use Rattle.reply_framing.specs.declared.types.After.TheVariants.{Hijack}
use Rattle.reply_framing.specs.Owes.{Owes}
use Rattle.talk_core.specs.Ended.{Past, Shows, NeedsDrain}
use Rattle.talk_core.specs.Lives.{AreLives}
use Rattle.talk_core.specs.Stands.{Stands, ClosesAt, silent, replies, refuses, times_out, hands_over}
use Rattle.talk_core.specs.Tail.{Voice, goes_on}
use Rattle.talk_core.specs.Teller.{Stacks, Teller, tell}
use Rattle.conn_steps.specs.declared.inside.Inside.{Inside}
use Rattle.conn_steps.specs.declared.moments.Ending.{Ending}
use Rattle.conn_steps.specs.declared.moments.Late.{Late}
use Rattle.conn_steps.specs.declared.at.At.{At}
use Rattle.conn_steps.specs.declared.at.At.TheVariants as at
use Rattle.conn_steps.specs.Plain.{EndsPlainly}
use Rattle.conn_steps.specs.Rests.{after_of, IsUnended}

-- how many bytes were read, up to 2^64 - 1
abbrev pub Counts : ℕ → List ℕ → Type 0
Counts taken given = taken ≡ min (length given) (2 ^ 64 - 1)

-- the parts that the meaning of a place rests on
pub record Kept : Type 0 where
  pub intake : Intake
  pub unfed : List ℕ
  pub ring : List ℕ
  pub calls : ℕ
  pub taken : ℕ
  pub ending : Ending

-- what a connection has behind it
abbrev pub past : Seen → Kept → List ℕ → List ℕ → Bool → Past
past s c given sent over = record {
  given = given;
  sent = sent;
  over = over;
  failed_reads = s.failed_reads;
  failed_writes = s.failed_writes;
  calls = c.calls;
  told = c.ending.told;
  closing = c.ending.closing;
}

-- nothing is owed: the intake was fed these bytes, and the unfed ones come behind them. The peer did not end, and nothing
-- ends the connection
pub record Between {H : Type 0} (V : Voice H) (T : Teller H) (over : Bool) (given sent : List ℕ) (c : Kept) (now : List ℕ) : Type 0 where
  pub fed : Fed c.intake now
  pub ring : c.ring ≡ []
  pub live : over ≡ false
  pub unended : IsUnended c.ending
  pub stands : Stands V T over given sent c.calls silent (now ++ c.unfed) []

-- a reply is under way: what is owed of it is in the ring and behind it, and the unfed bytes come behind its request.
-- The peer did not end. Where it closes by draining, no byte is unfed unless it is a hijack
pub record Replying {H : Type 0} (V : Voice H) (T : Teller H) (over : Bool) (given sent : List ℕ) (c : Kept) (k : ℕ) (r : Parts)
    (behind : List ℕ) : Type 0 where
  pub count : c.calls ≡ suc k
  pub live : over ≡ false
  pub closes : ClosesAt c.ending.closing c.calls ((T k r).after ≡ Hijack) c.unfed
  pub stands : Stands V T over given sent k (replies r) c.unfed (c.ring ++ behind)

-- the hijacker that a reply handed the connection to was told the rest of the bytes, and what it said of that and
-- was not sent is in the ring
pub record Handed {H : Type 0} (V : Voice H) (T : Teller H) (over : Bool) (given sent : List ℕ) (c : Kept) : Type 0 where
  pub k : ℕ
  pub request : Parts
  pub first : H
  pub rest : List ℕ
  pub count : c.calls ≡ suc k
  pub closes : ClosesAt c.ending.closing c.calls ⊤ rest
  pub stands : Stands V T over given sent k (hands_over request first) rest c.ring

-- the same, and it goes on: it is this one behind those bytes. The peer did not end, and no byte is unfed
pub record Hears {H : Type 0} (V : Voice H) (T : Teller H) (over : Bool) (given sent : List ℕ) (c : Kept) (now : H) : Type 0 where
  pub handed : Handed V T over given sent c
  pub live : over ≡ false
  pub goes : (V.says handed.first handed.rest).go_on ≡ true
  pub behind : GoesOnAs (V.says handed.first) (V.ends handed.first) handed.rest (V.says now) (V.ends now)

-- the same, and it said its last: it does not go on, or it was told the peer's end, or to leave
pub record SaidLast {H : Type 0} (V : Voice H) (T : Teller H) (over : Bool) (given sent : List ℕ) (c : Kept) : Type 0 where
  pub handed : Handed V T over given sent c
  pub ended : NeedsDrain (goes_on V handed.first handed.rest over) c.ending.told
  pub leaves : goes_on V handed.first handed.rest over ≡ true → c.ending.dismissed ≡ true

-- the reply that names a refusal is in the ring, or the one that says that a request took too long
abbrev pub Refuses : {H : Type 0} → Option Late → Voice H → Teller H → Bool → List ℕ → List ℕ → Kept → Type 0
Refuses {H} None V T over given sent c =
    (f : Fault) × (rest : List ℕ) × Stands V T over given sent c.calls (refuses f) rest c.ring × (c.ending.closing ≡ None)
Refuses {H} (Some late) V T over given sent c =
    (rest : List ℕ) × Stands V T over given sent c.calls times_out rest c.ring × (c.ending.closing ≡ None)
    × (late.since + stock_limits.request_ms ≤ late.now)

abbrev pub HoldsAt : {B H : Type 0} → At B H → Voice H → Teller H → Seen → Bool → List ℕ → List ℕ → Kept → Type 0
HoldsAt {B} {H} at.Reading V T s over given sent c =
    (now : List ℕ) × Wanting now × (c.unfed ≡ []) × Between V T over given sent c now
HoldsAt {B} {H} at.Asked V T s over given sent c =
    (now : List ℕ) × (r : Parts) × IsRequest now r × Between V T over given sent c now
HoldsAt {B} {H} (at.Refused f) V T s over given sent c =
    (now : List ℕ) × Refusal now f × (c.unfed ≡ []) × Between V T over given sent c now
HoldsAt {B} {H} (at.Answering f) V T s over given sent c =
    (k : ℕ) × (r : Parts) × (said : List ℕ) × Owes f (T k r) said × Replying V T over given sent c k r f.rest.bytes
HoldsAt {B} {H} (at.Writing keeps) V T s over given sent c =
    (k : ℕ) × (r : Parts) × (after_of keeps ≡ (T k r).after) × Replying V T over given sent c k r []
HoldsAt {B} {H} (at.Handing h) V T s over given sent c =
    (k : ℕ) × (r : Parts) × ((T k r).after ≡ Hijack) × ((T k r).hijacker ≡ Some h) × Replying V T over given sent c k r []
HoldsAt {B} {H} at.Refusing V T s over given sent c = Refuses c.ending.late V T over given sent c
HoldsAt {B} {H} (at.Listening h) V T s over given sent c = Hears V T over given sent c h
HoldsAt {B} {H} (at.Speaking h) V T s over given sent c = Hears V T over given sent c h
HoldsAt {B} {H} at.Parting V T s over given sent c = SaidLast V T over given sent c
HoldsAt {B} {H} (at.Over why) V T s over given sent c = EndsPlainly c.ending why V T (past s c given sent over)

-- a connection at this place stands for its talk, over these replies: what its link tells, and what it keeps
pub record StandsAt {B H : Type 0} (V : Voice H) (T : Teller H) (s : Seen) (peer : List ℕ) (a : At B H) (c : Kept) : Type 0 where
  pub given : List ℕ
  pub sent : List ℕ
  pub over : Bool
  pub shows : Shows s peer given sent over
  pub counts : Counts c.taken given
  pub at : HoldsAt a V T s over given sent c

abbrev pub kept : {B H : Type 0} {g : Ghosts B} → Inside B H g → Kept
kept {B} {H} {g} p = record {
  intake = p.intake;
  unfed = p.unfed;
  ring = p.ring.items;
  calls = p.calls;
  taken = p.taken;
  ending = p.ending;
}

abbrev pub HoldsBy : {B H : Type 0} {g : Ghosts B} → Voice H → Teller H → Seen → Inside B H g → Type 0
HoldsBy {B} {H} {g} V T s p = StandsAt V T s p.peer p.at (kept p)
