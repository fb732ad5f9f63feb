-- What answers the bytes that came, where the peer ends behind them: the text of the talk on them and, where that stopped
-- at a hijack, what the hijacker says behind it.
use Rattle.std.specs.Prelude.{◌≡◌, ◌≢◌, ℕ, true, false, List, [], ◌++◌, ⊤}
use Rattle.rack_types.specs.Request.{Parts}
use Rattle.hijack_core.specs.Said.{Starts}
use Rattle.talk_core.specs.Laws.{HandsTo}
use Rattle.talk_core.specs.Tail.{Voice, tail_of}
use Rattle.talk_core.specs.Talk.{Stop, wanting, refused, closed, hijacked, Talk, text}
use Rattle.talk_core.specs.Teller.{Teller, fates_of}

-- what stands behind the text: nothing, or at a hijack what the hijacker says to the rest of the bytes and, where it goes
-- on, at the peer's end
abbrev pub IsBehind : {H : Type 0} → Voice H → Teller H → List Parts → Stop → List ℕ → List ℕ → Type 0
IsBehind {H} V T asked wanting rest tail = tail ≡ []
IsBehind {H} V T asked (refused f) rest tail = tail ≡ []
IsBehind {H} V T asked closed rest tail = tail ≡ []
IsBehind {H} V T asked hijacked rest tail = (h : H) × HandsTo T asked h × (tail ≡ tail_of V h rest true)

-- the bytes are answered by this, whole
pub record IsAnswer {H : Type 0} (V : Voice H) (T : Teller H) (bytes answer : List ℕ) : Type 0 where
  pub asked : List Parts
  pub stop : Stop
  pub rest : List ℕ
  pub tail : List ℕ
  pub talk : Talk (fates_of T) bytes asked stop rest
  pub behind : IsBehind V T asked stop rest tail
  pub is : answer ≡ text T asked stop ++ tail

-- this is a front of what answers the bytes
abbrev pub BeginsAnswer : {H : Type 0} → Voice H → Teller H → List ℕ → List ℕ → Type 0
BeginsAnswer V T bytes sent = (answer : List ℕ) → IsAnswer V T bytes answer → Starts sent answer

-- the same, and it is not all of it
abbrev pub BeginsLess : {H : Type 0} → Voice H → Teller H → List ℕ → List ℕ → Type 0
BeginsLess V T bytes sent =
    (answer : List ℕ) → IsAnswer V T bytes answer → (more : List ℕ) × (answer ≡ sent ++ more) × (more ≢ [])

-- the talk on the bytes stopped at a hijack
abbrev pub IsHandedOver : {H : Type 0} → Teller H → List ℕ → Type 0
IsHandedOver T bytes = (asked : List Parts) × (rest : List ℕ) × Talk (fates_of T) bytes asked hijacked rest

-- this ends a talk for good: it was refused, a reply closes, or a hijacker has the connection that doesn't go on behind
-- the rest
abbrev pub EndsItself : {H : Type 0} → Voice H → Teller H → List Parts → Stop → List ℕ → Type 0
EndsItself {H} V T asked wanting rest = ⊥
EndsItself {H} V T asked (refused f) rest = ⊤
EndsItself {H} V T asked closed rest = ⊤
EndsItself {H} V T asked hijacked rest = (h : H) × HandsTo T asked h × ((V.says h rest).go_on ≡ false)

-- the talk on the bytes ended for good, without the peer's end
pub record IsClosedOn {H : Type 0} (V : Voice H) (T : Teller H) (bytes : List ℕ) : Type 0 where
  pub asked : List Parts
  pub stop : Stop
  pub rest : List ℕ
  pub talk : Talk (fates_of T) bytes asked stop rest
  pub ends : EndsItself V T asked stop rest
