-- The talk on the bytes that were given: the requests in them, one behind the other, up to the one that ends it,
-- and the text that answers them (RFC 9112, section 9.3).
use Rattle.std.specs.Prelude.{◌≡◌, ℕ, ◌+◌, nat_lt, if◌then◌else◌, List, [], ◌∷◌, ◌++◌, length, ⊤}
use Rattle.rack_types.specs.declared.fault.Fault.{Fault}
use Rattle.rack_types.specs.declared.fault.Fault.TheVariants.{T1}
use Rattle.rack_types.specs.Request.{Parts}
use Rattle.message_framing.specs.HeadText.{skipped}
use Rattle.message_framing.specs.Request.{IsRequest, Refusal, Wanting}
use Rattle.reply_framing.specs.declared.types.After.{After}
use Rattle.reply_framing.specs.declared.types.After.TheVariants.{Keep, Close, Hijack}
use Rattle.reply_framing.specs.Fault.{fault_reply}
use Rattle.talk_core.specs.Teller.{Teller, Fates}

-- b is these requests, one behind the other, and then the rest
abbrev pub Asks : List ℕ → List Parts → List ℕ → Type 0
Asks b [] rest = b ≡ rest
Asks b (r ∷ rs) rest = (front : List ℕ) × (next : List ℕ) × (b ≡ front ++ next) × IsRequest front r × Asks next rs rest

-- behind each of these requests, the first of which has number k, the connection goes on
abbrev pub AllKeep : Fates → ℕ → List Parts → Type 0
AllKeep fates k [] = ⊤
AllKeep fates k (r ∷ rs) = (fates k r ≡ Keep) × AllKeep fates (k + 1) rs

-- the last of these requests has this fate, and behind each one before it the connection goes on
pub record EndsAs (after : After) (fates : Fates) (asked : List Parts) : Type 0 where
  pub front : List Parts
  pub last : Parts
  pub asked_is : asked ≡ front ++ last ∷ []
  pub keeps : AllKeep fates 0 front
  pub fate : fates (length front) last ≡ after

-- how a talk stops: nothing whole stands in the rest; the rest is refused; the last reply closes; or it hands the
-- connection to a hijacker
pub data Stop : Type 0 where
  wanting : Stop
  refused : (f : Fault) → Stop
  closed : Stop
  hijacked : Stop

abbrev pub StopsAs : Stop → Fates → List Parts → List ℕ → Type 0
StopsAs wanting fates asked rest = AllKeep fates 0 asked × Wanting rest
StopsAs (refused f) fates asked rest = AllKeep fates 0 asked × Refusal rest f
StopsAs closed fates asked rest = EndsAs Close fates asked
StopsAs hijacked fates asked rest = EndsAs Hijack fates asked

-- the talk on these bytes asks this, stops so, and leaves the rest
pub record Talk (fates : Fates) (given : List ℕ) (asked : List Parts) (stop : Stop) (rest : List ℕ) : Type 0 where
  pub asks : Asks given asked rest
  pub stops : StopsAs stop fates asked rest

-- it stopped for good: no bytes that come behind change it
abbrev pub IsFinal : Stop → Type 0
IsFinal wanting = ⊥
IsFinal (refused f) = ⊤
IsFinal closed = ⊤
IsFinal hijacked = ⊤

-- the replies to these requests, the first of which has number k, joined
abbrev pub replies_to : {H : Type 0} → Teller H → ℕ → List Parts → List ℕ
replies_to T k [] = []
replies_to T k (r ∷ rs) = (T k r).bytes ++ replies_to T (k + 1) rs

-- the reply that names the refusal, where the talk stopped at one
abbrev pub last_word : Stop → List ℕ
last_word wanting = []
last_word (refused f) = fault_reply f
last_word closed = []
last_word hijacked = []

-- the text of a talk
abbrev pub text : {H : Type 0} → Teller H → List Parts → Stop → List ℕ
text T asked stop = replies_to T 0 asked ++ last_word stop

-- the reply that ends a talk in which a request was begun and did not become whole
abbrev pub time_out : Stop → List ℕ → List ℕ
time_out wanting rest = if nat_lt (skipped rest) (length rest) then fault_reply T1 else []
time_out (refused f) rest = []
time_out closed rest = []
time_out hijacked rest = []

-- the text of a talk that was timed out
abbrev pub timed_text : {H : Type 0} → Teller H → List Parts → Stop → List ℕ → List ℕ
timed_text T asked stop rest = text T asked stop ++ time_out stop rest
