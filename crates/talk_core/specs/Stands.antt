-- What a connection stands for at each moment: which requests it answered whole, what it is saying, and what of it
-- is still lacking.
use Rattle.std.specs.Prelude.{◌≡◌, ℕ, ◌+◌, Bool, List, [], ◌∷◌, ◌++◌, length, Option, None, Some, ◌⊎◌, ⊤}
use Rattle.rack_types.specs.declared.fault.Fault.{Fault}
use Rattle.rack_types.specs.declared.fault.Fault.TheVariants.{T1}
use Rattle.rack_types.specs.Request.{Parts}
use Rattle.message_framing.specs.Request.{Refusal, Wanting, Begun}
use Rattle.reply_framing.specs.declared.types.After.TheVariants.{Hijack}
use Rattle.reply_framing.specs.Fault.{fault_reply}
use Rattle.talk_core.specs.Teller.{Teller, fates_of}
use Rattle.talk_core.specs.Talk.{Asks, AllKeep, replies_to}
use Rattle.talk_core.specs.Tail.{Voice, tail_of}

-- what is said behind the replies that were sent whole: nothing; the reply to a request; the reply that names a
-- refusal, or that a request took too long; or the reply to a request and what the hijacker says behind it
pub data Word (H : Type 0) : Type 0 where
  silent : Word H
  replies : (r : Parts) → Word H
  refuses : (f : Fault) → Word H
  times_out : Word H
  hands_over : (r : Parts) → (h : H) → Word H

-- the request that it answers
abbrev pub asked_by : {H : Type 0} → Word H → List Parts
asked_by {H} silent = []
asked_by {H} (replies r) = r ∷ []
asked_by {H} (refuses f) = []
asked_by {H} times_out = []
asked_by {H} (hands_over r h) = r ∷ []

-- its text, behind k replies and before the rest
abbrev pub text_by : {H : Type 0} → Voice H → Teller H → Bool → ℕ → Word H → List ℕ → List ℕ
text_by {H} V T over k silent rest = []
text_by {H} V T over k (replies r) rest = (T k r).bytes
text_by {H} V T over k (refuses f) rest = fault_reply f
text_by {H} V T over k times_out rest = fault_reply T1
text_by {H} V T over k (hands_over r h) rest = (T k r).bytes ++ tail_of V h rest over

-- it may be said there
abbrev pub Fits : {H : Type 0} → Teller H → ℕ → Word H → List ℕ → Type 0
Fits {H} T k silent rest = ⊤
Fits {H} T k (replies r) rest = ⊤
Fits {H} T k (refuses f) rest = Refusal rest f
Fits {H} T k times_out rest = Wanting rest × Begun rest
Fits {H} T k (hands_over r h) rest = ((T k r).after ≡ Hijack) × ((T k r).hijacker ≡ Some h)

-- of these bytes k requests were answered whole, behind each of which the connection goes on; then comes the word,
-- a part of which was sent, and this is lacking; the rest of the bytes stands behind the requests
pub record Stands {H : Type 0} (V : Voice H) (T : Teller H) (over : Bool) (given sent : List ℕ) (k : ℕ) (word : Word H)
    (rest lacks : List ℕ) : Type 0 where
  pub whole : List Parts
  pub count : k ≡ length whole
  pub asks : Asks given (whole ++ asked_by word) rest
  pub keeps : AllKeep (fates_of T) 0 whole
  pub part : List ℕ
  pub sent_is : sent ≡ replies_to T 0 whole ++ part
  pub part_is : part ++ lacks ≡ text_by V T over k word rest
  pub fits : Fits T k word rest

-- the word is said to a hijack
abbrev pub IsHijack : {H : Type 0} → Teller H → ℕ → Word H → Type 0
IsHijack {H} T k silent = ⊥
IsHijack {H} T k (replies r) = (T k r).after ≡ Hijack
IsHijack {H} T k (refuses f) = ⊥
IsHijack {H} T k times_out = ⊥
IsHijack {H} T k (hands_over r h) = ⊤

-- where a reply closes by draining, it is that of the last request, and no byte stands behind that request unless
-- its reply is a hijack
abbrev pub ClosesAt : Option ℕ → ℕ → Type 0 → List ℕ → Type 0
ClosesAt None calls IsTaken rest = ⊤
ClosesAt (Some k) calls IsTaken rest = (calls ≡ k + 1) × (IsTaken ⊎ (rest ≡ []))

-- a connection stands for its talk: of so many runs all replies but the last were sent whole; of what is being said
-- this is lacking
pub record Partly {H : Type 0} (V : Voice H) (T : Teller H) (over : Bool) (given sent : List ℕ) (calls : ℕ) (closing : Option ℕ)
    (word : Word H) (lacks : List ℕ) : Type 0 where
  pub k : ℕ
  pub rest : List ℕ
  pub calls_is : calls ≡ k + length (asked_by word)
  pub stands : Stands V T over given sent k word rest lacks
  pub closes : ClosesAt closing calls (IsHijack T k word) rest
