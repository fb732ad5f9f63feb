-- Laws over talks.
use Rattle.std.specs.Prelude.{◌≡◌, ℕ, ◌<◌, ◌≤◌, Bool, false, List, [], ◌∷◌, ◌++◌, length, take, Option, None, Some, ◌⊎◌}
use Rattle.std.specs.List.{concat}
use Rattle.rack_types.specs.Request.{Parts}
use Rattle.rack_types.specs.Limits.{stock_limits}
use Rattle.hijack_core.specs.Said.{Starts}
use Rattle.message_framing.specs.Chunks.{ChunksAt}
use Rattle.reply_framing.specs.declared.types.Form.TheVariants as form
use Rattle.reply_framing.specs.Body.{body_bytes}
use Rattle.reply_framing.specs.Fault.{fault_reply}
use Rattle.talk_core.specs.Stands.{Word, Partly, ClosesAt}
use Rattle.talk_core.specs.Tail.{Voice, tail_of}
use Rattle.talk_core.specs.Talk.{Stop, wanting, refused, closed, hijacked, Talk, IsFinal, replies_to, time_out}
use Rattle.talk_core.specs.Teller.{Fates, Teller, fates_of}

-- at most one talk is on these bytes
abbrev pub IsOneTalk : Fates → List ℕ → Type 0
IsOneTalk fates given =
    (asked asked' : List Parts) (stop stop' : Stop) (rest rest' : List ℕ) → Talk fates given asked stop rest
    → Talk fates given asked' stop' rest' → (asked ≡ asked') × (stop ≡ stop') × (rest ≡ rest')

-- a talk is on these bytes
abbrev pub HasTalk : Fates → List ℕ → Type 0
HasTalk fates given = (asked : List Parts) × (stop : Stop) × (rest : List ℕ) × Talk fates given asked stop rest

-- a talk that stopped for good is that of any further bytes, and only its rest grows
abbrev pub Stays : Fates → List ℕ → List ℕ → Type 0
Stays fates given more =
    (asked : List Parts) (stop : Stop) (rest : List ℕ) → IsFinal stop → Talk fates given asked stop rest
    → Talk fates (given ++ more) asked stop (rest ++ more)

-- the last of these requests hands the connection to this hijacker
pub record HandsTo {H : Type 0} (T : Teller H) (asked : List Parts) (h : H) : Type 0 where
  pub front : List Parts
  pub last : Parts
  pub asked_is : asked ≡ front ++ last ∷ []
  pub hijacker : (T (length front) last).hijacker ≡ Some h

-- what may end the text of a whole talk: the reply that names the refusal, or that a request took too long, or what
-- the hijacker says
abbrev pub IsEnding : {H : Type 0} → Voice H → Teller H → Bool → List Parts → Stop → List ℕ → List ℕ → Type 0
IsEnding {H} V T over asked wanting rest ending = ending ≡ time_out wanting rest
IsEnding {H} V T over asked (refused f) rest ending = ending ≡ fault_reply f
IsEnding {H} V T over asked closed rest ending = ending ≡ []
IsEnding {H} V T over asked hijacked rest ending = (h : H) × HandsTo T asked h × (ending ≡ tail_of V h rest over)

-- what was sent by so many runs stands for this talk: there are no more runs than requests; the replies before that
-- of the last run were sent whole; and what was sent begins the replies of these runs with, where all requests were
-- run, an ending. A reply that closes by draining is that of the talk's last request, and no byte stands behind it
-- unless it is a hijack.
pub record BeginsTalk {H : Type 0} (V : Voice H) (T : Teller H) (over : Bool) (asked : List Parts) (stop : Stop) (rest sent : List ℕ)
    (calls : ℕ) (closing : Option ℕ) : Type 0 where
  pub few : calls ≤ length asked
  pub whole : (j : ℕ) → j < calls → Starts (replies_to T 0 (take j asked)) sent
  pub ending : List ℕ
  pub ends : (ending ≡ []) ⊎ ((calls ≡ length asked) × IsEnding V T over asked stop rest ending)
  pub front : Starts sent (replies_to T 0 (take calls asked) ++ ending)
  pub closes : ClosesAt closing (length asked) (stop ≡ hijacked) rest

-- what stands in part stands for each talk on its bytes
abbrev pub PartlyStands : {H : Type 0} → Voice H → Teller H → Bool → List ℕ → List ℕ → ℕ → Option ℕ → Type 0
PartlyStands {H} V T over given sent calls closing =
    (word : Word H) (lacks : List ℕ) (asked : List Parts) (stop : Stop) (rest : List ℕ)
    → Partly V T over given sent calls closing word lacks → Talk (fates_of T) given asked stop rest
    → BeginsTalk V T over asked stop rest sent calls closing

-- b is a body in chunks and nothing else, and these are its bytes: the chunks' data joined (RFC 9112, section 7.1)
abbrev pub IsChunkedBody : List ℕ → List ℕ → Type 0
IsChunkedBody b body = (chunks : List (List ℕ)) × ChunksAt chunks 0 b (length b) × (body ≡ concat chunks)

-- what the framer prints of these pieces in chunks is read as one body in chunks, whose bytes are the pieces joined
abbrev pub AreReadAgain : List (List ℕ) → Type 0
AreReadAgain pieces =
    length (concat pieces) ≤ stock_limits.body → IsChunkedBody (body_bytes form.Chunked None pieces false) (concat pieces)
