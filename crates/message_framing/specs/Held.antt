-- What an intake holds, by what stands in it. This serves inner contracts alone: of it public contracts say
-- `Fed`, `Spent`, `Lacked`, `Lacks` and `StandsWhole`, which are names that whoever holds an intake carries.
use Rattle.std.specs.Prelude.{◌≡◌, ℕ, ◌≤◌, List, [], length, take, drop, None, Some, ⊤}
use Rattle.rack_types.specs.Request.{Parts, with_body}
use Rattle.message_framing.specs.declared.fields.Framing.{Framing}
use Rattle.message_framing.specs.declared.fields.Framing.TheVariants as framing
use Rattle.message_framing.specs.declared.intake.Intake.{Intake}
use Rattle.message_framing.specs.declared.standing.ChunkedBody.{ChunkedBody}
use Rattle.message_framing.specs.declared.standing.StatedBody.{StatedBody}
use Rattle.message_framing.specs.declared.standing.Standing.{Standing}
use Rattle.message_framing.specs.declared.standing.Standing.TheVariants as at
use Rattle.message_framing.specs.HeadText.{head_len, head_text}
use Rattle.message_framing.specs.Request.{head_limit, head_within, Refusal, IsRequest}
use Rattle.message_framing.specs.Places.{StandsHead}
use Rattle.message_framing.specs.Decoding.{HasRead}

-- the head is still coming: its bytes are kept, and it has not ended
pub record IsOpen (i : Intake) (b : List ℕ) : Type 0 where
  pub bytes : i.bytes.items ≡ b
  pub within : length b ≤ head_limit
  pub unended : head_len b ≡ None

-- a head that earns no refusal ends at byte n of b; this is its request, without a body, and this is
-- how its body is framed
pub record EndsHead (b : List ℕ) (n : ℕ) (r : Parts) (f : Framing) : Type 0 where
  pub end : head_within b ≡ Some n
  pub head : StandsHead (head_text (take n b)) r f

-- a body of a stated length is coming
pub record IsStated (body : StatedBody) (b : List ℕ) : Type 0 where
  pub start : ℕ
  pub head : EndsHead b start body.request (framing.Stated body.length)
  pub bytes : body.bytes.items ≡ drop start b

-- chunks are coming
pub record IsChunked (body : ChunkedBody) (b : List ℕ) : Type 0 where
  pub start : ℕ
  pub head : EndsHead b start body.request framing.Chunked
  pub fed : HasRead body.chunks (drop start b)

-- by what stands
abbrev pub FedAt : Standing → Intake → List ℕ → Type 0
FedAt at.Open i b = IsOpen i b
FedAt (at.Stated body) i b = IsStated body b
FedAt (at.Chunked body) i b = IsChunked body b
FedAt (at.Whole r) i b = IsRequest b r
FedAt (at.Refused f) i b = Refusal b f
FedAt at.Lacking i b = ⊥

-- by what stands, where the request's body was moved out
abbrev pub SpentAt : Standing → List ℕ → Type 0
SpentAt at.Open b = ⊥
SpentAt (at.Stated body) b = ⊥
SpentAt (at.Chunked body) b = ⊥
SpentAt (at.Whole r) b = (q : Parts) × IsRequest b q × (r ≡ with_body [] q)
SpentAt (at.Refused f) b = ⊥
SpentAt at.Lacking b = ⊥

-- by what stands
abbrev pub StandsWholeAt : Standing → Type 0
StandsWholeAt at.Open = ⊥
StandsWholeAt (at.Stated body) = ⊥
StandsWholeAt (at.Chunked body) = ⊥
StandsWholeAt (at.Whole r) = ⊤
StandsWholeAt (at.Refused f) = ⊥
StandsWholeAt at.Lacking = ⊥
