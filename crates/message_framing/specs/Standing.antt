-- What stands in an intake behind one step. This serves inner contracts alone.
use Rattle.std.specs.Prelude.{◌≡◌, ℕ, ◌<◌, ◌≤◌, List, [], ◌++◌, length, take, true, false, Result, Ok, Err, IsErr}
use Rattle.std.specs.declared.alloc.AllocError.{AllocError}
use Rattle.rack_types.specs.Request.{framed}
use Rattle.message_framing.specs.declared.fields.Framing.TheVariants as framing
use Rattle.message_framing.specs.declared.head.Head.{Head}
use Rattle.message_framing.specs.declared.intake.Feed.{Feed}
use Rattle.message_framing.specs.declared.intake.Feed.TheVariants.{More, Whole, Refused}
use Rattle.message_framing.specs.declared.standing.ChunkedBody.{ChunkedBody}
use Rattle.message_framing.specs.declared.standing.StatedBody.{StatedBody}
use Rattle.message_framing.specs.declared.standing.Standing.{Standing}
use Rattle.message_framing.specs.declared.standing.Standing.TheVariants as at
use Rattle.message_framing.specs.HeadText.{head_text}
use Rattle.message_framing.specs.Body.{IsBody, BodyRefusal}
use Rattle.message_framing.specs.Places.{StandsHead, RefusesHead}
use Rattle.message_framing.specs.Decoding.{HasRead, LacksIn}

-- what stands behind a head that earns no refusal
abbrev pub StandsBehind : Head → Standing → Type 0
StandsBehind head at.Open = ⊥
StandsBehind head (at.Stated body) =
    (head.framing ≡ framing.Stated body.length) × (body.request ≡ head.request) × (body.bytes.items ≡ [])
StandsBehind head (at.Chunked body) = (head.framing ≡ framing.Chunked) × (body.request ≡ head.request) × HasRead body.chunks []
StandsBehind head (at.Whole r) = (head.framing ≡ framing.Stated 0) × (r ≡ head.request)
StandsBehind head (at.Refused f) = ⊥
StandsBehind head at.Lacking = (n : ℕ) × (head.framing ≡ framing.Stated n) × (0 < n)

-- a stated body behind a piece
abbrev pub StatedGoesOn : StatedBody → List ℕ → Result Feed AllocError → Standing → Type 0
StatedGoesOn old piece (Ok More) (at.Stated body) =
    (body.request ≡ old.request) × (body.length ≡ old.length) × (body.bytes.items ≡ old.bytes.items ++ piece)
StatedGoesOn old piece (Ok (Whole n)) (at.Whole r) =
    (n ≤ length piece) × (old.length ≡ length (old.bytes.items ++ take n piece))
    × (r ≡ framed (old.bytes.items ++ take n piece) false old.request)
StatedGoesOn old piece answer standing = ⊥

-- chunks behind a piece
abbrev pub ChunkedGoesOn : ChunkedBody → List ℕ → Result Feed AllocError → Standing → Type 0
ChunkedGoesOn old piece (Ok More) (at.Chunked body) =
    (body.request ≡ old.request) × ((b : List ℕ) → HasRead old.chunks b → HasRead body.chunks (b ++ piece))
ChunkedGoesOn old piece (Ok (Whole n)) (at.Whole r) =
    (n ≤ length piece) × ((b : List ℕ) → HasRead old.chunks b → IsBody framing.Chunked (b ++ take n piece) r.body)
    × (r ≡ framed r.body true old.request)
ChunkedGoesOn old piece (Ok (Refused f)) (at.Refused g) =
    (f ≡ g) × ((b : List ℕ) → HasRead old.chunks b → BodyRefusal framing.Chunked (b ++ piece) f)
ChunkedGoesOn old piece (Err e) at.Lacking = (b : List ℕ) → HasRead old.chunks b → LacksIn b piece
ChunkedGoesOn old piece answer standing = ⊥

-- what stands behind a piece, by what stood; a head that is still coming is left as it is
abbrev pub FeedsOn : Standing → List ℕ → Result Feed AllocError → Standing → Type 0
FeedsOn at.Open piece answer standing = (answer ≡ Ok More) × (standing ≡ at.Open)
FeedsOn (at.Stated body) piece answer standing = StatedGoesOn body piece answer standing
FeedsOn (at.Chunked body) piece answer standing = ChunkedGoesOn body piece answer standing
FeedsOn (at.Whole r) piece answer standing = (answer ≡ Ok (Whole 0)) × (standing ≡ at.Whole r)
FeedsOn (at.Refused f) piece answer standing = (answer ≡ Ok (Refused f)) × (standing ≡ at.Refused f)
FeedsOn at.Lacking piece answer standing = IsErr answer × (standing ≡ at.Lacking)

-- what stands behind a whole head, which has these bytes with the empty lines before it
abbrev pub Judges : List ℕ → Standing → Type 0
Judges bytes (at.Refused f) = RefusesHead (head_text bytes) f
Judges bytes standing = (head : Head) × StandsHead (head_text bytes) head.request head.framing × StandsBehind head standing
