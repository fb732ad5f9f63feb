-- What a reader of chunks holds. This serves inner contracts alone: what stands in the bytes is said by
-- `Chunks` and `Body`.
use Rattle.std.specs.Prelude.{◌≡◌, ℕ, ◌+◌, ◌<◌, ◌≤◌, Option, List, [], ◌∷◌, ◌++◌, length, take, None, Some, Result, Ok, Err, ⊤, vec_len, vec_capacity}
use Rattle.std.specs.List.{concat}
use Rattle.std.specs.declared.alloc.AllocError.{AllocError}
use Rattle.rack_types.specs.declared.fault.Fault.{Fault}
use Rattle.message_framing.specs.declared.chunks.Chunks.{Chunks}
use Rattle.message_framing.specs.declared.chunks.Place.{Place}
use Rattle.message_framing.specs.declared.chunks.Place.TheVariants as place
use Rattle.message_framing.specs.declared.chunks.Step.{Step}
use Rattle.message_framing.specs.declared.chunks.Step.TheVariants as step
use Rattle.message_framing.specs.declared.fields.Framing.TheVariants.{Chunked}
use Rattle.message_framing.specs.declared.intake.Feed.{Feed}
use Rattle.message_framing.specs.declared.intake.Feed.TheVariants.{More, Whole, Refused}
use Rattle.message_framing.specs.declared.scan.Line.{Line}
use Rattle.message_framing.specs.declared.scan.Line.TheVariants.{Start}
use Rattle.message_framing.specs.HeadText.{cr}
use Rattle.message_framing.specs.Scan.{behind, ends}
use Rattle.message_framing.specs.Framing.{body_limit}
use Rattle.message_framing.specs.Chunks.{size_line_limit, trailer_limit, line_end, NamesSize, Front, last, refused, TrailerText, After, EndsInLine}
use Rattle.message_framing.specs.Body.{IsBody, BodyRefusal}

-- a whole size line within the limit, which names this size
pub record IsSizeLine (line : List ℕ) (size : ℕ) : Type 0 where
  pub end : line_end line ≡ Some (length line)
  pub within : length line ≤ size_line_limit
  pub names : NamesSize line size

-- inside a size line
pub record InSizeLine (c : Chunks) (b : List ℕ) : Type 0 where
  pub pieces : List (List ℕ)
  pub after : After pieces 0 b c.text.items
  pub data_is : c.bytes.items ≡ concat pieces
  pub sum : length (concat pieces) ≤ body_limit
  pub unended : line_end c.text.items ≡ None
  pub within : length c.text.items < size_line_limit

-- behind a size line that is whole and within the limit, and is not read yet
pub record AtSizeLine (c : Chunks) (b : List ℕ) : Type 0 where
  pub pieces : List (List ℕ)
  pub after : After pieces 0 b c.text.items
  pub data_is : c.bytes.items ≡ concat pieces
  pub sum : length (concat pieces) ≤ body_limit
  pub end : line_end c.text.items ≡ Some (length c.text.items)
  pub within : length c.text.items ≤ size_line_limit

-- inside a chunk: some of its data came, and so many bytes of it are to come; behind them came `tail`
pub record InChunk (c : Chunks) (left : ℕ) (tail : List ℕ) (b : List ℕ) : Type 0 where
  pub pieces : List (List ℕ)
  pub line : List ℕ
  pub got : List ℕ
  pub after : After pieces 0 b (line ++ (got ++ tail))
  pub size : IsSizeLine line (length got + left)
  pub some : 0 < length got + left
  pub data_is : c.bytes.items ≡ concat pieces ++ got
  pub sum : length (concat pieces) + (length got + left) ≤ body_limit
  pub empty : c.text.items ≡ []
  pub room : vec_len c.bytes + left ≤ vec_capacity c.bytes

-- inside the trailer
pub record InTrailer (c : Chunks) (state : Line) (b : List ℕ) : Type 0 where
  pub pieces : List (List ℕ)
  pub line : List ℕ
  pub after : After pieces 0 b (line ++ c.text.items)
  pub size : IsSizeLine line 0
  pub data_is : c.bytes.items ≡ concat pieces
  pub sum : length (concat pieces) ≤ body_limit
  pub state_is : state ≡ behind Start c.text.items
  pub unended : ends Start c.text.items ≡ None
  pub within : length c.text.items ≤ trailer_limit

-- by the place that the reader is at
abbrev pub HasReadAt : Place → Chunks → List ℕ → Type 0
HasReadAt place.Size c b = InSizeLine c b
HasReadAt (place.Data left) c b = InChunk c left [] b
HasReadAt place.Return c b = InChunk c 0 (cr ∷ []) b
HasReadAt (place.Trailer state) c b = InTrailer c state b

-- the reader was fed these bytes, which are the front of a body in chunks
abbrev pub HasRead : Chunks → List ℕ → Type 0
HasRead c b = HasReadAt c.place c b

-- the reader's text is a whole size line, whose last byte is byte n of the piece: what it is then, whatever
-- chunks came before
abbrev pub OpensChunk : Chunks → ℕ → Result Step AllocError → Chunks → Type 0
OpensChunk old n (Ok (step.On m)) new = (n ≡ m) × ((b : List ℕ) → AtSizeLine old b → HasRead new b)
OpensChunk old n (Ok (step.Whole m)) new = ⊥
OpensChunk old n (Ok (step.Refused f)) new = (b : List ℕ) → AtSizeLine old b → BodyRefusal Chunked b f
OpensChunk old n (Err e) new = ⊤

-- want of memory comes at a byte of the piece that belongs to a size line or to the trailer
abbrev pub LacksIn : List ℕ → List ℕ → Type 0
LacksIn b piece = (k : ℕ) × (k < length piece) × EndsInLine (b ++ take k piece)

-- one step of the reader over a piece that is not empty
abbrev pub Steps : Chunks → List ℕ → Result Step AllocError → Chunks → Type 0
Steps old piece (Ok (step.On n)) new = (0 < n) × (n ≤ length piece) × ((b : List ℕ) → HasRead old b → HasRead new (b ++ take n piece))
Steps old piece (Ok (step.Whole n)) new =
    (n ≤ length piece) × ((b : List ℕ) → HasRead old b → IsBody Chunked (b ++ take n piece) new.bytes.items)
Steps old piece (Ok (step.Refused f)) new = (b : List ℕ) → HasRead old b → BodyRefusal Chunked (b ++ piece) f
Steps old piece (Err e) new = (b : List ℕ) → HasRead old b → EndsInLine b

-- one piece fed to the reader
abbrev pub FeedsChunks : Chunks → List ℕ → Result Feed AllocError → Chunks → Type 0
FeedsChunks old piece (Ok More) new = (b : List ℕ) → HasRead old b → HasRead new (b ++ piece)
FeedsChunks old piece (Ok (Whole n)) new =
    (n ≤ length piece) × ((b : List ℕ) → HasRead old b → IsBody Chunked (b ++ take n piece) new.bytes.items)
FeedsChunks old piece (Ok (Refused f)) new = (b : List ℕ) → HasRead old b → BodyRefusal Chunked (b ++ piece) f
FeedsChunks old piece (Err e) new = (b : List ℕ) → HasRead old b → LacksIn b piece

-- what stands where a trailer's text is whole
abbrev pub trailer_front : Option Fault → ℕ → Front
trailer_front None len = last len
trailer_front (Some f) len = refused f

-- the refusal of a whole trailer's text, none where it is a trailer
abbrev pub TrailerFault : Option Fault → List ℕ → Type 0
TrailerFault fault text = (len : ℕ) → TrailerText text len (trailer_front fault len)
