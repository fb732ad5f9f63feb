-- A body in chunks (RFC 9112, section 7.1), on whole lists of bytes. What a size line and a trailer are
-- is decided by `httparse`'s grammar of chunk lines and of header sections. The numbers of the refusals,
-- their order and the limits are this project's own.
use Rattle.std.specs.Prelude.{◌≡◌, ℕ, suc, ◌+◌, ◌-◌, ◌≤◌, ◌⊎◌, Bool, ◌&&◌, ◌==◌, nat_lt, nat_le, if◌then◌else◌, MatchBool, List, [], ◌∷◌, length, take, drop, count_by, Option, None, Some, option_map}
use Rattle.httparse.specs.Grammar.{LineEnd, Field, ReadsSection, ChunkLine, ReadsChunkLine, chunk_size}
use Rattle.rack_types.specs.declared.fault.Fault.{Fault}
use Rattle.rack_types.specs.declared.fault.Fault.TheVariants.{F}
use Rattle.rack_types.specs.Limits.{stock_limits}
use Rattle.message_framing.specs.HeadText.{lf, cr, empty_line, lines_end}
use Rattle.message_framing.specs.Head.{is_line_feed}
use Rattle.message_framing.specs.Framing.{body_limit}

-- the bytes that a size line may have, with its line feed
abbrev pub size_line_limit : ℕ
size_line_limit = stock_limits.size_line

-- the bytes that a trailer may have, with the empty line that ends it
abbrev pub trailer_limit : ℕ
trailer_limit = stock_limits.trailer

-- the field lines that a trailer may have
abbrev pub trailer_lines_limit : ℕ
trailer_lines_limit = stock_limits.lines

-- the bytes of the line at the front, through its line feed; none where it has not ended
unfoldable pub line_end : List ℕ → Option ℕ
line_end [] = None
line_end (b ∷ rest) = if b == lf then Some 1 else option_map suc (line_end rest)

-- the same, where it ends within the limit
abbrev pub size_line_within : List ℕ → Option ℕ
size_line_within b = line_end (take size_line_limit b)

-- the bytes of the trailer at the front: of an empty line, or through the first line feed that an empty
-- line follows and through that empty line; none where it has not ended
unfoldable pub trailer_end : List ℕ → Option ℕ
trailer_end b = if nat_lt 0 (empty_line b) then Some (empty_line b) else lines_end b

-- the same, where it ends within the limit
abbrev pub trailer_within : List ℕ → Option ℕ
trailer_within b = trailer_end (take trailer_limit b)

-- the line is a size line, and names this size
abbrev pub NamesSize : List ℕ → ℕ → Type 0
NamesSize line size = (l : ChunkLine) × ReadsChunkLine line l [] × (size ≡ chunk_size l)

-- the line is no size line
abbrev pub NamesNone : List ℕ → Type 0
NamesNone line = (l : ChunkLine) → ¬ (ReadsChunkLine line l [])

-- the text is a trailer, of as many fields at most as lines are taken
abbrev pub IsTrailer : List ℕ → Type 0
IsTrailer text =
    (fields : List Field) × (end : LineEnd) × ReadsSection text fields end [] × (length fields ≤ trailer_lines_limit)

-- the text is no trailer
abbrev pub IsNoTrailer : List ℕ → Type 0
IsNoTrailer text = ¬ (IsTrailer text)

-- a trailer's text has more field lines than are taken
unfoldable pub has_too_many_fields : List ℕ → Bool
has_too_many_fields text = nat_lt trailer_lines_limit (count_by is_line_feed text - 1)

-- what stands at the front of a body in chunks: nothing whole yet; a chunk of so many bytes with this
-- data; the last chunk and the trailer, of so many bytes; or a refusal
pub data Front : Type 0 where
  coming : Front
  chunk : ℕ → List ℕ → Front
  last : ℕ → Front
  refused : Fault → Front

-- behind a chunk's data: the bytes of the chunk, its data, and what follows the data. CR LF is to
-- follow, and the first byte that is another is refused
abbrev pub data_front : ℕ → List ℕ → List ℕ → Front
data_front len bytes [] = coming
data_front len bytes (b ∷ []) = if b == cr then coming else refused (F 13)
data_front len bytes (b ∷ c ∷ rest) = if (b == cr) && (c == lf) then chunk len bytes else refused (F 13)

-- behind a size line of n bytes that names a size above 0
abbrev pub chunk_front : ℕ → ℕ → List ℕ → Front
chunk_front n size rest = data_front (n + (size + 2)) (take size rest) (drop size rest)

-- the trailer's text is whole, and the last chunk has so many bytes with it
abbrev pub TrailerText : List ℕ → ℕ → Front → Type 0
TrailerText text len front =
    MatchBool (has_too_many_fields text)
    (front ≡ refused (F 16))
    ((IsTrailer text × (front ≡ last len)) ⊎ (IsNoTrailer text × (front ≡ refused (F 13))))

-- behind a size line of n bytes that names 0, by where the trailer ends
abbrev pub TrailerFront : Option ℕ → ℕ → List ℕ → Front → Type 0
TrailerFront None n rest front = front ≡ (if nat_lt trailer_limit (length rest) then refused (F 16) else coming)
TrailerFront (Some m) n rest front = TrailerText (take m rest) (n + m) front

-- behind a size line of n bytes that names this size, where the chunks before it have `sum` bytes of data
abbrev pub SizeFront : ℕ → ℕ → ℕ → List ℕ → Front → Type 0
SizeFront sum n size rest front =
    MatchBool (nat_lt body_limit (sum + size))
    (front ≡ refused (F 14))
    (MatchBool (size == 0) (TrailerFront (trailer_within rest) n rest front) (front ≡ chunk_front n size rest))

-- by where the size line ends
abbrev pub LineFront : Option ℕ → ℕ → List ℕ → Front → Type 0
LineFront None sum b front = front ≡ (if nat_le size_line_limit (length b) then refused (F 15) else coming)
LineFront (Some n) sum b front =
    (NamesNone (take n b) × (front ≡ refused (F 13)))
    ⊎ ((size : ℕ) × NamesSize (take n b) size × SizeFront sum n size (drop n b) front)

-- this stands at the front of b, where the chunks before it have `sum` bytes of data
abbrev pub FrontIs : ℕ → List ℕ → Front → Type 0
FrontIs sum b front = LineFront (size_line_within b) sum b front

-- b begins with chunks of these data, the last chunk and the trailer, which have so many bytes in all;
-- the chunks before b have `sum` bytes of data
unfoldable pub ChunksAt : List (List ℕ) → ℕ → List ℕ → ℕ → Type 0
ChunksAt [] sum b len = FrontIs sum b (last len)
ChunksAt (bytes ∷ more) sum b len =
    (n m : ℕ) × FrontIs sum b (chunk n bytes) × ChunksAt more (sum + length bytes) (drop n b) m × (len ≡ n + m)

-- b begins with chunks of these data, and behind them stands this refusal
unfoldable pub ChunksRefused : List (List ℕ) → ℕ → List ℕ → Fault → Type 0
ChunksRefused [] sum b f = FrontIs sum b (refused f)
ChunksRefused (bytes ∷ more) sum b f =
    (n : ℕ) × FrontIs sum b (chunk n bytes) × ChunksRefused more (sum + length bytes) (drop n b) f

-- b is chunks of these data, and then rest; the chunks before b have `sum` bytes of data
unfoldable pub After : List (List ℕ) → ℕ → List ℕ → List ℕ → Type 0
After [] sum b rest = b ≡ rest
After (bytes ∷ more) sum b rest = (n : ℕ) × FrontIs sum b (chunk n bytes) × After more (sum + length bytes) (drop n b) rest

-- b ends inside a size line, or in the trailer: whole chunks, and then a line that has not ended, or a
-- size line that names 0 and some bytes more
abbrev pub EndsInLine : List ℕ → Type 0
EndsInLine b =
    (pieces : List (List ℕ)) × (rest : List ℕ) × After pieces 0 b rest
    × ((line_end rest ≡ None) ⊎ ((n : ℕ) × (line_end rest ≡ Some n) × NamesSize (take n rest) 0))
