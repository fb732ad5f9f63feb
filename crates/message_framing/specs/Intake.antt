-- What the calls of an intake answer. `Fed`, `Spent`, `Lacked`, `Lacks` and `StandsWhole` are names of what an
-- intake holds: `new` and `advance` tell `Fed` of no bytes, and the other calls carry them on, so that
-- whoever holds an intake carries the bytes of the present request that it was fed. Nothing has to be known of
-- what stands behind these five; the other definitions are to be read.
use Rattle.std.specs.Prelude.{◌≡◌, ℕ, false, ◌<◌, ◌≤◌, List, ◌++◌, length, take, drop, None, Some, Result, Ok, Err}
use Rattle.std.specs.declared.alloc.AllocError.{AllocError}
use Rattle.httparse.specs.Grammar.{RequestHead}
use Rattle.rack_types.specs.Request.{Parts}
use Rattle.message_framing.specs.declared.fields.Framing.{Framing}
use Rattle.message_framing.specs.declared.fields.Framing.TheVariants as framing
use Rattle.message_framing.specs.HeadText.{head_text}
use Rattle.message_framing.specs.Head.{IsHead, head_fault, head_framing}
use Rattle.message_framing.specs.Chunks.{EndsInLine}
use Rattle.message_framing.specs.Request.{head_within, has_too_many_lines, Refusal, IsRequest, Wanting}
use Rattle.message_framing.specs.Held.{FedAt, SpentAt, StandsWholeAt}
use Rattle.message_framing.specs.Scan.{behind}
use Rattle.message_framing.specs.declared.scan.Line.TheVariants.{Skipping}
use Rattle.message_framing.specs.declared.intake.Feed.{Feed}
use Rattle.message_framing.specs.declared.intake.Feed.TheVariants.{More, Whole, Refused}
use Rattle.message_framing.specs.declared.intake.Intake.{Intake}
use Rattle.message_framing.specs.declared.standing.Standing.TheVariants as at

-- the bytes of the present request that this intake was fed and took are b
pub record Fed (i : Intake) (b : List ℕ) : Type 0 where
  pub line : i.line ≡ behind Skipping b
  pub at : FedAt i.standing i b

-- the same, and those bytes are a whole request whose body was moved out
pub record Spent (i : Intake) (b : List ℕ) : Type 0 where
  pub line : i.line ≡ behind Skipping b
  pub at : SpentAt i.standing b

-- memory was refused to this intake
abbrev pub Lacks : Intake → Type 0
Lacks i = i.standing ≡ at.Lacking

-- the same, and b are the bytes that came, with the piece to which it was refused
pub record Lacked (i : Intake) (b : List ℕ) : Type 0 where
  pub line : i.line ≡ behind Skipping b
  pub at : Lacks i

-- a whole request stands in this intake
abbrev pub StandsWhole : Intake → Type 0
StandsWhole i = StandsWholeAt i.standing

-- the answer is right of the bytes so far, b, and the piece that is fed
abbrev pub IsRight : Feed → List ℕ → List ℕ → Type 0
IsRight More b piece = Wanting (b ++ piece)
IsRight (Whole n) b piece = (n ≤ length piece) × ((r : Parts) × IsRequest (b ++ take n piece) r)
IsRight (Refused f) b piece = Refusal (b ++ piece) f

-- the bytes that were fed and taken behind that answer: those behind a whole request are not
abbrev pub taken : Feed → List ℕ → List ℕ → List ℕ
taken More b piece = b ++ piece
taken (Whole n) b piece = b ++ take n piece
taken (Refused f) b piece = b ++ piece

-- memory is taken for a body framed so: for one of a stated length above 0, at the end of its head; and for
-- chunks, at a byte of a size line or of the trailer, but not at one of a chunk's data. n is where the head
-- text ends of the bytes so far, b, with the piece
abbrev pub NeedsMemory : Framing → ℕ → List ℕ → List ℕ → Type 0
NeedsMemory (framing.Stated m) n b piece = (0 < m) × (head_within b ≡ None)
NeedsMemory framing.Chunked n b piece =
    (k : ℕ) × (k < length piece) × (n ≤ length (b ++ take k piece)) × EndsInLine (drop n (b ++ take k piece))

-- want of memory may be answered to this piece: before it nothing stands, and with it a head is whole,
-- earns no refusal, and has a body for which memory is taken
pub record LacksRightly (b piece : List ℕ) : Type 0 where
  pub some : 0 < length piece
  pub wanting : Wanting b
  pub n : ℕ
  pub head : RequestHead
  pub end : head_within (b ++ piece) ≡ Some n
  pub few : has_too_many_lines (head_text (take n (b ++ piece))) ≡ false
  pub is_head : IsHead (head_text (take n (b ++ piece))) head
  pub good : head_fault head ≡ None
  pub needs : NeedsMemory (head_framing head) n b piece

-- the answer tells that a whole request stands exactly where one does
abbrev pub TellsWhole : Feed → Intake → Type 0
TellsWhole More i = ¬ (StandsWhole i)
TellsWhole (Whole n) i = StandsWhole i
TellsWhole (Refused f) i = ¬ (StandsWhole i)

-- one `feed`, whatever the bytes so far are. Where it answers, the answer is right, and the intake then
-- holds what was taken; behind a request whose body was moved out it is `Whole(0)`. Where memory is
-- refused, it may be, or it was before
pub record AnswersRightly (old : Intake) (piece : List ℕ) (answer : Feed) (new : Intake) : Type 0 where
  pub right : (b : List ℕ) → Fed old b → IsRight answer b piece
  pub holds : (b : List ℕ) → Fed old b → Fed new (taken answer b piece)
  pub spent : (b : List ℕ) → Spent old b → (answer ≡ Whole 0) × Spent new b
  pub whole : TellsWhole answer new
  pub lacked : ¬ (Lacks old)

-- the same where memory is refused: the piece counts for the bytes that came, and a further one does not
pub record RefusesMemory (old : Intake) (piece : List ℕ) (new : Intake) : Type 0 where
  pub lacks : Lacks new
  pub came : (b : List ℕ) → Fed old b → Lacked new (b ++ piece)
  pub stays : (b : List ℕ) → Lacked old b → Lacked new b
  pub rightly : (b : List ℕ) → Fed old b → LacksRightly b piece
  pub unspent : (b : List ℕ) → ¬ (Spent old b)

abbrev pub FeedsTo : Intake → List ℕ → Result Feed AllocError → Intake → Type 0
FeedsTo old piece (Ok answer) new = AnswersRightly old piece answer new
FeedsTo old piece (Err e) new = RefusesMemory old piece new
