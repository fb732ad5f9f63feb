-- What the parts of a `feed` do: the head's, and the one behind it. This serves inner contracts alone.
use Rattle.std.specs.Prelude.{◌≡◌, ◌≢◌, ℕ, ◌+◌, ◌≤◌, List, ◌++◌, length, take, drop, Option, None, Some, Result, Ok, Err}
use Rattle.std.specs.declared.alloc.AllocError.{AllocError}
use Rattle.message_framing.specs.Scan.{behind}
use Rattle.message_framing.specs.Standing.{FeedsOn}
use Rattle.message_framing.specs.Intake.{Fed, Lacked, LacksRightly}
use Rattle.message_framing.specs.declared.scan.Line.{Line}
use Rattle.message_framing.specs.declared.intake.Feed.{Feed}
use Rattle.message_framing.specs.declared.intake.Feed.TheVariants.{More, Whole, Refused}
use Rattle.message_framing.specs.declared.intake.Intake.{Intake}
use Rattle.message_framing.specs.declared.standing.Standing.{Standing}
use Rattle.message_framing.specs.declared.standing.Standing.TheVariants as at

-- what an intake holds behind its head
abbrev pub FedOrLacks : Standing → Intake → List ℕ → List ℕ → Type 0
FedOrLacks at.Open i b piece = ⊥
FedOrLacks (at.Stated body) i b piece = Fed i (b ++ piece)
FedOrLacks (at.Chunked body) i b piece = Fed i (b ++ piece)
FedOrLacks (at.Whole r) i b piece = Fed i (b ++ piece)
FedOrLacks (at.Refused f) i b piece = Fed i (b ++ piece)
FedOrLacks at.Lacking i b piece = LacksRightly b piece × Lacked i (b ++ piece)

-- the head part of a `feed`. None: the head is still coming, and the whole
-- piece was taken. Else so many bytes of the piece were taken, and something stands behind the head, unless
-- memory was refused, rightly
abbrev pub FeedsHead : Intake → List ℕ → Option ℕ → Intake → Type 0
FeedsHead old piece None new = (new.standing ≡ at.Open) × ((b : List ℕ) → Fed old b → Fed new (b ++ piece))
FeedsHead old piece (Some n) new =
    (n ≤ length piece) × (new.standing ≢ at.Open)
    × ((b : List ℕ) → Fed old b → FedOrLacks new.standing new b (take n piece))

-- an answer that counts from a place of the piece
abbrev pub from_place : ℕ → Result Feed AllocError → Result Feed AllocError
from_place from (Ok More) = Ok More
from_place from (Ok (Whole n)) = Ok (Whole (from + n))
from_place from (Ok (Refused f)) = Ok (Refused f)
from_place from (Err e) = Err e

-- what the last line is behind that answer to these bytes
abbrev pub line_behind : Result Feed AllocError → Line → List ℕ → Line
line_behind (Ok More) line rest = line
line_behind (Ok (Whole n)) line rest = line
line_behind (Ok (Refused f)) line rest = behind line rest
line_behind (Err e) line rest = line

-- the part of a `feed` behind the head, from a place of the piece on
pub record GoesOn (old : Intake) (from : ℕ) (piece : List ℕ) (result : Result Feed AllocError) (new : Intake) : Type 0 where
  pub answer : Result Feed AllocError
  pub feeds : FeedsOn old.standing (drop from piece) answer new.standing
  pub result_is : result ≡ from_place from answer
  pub line_is : new.line ≡ line_behind answer old.line (drop from piece)
