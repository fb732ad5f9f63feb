-- What a write takes.
use Rattle.std.specs.Prelude.{◌≡◌, ℕ, ◌<◌, ◌≤◌, List, length, take, Option, ⊤}
use Rattle.rack_outside.specs.declared.sink.SinkWrite.{SinkWrite}
use Rattle.rack_outside.specs.declared.sink.SinkWrite.TheVariants.{Took, Failed, NoMemory}
use Rattle.rack_outside.specs.Told.{appended}

-- n bytes from 1 to the piece's length were appended, or nothing was
abbrev pub Takes : SinkWrite → List ℕ → Option (List ℕ) → Option (List ℕ) → Type 0
Takes (Took n) piece old new = (0 < n) × (n ≤ length piece) × (new ≡ appended old (take n piece))
Takes Failed piece old new = new ≡ old
Takes NoMemory piece old new = new ≡ old

-- the fact, if the write failed
abbrev pub OnFailedWrite : SinkWrite → Type 0 → Type 0
OnFailedWrite (Took n) P = ⊤
OnFailedWrite Failed P = P
OnFailedWrite NoMemory P = ⊤
