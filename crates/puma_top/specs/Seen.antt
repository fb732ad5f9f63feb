-- What files, a source and a sink show of themselves, as far as they tell it.
use Rattle.std.specs.Prelude.{ℕ, List, Option}
use Rattle.rack_outside.specs.declared.files.FileRead.{FileRead}
use Rattle.rack_outside.specs.Files.{Shelf}

-- the reads of files so far: each name with its answer
abbrev pub FileReads : Type 0
FileReads = List (List ℕ × FileRead)

-- the texts to come under each name, the reads so far, and how many of them failed
pub record FilesSeen : Type 0 where
  pub holds : Option Shelf
  pub texts : Option FileReads
  pub faults : ℕ

-- all bytes that it holds from the start, those that it gave so far, and how many reads failed
pub record SourceSeen : Type 0 where
  pub input : Option (List ℕ)
  pub given : Option (List ℕ)
  pub faults : ℕ

-- the bytes that were written so far, and how many writes failed
pub record SinkSeen : Type 0 where
  pub written : Option (List ℕ)
  pub faults : ℕ

-- all that a command is handed
pub record Seen : Type 0 where
  pub files : FilesSeen
  pub source : SourceSeen
  pub sink : SinkSeen

-- the same, by what its objects tell
abbrev pub seen : {F S K : Type 0}
    → (F → Option Shelf) → (F → Option FileReads) → (F → ℕ)
    → (S → Option (List ℕ)) → (S → Option (List ℕ)) → (S → ℕ)
    → (K → Option (List ℕ)) → (K → ℕ)
    → F → S → K → Seen
seen holds texts unread input given failed written unwritten files source sink = record {
  files = record { holds = holds files; texts = texts files; faults = unread files };
  source = record { input = input source; given = given source; faults = failed source };
  sink = record { written = written sink; faults = unwritten sink };
}

-- what a source shows, and what a sink shows
abbrev pub source_seen : {S : Type 0} → (S → Option (List ℕ)) → (S → Option (List ℕ)) → (S → ℕ) → S → SourceSeen
source_seen input given faults source = record { input = input source; given = given source; faults = faults source }

abbrev pub sink_seen : {K : Type 0} → (K → Option (List ℕ)) → (K → ℕ) → K → SinkSeen
sink_seen written faults sink = record { written = written sink; faults = faults sink }
