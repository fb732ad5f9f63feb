-- What a sink in memory takes: all bytes of each piece, and a fault at each place that was named.
use Rattle.std.specs.Prelude.{◌≡◌, ℕ, true, false, List, [], ◌++◌, length}
use Rattle.rack_outside.specs.declared.sink.SinkWrite.{SinkWrite}
use Rattle.rack_outside.specs.declared.sink.SinkWrite.TheVariants.{Took, Failed, NoMemory}
use Rattle.rack_outside.specs.Places.{is_named}
use Rattle.rack_outside.specs.Told.{counted}

-- the bytes that were taken, the places of the writes that fail, and how many writes there were and
-- how many of them failed
pub record FaultyTray : Type 0 where
  pub written : List ℕ
  pub fails : List ℕ
  pub writes : ℕ
  pub faults : ℕ

-- no write was made
abbrev pub fresh_tray : List ℕ → FaultyTray
fresh_tray fails = record { written = []; fails = fails; writes = 0; faults = 0 }

-- what a write without a fault takes: all of the piece, or nothing where memory was refused
abbrev pub TakesAll : SinkWrite → List ℕ → List ℕ → List ℕ → Type 0
TakesAll (Took n) piece old new = (n ≡ length piece) × (new ≡ old ++ piece)
TakesAll Failed piece old new = ⊥
TakesAll NoMemory piece old new = new ≡ old

-- what a write takes: a fault exactly where its place was named, counted from 1
abbrev pub TakesAllOrFails : SinkWrite → List ℕ → FaultyTray → FaultyTray → Type 0
TakesAllOrFails Failed piece old new =
    (is_named old.fails (counted old.writes) ≡ true)
    × (new ≡ record { written = old.written; fails = old.fails; writes = counted old.writes; faults = counted old.faults })
TakesAllOrFails answer piece old new =
    (is_named old.fails (counted old.writes) ≡ false)
    × TakesAll answer piece old.written new.written
    × (new.fails ≡ old.fails)
    × (new.writes ≡ counted old.writes)
    × (new.faults ≡ old.faults)
