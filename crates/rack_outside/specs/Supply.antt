-- What a source in memory gives: its input in pieces, and a fault at each place that was named.
use Rattle.std.specs.Prelude.{◌≡◌, ℕ, ◌<◌, min, max, true, false, List, [], ◌∷◌, ◌++◌, length, take, drop}
use Rattle.rack_outside.specs.declared.source.SourceRead.{SourceRead}
use Rattle.rack_outside.specs.declared.source.SourceRead.TheVariants.{Bytes, End, Failed}
use Rattle.rack_outside.specs.Places.{is_named}
use Rattle.rack_outside.specs.Told.{counted}

-- an input, how much of it was given, and the sizes of the pieces to come
pub record Supply : Type 0 where
  pub input : List ℕ
  pub given : List ℕ
  pub cuts : List ℕ

-- a supply, the places of the reads that fail, and how many reads there were and how many of them failed
pub record FaultySupply : Type 0 where
  pub supply : Supply
  pub fails : List ℕ
  pub reads : ℕ
  pub faults : ℕ

-- nothing of this input was given
abbrev pub fresh_supply : List ℕ → List ℕ → Supply
fresh_supply input cuts = record { input = input; given = []; cuts = cuts }

-- the bytes that are still to be given
abbrev pub unread : Supply → List ℕ
unread supply = drop (length supply.given) supply.input

-- how large a piece may be: by the next size, where 0 counts as 1, and behind the last size by the room alone
abbrev pub piece_limit : List ℕ → ℕ → ℕ
piece_limit [] room = room
piece_limit (size ∷ sizes) room = min (max size 1) room

-- the supply, n bytes later
abbrev pub moved_on : ℕ → Supply → Supply
moved_on n supply =
    record { input = supply.input; given = supply.given ++ take n (unread supply); cuts = drop 1 supply.cuts }

-- what a read without a fault gives: the next piece, as large as it may be, at the front of the room,
-- and the end exactly where nothing is unread
abbrev pub Supplies : SourceRead → Supply → Supply → List ℕ → List ℕ → Type 0
Supplies (Bytes n) old new before after =
    (0 < length (unread old))
    × (n ≡ min (piece_limit old.cuts (length before)) (length (unread old)))
    × (new ≡ moved_on n old)
    × (after ≡ take n (unread old) ++ drop n before)
Supplies End old new before after = (unread old ≡ []) × (new ≡ old) × (after ≡ before)
Supplies Failed old new before after = ⊥

-- what a read gives: a fault exactly where its place was named, counted from 1
abbrev pub SuppliesOrFails : SourceRead → FaultySupply → FaultySupply → List ℕ → List ℕ → Type 0
SuppliesOrFails Failed old new before after =
    (is_named old.fails (counted old.reads) ≡ true)
    × (new ≡ record { supply = old.supply; fails = old.fails; reads = counted old.reads; faults = counted old.faults })
    × (after ≡ before)
SuppliesOrFails answer old new before after =
    (is_named old.fails (counted old.reads) ≡ false)
    × Supplies answer old.supply new.supply before after
    × (new.fails ≡ old.fails)
    × (new.reads ≡ counted old.reads)
    × (new.faults ≡ old.faults)

-- no read was made
abbrev pub fresh_faulty_supply : List ℕ → List ℕ → List ℕ → FaultySupply
fresh_faulty_supply input cuts fails =
    record { supply = fresh_supply input cuts; fails = fails; reads = 0; faults = 0 }
