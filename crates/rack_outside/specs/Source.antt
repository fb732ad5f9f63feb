-- What a read gives.
use Rattle.std.specs.Prelude.{◌≡◌, ℕ, ◌<◌, ◌≤◌, List, ◌++◌, length, take, Option, Some, ⊤}
use Rattle.rack_outside.specs.declared.source.SourceRead.{SourceRead}
use Rattle.rack_outside.specs.declared.source.SourceRead.TheVariants.{Bytes, End, Failed}
use Rattle.rack_outside.specs.Told.{appended}

-- what was given is a prefix of the input, where the source tells both
abbrev pub IsPrefix : Option (List ℕ) → Option (List ℕ) → Type 0
IsPrefix given input =
    (xs ys : List ℕ) → given ≡ Some xs → input ≡ Some ys → (rest : List ℕ) × (ys ≡ xs ++ rest)

-- the same as an equation
abbrev pub IsFront : Option (List ℕ) → Option (List ℕ) → Type 0
IsFront given input = (xs ys : List ℕ) → given ≡ Some xs → input ≡ Some ys → take (length xs) ys ≡ xs

-- what was given is the whole input, where the source tells both
abbrev pub IsWhole : Option (List ℕ) → Option (List ℕ) → Type 0
IsWhole given input = (xs ys : List ℕ) → given ≡ Some xs → input ≡ Some ys → ys ≡ xs

-- n bytes from 1 to the room's length are the next of the input, the end comes only behind all of
-- it, and a failed read takes nothing
abbrev pub Gives : SourceRead → Option (List ℕ) → Option (List ℕ) → Option (List ℕ) → List ℕ → Type 0
Gives (Bytes n) input old new room =
    (0 < n) × (n ≤ length room) × (new ≡ appended old (take n room)) × IsPrefix new input
Gives End input old new room = (new ≡ old) × IsWhole old input
Gives Failed input old new room = new ≡ old

-- the fact, if the read failed
abbrev pub OnFailedRead : SourceRead → Type 0 → Type 0
OnFailedRead (Bytes n) P = ⊤
OnFailedRead End P = ⊤
OnFailedRead Failed P = P
