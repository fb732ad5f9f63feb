-- What a file's reading gives.
use Rattle.std.specs.Prelude.{◌≡◌, ◌≢◌, ℕ, ◌<◌, ◌≤◌, List, [], ◌∷◌, length, Option, None, Some, Result, Ok, Err, ⊤}
use Rattle.std.specs.declared.alloc.AllocError.{AllocError}
use Rattle.rack_outside.specs.declared.files.FileRead.{FileRead}
use Rattle.rack_outside.specs.declared.files.FileRead.TheVariants.{Text, Absent, Long, Failed}
use Rattle.rack_outside.specs.Told.{appended}

-- the texts to come under each name
abbrev pub Shelf : Type 0
Shelf = List ℕ → List (List ℕ)

-- what is to come once the first text was answered: the last text stays
abbrev pub turned : List (List ℕ) → List (List ℕ)
turned [] = []
turned (text ∷ []) = text ∷ []
turned (text ∷ next ∷ more) = next ∷ more

-- the shelf of that name was turned, and all others stand as they stood
abbrev pub Turns : List ℕ → Shelf → Shelf → Type 0
Turns name old new = (new name ≡ turned (old name)) × ((other : List ℕ) → other ≢ name → new other ≡ old other)

-- the answer that the texts under this name give
abbrev pub AnswersFrom : FileRead → ℕ → List (List ℕ) → Type 0
AnswersFrom (Text text) limit texts = (length text ≤ limit) × (more : List (List ℕ)) × (texts ≡ text ∷ more)
AnswersFrom Absent limit texts = texts ≡ []
AnswersFrom Long limit texts = (text : List ℕ) × (more : List (List ℕ)) × (texts ≡ text ∷ more) × (limit < length text)
AnswersFrom Failed limit texts = ⊤

-- the first text was answered, or is too long
abbrev pub IsTurning : FileRead → List ℕ → Shelf → Shelf → Type 0
IsTurning (Text text) name old new = Turns name old new
IsTurning Absent name old new = (other : List ℕ) → new other ≡ old other
IsTurning Long name old new = Turns name old new
IsTurning Failed name old new = (other : List ℕ) → new other ≡ old other

-- what the answer says of the shelves, where the object tells them. What is not told stays untold
abbrev pub Answers : Result FileRead AllocError → List ℕ → ℕ → Option Shelf → Option Shelf → Type 0
Answers (Ok answer) name limit None new = new ≡ None
Answers (Ok answer) name limit (Some before) new =
    AnswersFrom answer limit (before name) × (after : Shelf) × (new ≡ Some after) × IsTurning answer name before after
Answers (Err e) name limit old new = new ≡ old

-- the name and the answer are noted behind those before, where the object tells them
abbrev pub Notes : Result FileRead AllocError → List ℕ → Option (List (List ℕ × FileRead)) → Option (List (List ℕ × FileRead)) → Type 0
Notes (Ok answer) name old new = new ≡ appended old ((name, answer) ∷ [])
Notes (Err e) name old new = new ≡ old

-- the fact, if the reading failed
abbrev pub OnFailedFile : Result FileRead AllocError → Type 0 → Type 0
OnFailedFile (Ok (Text text)) P = ⊤
OnFailedFile (Ok Absent) P = ⊤
OnFailedFile (Ok Long) P = ⊤
OnFailedFile (Ok Failed) P = P
OnFailedFile (Err e) P = ⊤
