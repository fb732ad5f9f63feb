-- Counts of faults, and what an object may tell.
use Rattle.std.specs.Prelude.{◌≡◌, ℕ, ◌+◌, ◌-◌, ◌^◌, ◌≤◌, min, List, ◌++◌, Option, None, Some}

-- one more, where the count has not reached its end
abbrev pub counted : ℕ → ℕ
counted count = min (count + 1) (2 ^ 64 - 1)

-- the count rose, or stands at its end
abbrev pub Rose : ℕ → ℕ → Type 0
Rose old new = counted old ≤ new

-- where the object tells its list, this was appended to it
abbrev pub Appends : {A : Type 0} → Option (List A) → Option (List A) → List A → Type 0
Appends {A} old new more = (xs : List A) → old ≡ Some xs → new ≡ Some (xs ++ more)

-- the list with more behind it. What is not told stays untold
abbrev pub appended : {A : Type 0} → Option (List A) → List A → Option (List A)
appended {A} None more = None
appended {A} (Some xs) more = Some (xs ++ more)

-- this list in place of the one before. What is not told stays untold
abbrev pub retold : {A : Type 0} → Option (List A) → List A → Option (List A)
retold {A} None list = None
retold {A} (Some before) list = Some list
