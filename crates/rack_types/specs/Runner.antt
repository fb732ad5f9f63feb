-- What a runner tells of its runs, which is this project's own.
use Rattle.std.specs.Prelude.{◌≡◌, ℕ, Bool, true, false, List, [], ◌∷◌, ◌++◌, Option, None, Some, Result, Ok, Err}
use Rattle.std.specs.declared.alloc.AllocError.{AllocError}
use Rattle.rack_types.specs.Env.{Pairs, Environment}
use Rattle.rack_types.specs.declared.answer.Answer.{Answer}
use Rattle.rack_types.specs.Answer.{told}

-- what a run was asked: the pairs and the input's bytes
abbrev pub Asked : Type 0
Asked = Pairs × List ℕ

-- a list that is told goes on with one more
abbrev pub also : {X : Type 0} → X → Option (List X) → Option (List X)
also x None = None
also x (Some xs) = Some (xs ++ x ∷ [])

-- a run that is Ok lengthens the list of the answers by its own, and a refused one doesn't
abbrev pub answered_then : {B C H : Type 0} → (B → C) → Result (Answer B H) AllocError → Option (List (Answer C H)) → Option (List (Answer C H))
answered_then content (Ok answer) before = also (told content answer) before
answered_then content (Err e) before = before

-- whether a run was Ok
abbrev pub went_well : {X : Type 0} → Result X AllocError → Bool
went_well (Ok x) = true
went_well (Err e) = false

-- each run lengthens the list of what was asked
abbrev pub asked_then : {X : Type 0} → Result X AllocError → Environment → Option (List (Asked × Bool)) → Option (List (Asked × Bool))
asked_then result env before = also ((env.pairs, env.input.bytes), went_well result) before

-- runs, one behind the other, make of a runner these ones in turn, and of the last of them the other
abbrev pub BecomesBy : {R : Type 0} → (R → R → Type 0) → List R → R → R → Type 0
BecomesBy {R} becomes [] old new = new ≡ old
BecomesBy {R} becomes (next ∷ rest) old new = becomes old next × BecomesBy becomes rest next new

-- some runs make of the first runner the second
abbrev pub Becomes : {R : Type 0} → (R → R → Type 0) → R → R → Type 0
Becomes {R} becomes old new = (between : List R) × BecomesBy becomes between old new
