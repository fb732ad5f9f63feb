-- Lists with repeats: lists that differ in their order alone.
use Rattle.std.specs.Prelude.{◌≡◌, ℕ, ◌&&◌, ◌==◌, List, sum_by, count_by}

-- the lists hold each element equally often, in whatever order: whatever the elements weigh, the lists
-- weigh the same
abbrev pub SameElements : {X : Type 0} → List X → List X → Type 0
SameElements {X} xs ys = (weight : X → ℕ) → sum_by weight xs ≡ sum_by weight ys

-- how often this pair of numbers stands in the list
abbrev pub times : ℕ × ℕ → List (ℕ × ℕ) → ℕ
times x xs = count_by (λ y. (y.0 == x.0) && (y.1 == x.1)) xs
