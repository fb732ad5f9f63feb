-- What files in memory hold: texts under names, in the order in which they were added.
use Rattle.std.specs.Prelude.{ℕ, List, map, filter}
use Rattle.std.specs.Str.{bytes_eq}
use Rattle.rack_outside.specs.declared.files.FileRead.{FileRead}

-- each text with its name, and the names of the reads with their answers
pub record Cabinet : Type 0 where
  pub texts : List (List ℕ × List ℕ)
  pub reads : List (List ℕ × FileRead)

-- the texts under a name, in order
abbrev pub texts_under : List (List ℕ × List ℕ) → List ℕ → List (List ℕ)
texts_under texts name = map (λ held. held.1) (filter (λ held. bytes_eq held.0 name) texts)
