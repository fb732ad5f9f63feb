-- The pairs of an environment as lines.
use Rattle.std.specs.Prelude.{ℕ, List, [], ◌∷◌, ◌++◌, codes}
use Rattle.std.specs.List.{flat_map}
use Rattle.rack_text.specs.Escaped.{escaped}
use Rattle.rack_types.specs.Env.{Pairs}

-- the line `NAME=value` with its line feed, the value escaped
abbrev pub pair_line : List ℕ × List ℕ → List ℕ
pair_line pair = pair.0 ++ (codes "=" ++ (escaped pair.1 ++ (10 ∷ [])))

-- a line for each pair, in order
abbrev pub pair_lines : Pairs → List ℕ
pair_lines pairs = flat_map pair_line pairs
