-- Places (after Rack's URLMap): which one fits a path, and what changes inside it.
use Rattle.std.specs.Prelude.{ℕ, ◌==◌, Bool, true, List, [], ◌∷◌, ◌++◌, length, drop, Option, Some, None, unwrap_or, ◌&&◌, nat_eq, codes, if◌then◌else◌, ltb}
use Rattle.std.specs.List.{starts_with}
use Rattle.rack_types.specs.Env.{Pairs, get_pair, set_pair}

-- the value of a name, empty where there is none
abbrev pub value_or_empty : List ℕ → Pairs → List ℕ
value_or_empty name ps = unwrap_or (get_pair name ps) []

-- the path that places are looked for in
abbrev pub path_of : Pairs → List ℕ
path_of ps = value_or_empty (codes "PATH_INFO") ps

-- what is left of a path is empty or begins with `/`
abbrev pub ends_segment : List ℕ → Bool
ends_segment [] = true
ends_segment (b ∷ bs) = b == 47

-- the place fits: the path begins with it, and the rest is empty or begins with `/`
abbrev pub fits : List ℕ → List ℕ → Bool
fits path place = starts_with nat_eq path place && ends_segment (drop (length place) path)

-- The longer of two places, the first at a tie.
abbrev pub longer : {A : Type 0} → Option (List ℕ × A) → Option (List ℕ × A) → Option (List ℕ × A)
longer None b = b
longer (Some a) None = Some a
longer (Some a) (Some b) = if ltb (length a.0) (length b.0) then Some b else Some a

-- of places with anything, the longest that fits the path, the first at a tie
abbrev pub best : {A : Type 0} → List ℕ → List (List ℕ × A) → Option (List ℕ × A)
best path [] = None
best path (p ∷ ps) = longer (if fits path p.0 then Some p else None) (best path ps)

-- the pairs inside a place: the script's name gains the place, and the path loses it. One that wasn't there
-- counts as empty and goes last, the script's name first
abbrev pub inside : List ℕ → Pairs → Pairs
inside place ps =
    set_pair (codes "PATH_INFO") (drop (length place) (path_of ps))
    (set_pair (codes "SCRIPT_NAME") (value_or_empty (codes "SCRIPT_NAME") ps ++ place) ps)
