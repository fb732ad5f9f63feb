-- The environment of a request, which is this project's own: pairs of a name and a value in an order, with distinct names, and an input.
use Rattle.std.specs.Prelude.{◌≡◌, ℕ, ◌++◌, List, [], ◌∷◌, map, Option, Some, None, IsSome, bytes_eq, if◌then◌else◌}
use Rattle.rack_types.specs.Input.{Reading}

-- names with their values
abbrev pub Pairs : Type 0
Pairs = List (List ℕ × List ℕ)

pub record Environment : Type 0 where
  pub pairs : List (List ℕ × List ℕ)
  pub input : Reading

-- the names, in order
abbrev pub names : Pairs → List (List ℕ)
names ps = map (λ p. p.0) ps

-- the values, in order
abbrev pub values : Pairs → List (List ℕ)
values ps = map (λ p. p.1) ps

-- the value of the name, or None where the name isn't there
abbrev pub get_pair : List ℕ → Pairs → Option (List ℕ)
get_pair name [] = None
get_pair name (p ∷ ps) = if bytes_eq name p.0 then Some p.1 else get_pair name ps

-- the name is there
abbrev pub HasName : List ℕ → Pairs → Type 0
HasName name ps = IsSome (get_pair name ps)

-- no name stands twice
abbrev pub AreDistinct : Pairs → Type 0
AreDistinct [] = Unit {0}
AreDistinct (p ∷ ps) = (get_pair p.0 ps ≡ None) × AreDistinct ps

-- the name has the value: one that is there keeps its place, a new one goes last
abbrev pub set_pair : List ℕ → List ℕ → Pairs → Pairs
set_pair name value [] = (name, value) ∷ []
set_pair name value (p ∷ ps) = if bytes_eq name p.0 then (p.0, value) ∷ ps else p ∷ set_pair name value ps

-- the name's value goes on with more; with no such name nothing changes
abbrev pub extend_pair : List ℕ → List ℕ → Pairs → Pairs
extend_pair name more [] = []
extend_pair name more (p ∷ ps) = if bytes_eq name p.0 then (p.0, p.1 ++ more) ∷ ps else p ∷ extend_pair name more ps

-- the name's value goes on with a separator and more; with no such name it is set to more
abbrev pub add_pair : List ℕ → List ℕ → List ℕ → Pairs → Pairs
add_pair name separator more [] = (name, more) ∷ []
add_pair name separator more (p ∷ ps) = if bytes_eq name p.0 then (p.0, p.1 ++ (separator ++ more)) ∷ ps else p ∷ add_pair name separator more ps

-- without the name; the others keep their order
abbrev pub remove_pair : List ℕ → Pairs → Pairs
remove_pair name [] = []
remove_pair name (p ∷ ps) = if bytes_eq name p.0 then ps else p ∷ remove_pair name ps

-- with no pairs
abbrev pub empty_env : Reading → Environment
empty_env input = record { pairs = []; input = input }

-- with these pairs
abbrev pub with_pairs : Environment → Pairs → Environment
with_pairs e ps = record { pairs = ps; input = e.input }

-- with this input
abbrev pub with_input : Environment → Reading → Environment
with_input e input = record { pairs = e.pairs; input = input }
