-- Words of the rules of environments, answers and bodies.
use Rattle.std.specs.Prelude.{ℕ, Bool, true, false, ◌==◌, List, [], ◌∷◌, Option, None, Some, unwrap_or, bytes_eq, if◌then◌else◌}
use Rattle.rack_types.specs.Env.{Pairs, get_pair}

-- the value of the name is there and is this
abbrev pub has_value : List ℕ → List ℕ → Pairs → Bool
has_value name value env = value_is (get_pair name env)
  where
    value_is : Option (List ℕ) → Bool
    value_is None = false
    value_is (Some found) = bytes_eq found value

-- the value of the name, empty where it is not there
abbrev pub value_or_empty : List ℕ → Pairs → List ℕ
value_or_empty name env = unwrap_or (get_pair name env) []

-- a value that is there passes the test
abbrev pub if_there : (List ℕ → Bool) → Option (List ℕ) → Bool
if_there test None = false
if_there test (Some value) = test value

-- the text begins with `/`
abbrev pub begins_with_slash : List ℕ → Bool
begins_with_slash [] = false
begins_with_slash (b ∷ rest) = b == 47

-- the text has no bytes
abbrev pub is_empty : List ℕ → Bool
is_empty [] = true
is_empty (b ∷ rest) = false

-- the first rule whose test is true
abbrev pub first_broken : {R : Type 0} → List (R × Bool) → Option R
first_broken [] = None
first_broken (rule ∷ rules) = if rule.1 then Some rule.0 else first_broken rules
