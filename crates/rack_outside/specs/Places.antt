-- Calls that are named by their place.
use Rattle.std.specs.Prelude.{ℕ, Bool, ◌==◌, List}
use Rattle.std.specs.List.{list_any}

-- the call at this place is named. The first call has the place 1
abbrev pub is_named : List ℕ → ℕ → Bool
is_named places place = list_any (λ named. named == place) places
