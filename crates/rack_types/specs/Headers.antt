-- The headers of an answer (after the Rack SPEC): names in an order, none twice, each with its list of values.
use Rattle.std.specs.Prelude.{◌≡◌, ℕ, List, [], ◌∷◌, ◌++◌, map, position, Option, Some, None, slice_get, bytes_eq, if◌then◌else◌}

-- names with their values
abbrev pub HeaderList : Type 0
HeaderList = List (List ℕ × List (List ℕ))

-- the names, in order
abbrev pub header_names : HeaderList → List (List ℕ)
header_names headers = map (λ h. h.0) headers

-- the values of the header, none where it is not there
abbrev pub header_values : List ℕ → HeaderList → Option (List (List ℕ))
header_values name [] = None
header_values name (h ∷ headers) = if bytes_eq name h.0 then Some h.1 else header_values name headers

-- where the name stands, or None where it isn't there
abbrev pub header_place : List ℕ → HeaderList → Option ℕ
header_place name headers = position (bytes_eq name) (header_names headers)

-- the values at a place; behind the last place there are none
abbrev pub values_at : ℕ → HeaderList → List (List ℕ)
values_at i headers = values_of (slice_get headers i)
  where
    values_of : Option (List ℕ × List (List ℕ)) → List (List ℕ)
    values_of None = []
    values_of (Some h) = h.1

-- no name stands twice
abbrev pub AreDistinctNames : HeaderList → Type 0
AreDistinctNames [] = Unit {0}
AreDistinctNames (h ∷ headers) = (header_values h.0 headers ≡ None) × AreDistinctNames headers

-- the name has this one value: one that is there keeps its place, a new one goes last
abbrev pub set_header : List ℕ → List ℕ → HeaderList → HeaderList
set_header name value [] = (name, value ∷ []) ∷ []
set_header name value (h ∷ headers) =
    if bytes_eq name h.0 then (h.0, value ∷ []) ∷ headers else h ∷ set_header name value headers

-- the name has this value behind those that it had: one that is there keeps its place, a new one goes last
abbrev pub add_header : List ℕ → List ℕ → HeaderList → HeaderList
add_header name value [] = (name, value ∷ []) ∷ []
add_header name value (h ∷ headers) =
    if bytes_eq name h.0 then (h.0, h.1 ++ value ∷ []) ∷ headers else h ∷ add_header name value headers
