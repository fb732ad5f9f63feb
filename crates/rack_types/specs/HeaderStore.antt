-- How headers are kept: a text is lent for ever or owned, and a name has a first value and more.
use Rattle.std.specs.Prelude.{ℕ, List, ◌∷◌, map}
use Rattle.std.specs.declared.alloc.Global.{Global}
use Rattle.std.specs.declared.borrow.CowSlice.{CowSlice}
use Rattle.std.specs.Cow.{cow_slice_items}
use Rattle.rack_types.specs.declared.headers.Values.{Values}
use Rattle.rack_types.specs.Headers.{HeaderList}

-- a name or a value as it is kept
abbrev pub Text : Type 0
Text = CowSlice ℕ Global

-- the values that are kept for a name
abbrev pub kept_values : Values → List (List ℕ)
kept_values v = cow_slice_items v.first ∷ map cow_slice_items v.more.items

-- the headers that the entries of the map stand for
abbrev pub headers_of : List (Text × Values) → HeaderList
headers_of entries = map (λ e. (cow_slice_items e.0, kept_values e.1)) entries
