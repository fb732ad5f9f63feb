-- The fields of a head, each as its name and its value (RFC 9110, sections 5.1 to 5.3).
use Rattle.std.specs.Prelude.{ℕ, Bool, not, ◌&&◌, List, map, filter, codes}
use Rattle.std.specs.List.{list_any}
use Rattle.rack_text.specs.Case.{same_ignoring_case}
use Rattle.rack_text.specs.Lists.{list_has}
use Rattle.rack_types.specs.declared.limits.Version.{Version}
use Rattle.rack_types.specs.declared.limits.Version.TheVariants.{Http10, Http11}
use Rattle.rack_types.specs.Request.{Parts}

-- the values of the fields with this name, in order; the case of a name's letters does not count
abbrev pub values_of : List ℕ → List (List ℕ × List ℕ) → List (List ℕ)
values_of name fields = map (λ f. f.1) (filter (λ f. same_ignoring_case f.0 name) fields)

-- one of the values, read as a list with commas, has this element
abbrev pub some_list_has : List ℕ → List (List ℕ) → Bool
some_list_has word values = list_any (λ value. list_has value word) values

-- whether a connection of this version goes on, by whether `close` and `keep-alive` were asked
abbrev pub goes_on : Version → Bool → Bool → Bool
goes_on Http11 close keep_alive = not close
goes_on Http10 close keep_alive = keep_alive && not close

-- a Connection field of the request asks for this
abbrev pub asks_for : List ℕ → Parts → Bool
asks_for word r = some_list_has word (values_of (codes "connection") r.fields)

-- whether the connection may go on behind the request (RFC 9112, section 9.3)
abbrev pub persists : Parts → Bool
persists r = goes_on r.version (asks_for (codes "close") r) (asks_for (codes "keep-alive") r)
