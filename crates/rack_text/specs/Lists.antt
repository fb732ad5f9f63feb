-- Lists with commas (RFC 9110, section 5.6.1). That a comma within a quoted string splits too is
-- this project's own.
use Rattle.std.specs.Prelude.{ℕ, Bool, List, ◌==◌, nat_lt, length, map, filter}
use Rattle.std.specs.List.{list_any, slice_split}
use Rattle.httparse.specs.Ascii.{comma}
use Rattle.httparse.specs.Grammar.{trim_ows}
use Rattle.rack_text.specs.Case.{same_ignoring_case}

-- what stands between two elements
abbrev pub is_comma : ℕ → Bool
is_comma b = b == comma

-- there are bytes
abbrev pub is_nonempty : List ℕ → Bool
is_nonempty bytes = nat_lt 0 (length bytes)

-- the parts between the commas, in order, each without the spaces and tabs at its ends; a part of
-- which nothing is left is no element
unfoldable pub elements : List ℕ → List (List ℕ)
elements value = filter is_nonempty (map trim_ows (slice_split is_comma value))

-- an element of the value is the word, but for the case of ASCII letters
abbrev pub list_has : List ℕ → List ℕ → Bool
list_has value word = list_any (λ element. same_ignoring_case element word) (elements value)
