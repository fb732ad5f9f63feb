-- What the rules of an environment rest on in a request; message framing refuses every other.
use Rattle.std.specs.Prelude.{ℕ, Bool, true, false, ◌&&◌, ◌||◌, List, [], ◌∷◌, codes, bytes_eq, IsTrue}
use Rattle.httparse.specs.Grammar.{is_token}
use Rattle.rack_text.specs.Decimal.{is_decimal}
use Rattle.rack_types.specs.Fields.{values_of}
use Rattle.rack_types.specs.Request.{Parts}
use Rattle.rack_types.specs.Rules.{begins_with_slash}

-- the path begins with `/`, or is the asterisk of OPTIONS
abbrev pub is_path_right : List ℕ → List ℕ → Bool
is_path_right path method = begins_with_slash path || (bytes_eq path (codes "*") && bytes_eq method (codes "OPTIONS"))

-- there is one Content-Length at most, and it is decimal
abbrev pub is_length_right : List (List ℕ) → Bool
is_length_right [] = true
is_length_right (value ∷ []) = is_decimal value
is_length_right (value ∷ next ∷ more) = false

-- the request is such as message framing takes
pub record IsSound (r : Parts) : Type 0 where
  pub method : IsTrue (is_token r.method)
  pub path : IsTrue (is_path_right r.path r.method)
  pub length : IsTrue (is_length_right (values_of (codes "content-length") r.fields))
