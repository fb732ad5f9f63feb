-- The pairs that come of a request's fields (RFC 3875, section 4.1.18; that fields whose name has `_`
-- are left out is this project's own).
use Rattle.std.specs.Prelude.{ℕ, Bool, ◌||◌, ◌==◌, List, [], ◌∷◌, ◌++◌, map, Option, None, Some, codes, if◌then◌else◌}
use Rattle.std.specs.Char.{to_ascii_uppercase}
use Rattle.std.specs.List.{fold, list_any}
use Rattle.rack_text.specs.Case.{same_ignoring_case}
use Rattle.rack_types.specs.Env.{Pairs, add_pair, set_pair}

-- the value, and behind it `, ` and one more
abbrev pub with_more : List ℕ → List ℕ → List ℕ
with_more value more = value ++ (codes ", " ++ more)

-- all the values in order, with `, ` between each two; none where there are none
abbrev pub joined : List (List ℕ) → Option (List ℕ)
joined [] = None
joined (value ∷ values) = Some (fold with_more value values)

-- a byte of a field's name: in upper case, with `_` for `-`
abbrev pub name_byte : ℕ → ℕ
name_byte b = if b == 45 then 95 else to_ascii_uppercase b

-- the name that a field has in the environment
abbrev pub http_name : List ℕ → List ℕ
http_name name = codes "HTTP_" ++ map name_byte name

-- the byte is `_`
abbrev pub is_underscore : ℕ → Bool
is_underscore b = b == 95

-- no HTTP_ name comes of the field: its name has `_`, it is Transfer-Encoding, or it has a pair of its own
abbrev pub is_left_out : List ℕ → Bool
is_left_out name =
    list_any is_underscore name || same_ignoring_case name (codes "transfer-encoding")
    || same_ignoring_case name (codes "content-type") || same_ignoring_case name (codes "content-length")

-- the name has one value more: one that is there keeps its place, a new one goes last
abbrev pub join_pair : List ℕ → List ℕ → Pairs → Pairs
join_pair name value ps = add_pair name (codes ", ") value ps

-- the pairs with one field more
abbrev pub put_field : Pairs → List ℕ × List ℕ → Pairs
put_field ps f = if is_left_out f.0 then ps else join_pair (http_name f.0) f.1 ps

-- the pairs of the fields, in the order in which each name first comes
unfoldable pub field_pairs : List (List ℕ × List ℕ) → Pairs
field_pairs fields = fold put_field [] fields

-- HTTP_HOST is the target's authority where there is one: at the Host field's place, or last
abbrev pub with_authority : Option (List ℕ) → Pairs → Pairs
with_authority None ps = ps
with_authority (Some authority) ps = set_pair (codes "HTTP_HOST") authority ps
