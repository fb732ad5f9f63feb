-- Hosts (RFC 9112, section 3.2; RFC 3986, section 3.2.2). That an address in brackets is told by
-- its bytes alone, and that a port ends at 65,535, is this project's own.
use Rattle.std.specs.Prelude.{◌≡◌, ℕ, ◌+◌, ◌⊎◌, Bool, ◌&&◌, ◌||◌, ◌==◌, nat_lt, nat_le, List, [], ◌∷◌, ◌++◌, length, take, drop, slice_index, Option, Some, None, is_some, option_map, option_and_then, if◌then◌else◌, IsTrue, codes}
use Rattle.std.specs.Char.{is_ascii_alphanumeric, is_ascii_hexdigit}
use Rattle.std.specs.List.{list_any, list_all, prefix_len}
use Rattle.httparse.specs.Ascii.{colon}
use Rattle.rack_text.specs.Decimal.{decimal_number}

-- b'.'
abbrev pub dot : ℕ
dot = 46

-- b'['
abbrev pub left_bracket : ℕ
left_bracket = 91

-- b']'
abbrev pub right_bracket : ℕ
right_bracket = 93

-- a byte of a name without brackets
unfoldable pub is_name_byte : ℕ → Bool
is_name_byte b = is_ascii_alphanumeric b || list_any (λ c. c == b) (codes "-._~!$&'()*+,;=%")

-- a byte of an address between brackets
unfoldable pub is_address_byte : ℕ → Bool
is_address_byte b = is_ascii_hexdigit b || b == colon || b == dot

-- one byte or more, each of which passes
abbrev pub is_run_of : (ℕ → Bool) → List ℕ → Bool
is_run_of test bytes = nat_lt 0 (length bytes) && list_all test bytes

-- a name: its bytes, or an address in brackets
abbrev pub IsHostName : List ℕ → Type 0
IsHostName name =
    IsTrue (is_run_of is_name_byte name)
    ⊎ ((address : List ℕ) × (name ≡ left_bracket ∷ address ++ right_bracket ∷ []) × IsTrue (is_run_of is_address_byte address))

-- the port of that number, where it is one
abbrev pub port_of : ℕ → Option ℕ
port_of number = if nat_le number 65_535 then Some number else None

-- the port, if any, that these bytes behind a `:` write: none of them is none
abbrev pub port_written : List ℕ → Option (Option ℕ)
port_written [] = Some None
port_written (digit ∷ digits) = option_map Some (option_and_then port_of (decimal_number (digit ∷ digits)))

-- the port, if any, that these bytes behind a name tell: nothing, or a `:` and a port, may stand there
abbrev pub port_behind : List ℕ → Option (Option ℕ)
port_behind [] = Some None
port_behind (b ∷ port) = if b == colon then port_written port else None

-- the text has that name, and behind it that port, if any; or all are empty
abbrev pub IsHost : List ℕ → List ℕ → Option ℕ → Type 0
IsHost text name port =
    ((text ≡ []) × (name ≡ []) × (port ≡ None))
    ⊎ ((behind : List ℕ) × (text ≡ name ++ behind) × IsHostName name × (port_behind behind ≡ Some port))

-- the text has no name and port in that way
abbrev pub IsNoHost : List ℕ → Type 0
IsNoHost text = (name : List ℕ) (port : Option ℕ) → ¬ IsHost text name port

-- how long the name is that begins with the `[` before these bytes, or 0
abbrev pub bracketed_len : List ℕ → ℕ
bracketed_len bytes =
    let end = prefix_len is_address_byte bytes in
    if nat_lt 0 end && slice_index bytes end == right_bracket then end + 2 else 0

-- how long the name is that the text begins with, or 0
abbrev pub name_len : List ℕ → ℕ
name_len [] = 0
name_len (b ∷ bytes) = if b == left_bracket then bracketed_len bytes else prefix_len is_name_byte (b ∷ bytes)

-- the host's name and its port, where the text is a valid host
unfoldable pub host_parts : List ℕ → Option (List ℕ × Option ℕ)
host_parts [] = Some ([], None)
host_parts (b ∷ bytes) =
    let text = b ∷ bytes in
    let end = name_len text in
    if nat_lt 0 end then option_map (λ port. (take end text, port)) (port_behind (drop end text)) else None

-- the text is a valid host
abbrev pub is_valid_host : List ℕ → Bool
is_valid_host text = is_some (host_parts text)
