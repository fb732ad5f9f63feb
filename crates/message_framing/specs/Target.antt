-- The target of a request (RFC 9112, section 3.2). That it is ASCII, has no `#` and no user
-- information, and that an absolute target is http or https, is this project's own.
use Rattle.std.specs.Prelude.{ℕ, Bool, ◌&&◌, ◌||◌, not, ◌==◌, nat_le, nat_lt, if◌then◌else◌, List, length, take, drop, Option, None, Some, codes, bytes_eq}
use Rattle.std.specs.List.{before_first, after_first, list_all}
use Rattle.rack_text.specs.Case.{same_ignoring_case}
use Rattle.rack_text.specs.Host.{is_valid_host}
use Rattle.rack_types.specs.Request.{path_or_root}
use Rattle.rack_types.specs.Rules.{begins_with_slash}

-- what a target says: the authority of an absolute one, the path, and the query, empty where there is none
pub record Target : Type 0 where
  pub authority : Option (List ℕ)
  pub path : List ℕ
  pub query : List ℕ

-- the byte is a question mark, which parts the path from the query
abbrev pub is_question : ℕ → Bool
is_question b = b == 63

-- a byte of a target: visible ASCII, and no `#`
abbrev pub is_target_byte : ℕ → Bool
is_target_byte b = nat_le 33 b && nat_le b 126 && not (b == 35)

-- the byte ends an authority
abbrev pub ends_authority : ℕ → Bool
ends_authority b = b == 47 || b == 63

-- the bytes of `http://` or `https://` at the front, in any case of letters; 0 where neither stands
abbrev pub scheme_len : List ℕ → ℕ
scheme_len target =
    if same_ignoring_case (take 7 target) (codes "http://") then 7
    else if same_ignoring_case (take 8 target) (codes "https://") then 8
    else 0

-- what begins with a path: the path up to the first `?`, and the query behind it
unfoldable pub from_path : Option (List ℕ) → List ℕ → Target
from_path authority rest = record {
  authority = authority;
  path = path_or_root (before_first is_question rest);
  query = after_first is_question rest;
}

-- what stands behind the scheme: an authority, a valid host that is not empty, and then a path
abbrev pub absolute : List ℕ → Option Target
absolute rest =
    let authority = before_first ends_authority rest in
    if nat_lt 0 (length authority) && is_valid_host authority
    then Some (from_path (Some authority) (drop (length authority) rest))
    else None

-- the target's form: origin form, absolute form, or the asterisk of OPTIONS; none where it has none
unfoldable pub target_of : List ℕ → List ℕ → Option Target
target_of method target =
    if not (list_all is_target_byte target) then None
    else if begins_with_slash target then Some (from_path None target)
    else if nat_lt 0 (scheme_len target) then absolute (drop (scheme_len target) target)
    else if bytes_eq target (codes "*") && bytes_eq method (codes "OPTIONS") then Some (from_path None target)
    else None
