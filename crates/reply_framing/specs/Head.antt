-- The lines of a reply's head (RFC 9112, sections 4 and 5). Their order, the version, which is always
-- HTTP/1.1, and which headers are left out are this project's own.
use Rattle.std.specs.Prelude.{ℕ, nat_eq, Bool, not, ◌&&◌, ◌||◌, if◌then◌else◌, List, [], ◌++◌, codes, decimal, bytes_eq}
use Rattle.std.specs.List.{flat_map, starts_with}
use Rattle.rack_types.specs.Headers.{HeaderList}
use Rattle.reply_framing.specs.Reason.{reason}

-- the end of a line, and of a head
abbrev pub crlf : List ℕ
crlf = codes "\r\n"

-- the status line; the space before a reason that is empty stays
abbrev pub status_line : ℕ → List ℕ
status_line status = codes "HTTP/1.1 " ++ decimal status ++ codes " " ++ reason status ++ crlf

-- the line of one value of a header
abbrev pub value_line : List ℕ → List ℕ → List ℕ
value_line name value = name ++ codes ": " ++ value ++ crlf

-- a header that the application gave and that isn't sent: it speaks to the server (Rack SPEC: `rack.`), or
-- the server gives it itself (RFC 9112, sections 6.1 and 9.1; `connection` is kept at a partial hijack alone)
abbrev pub is_left_out : Bool → List ℕ → Bool
is_left_out part name =
    starts_with nat_eq name (codes "rack.") || bytes_eq name (codes "transfer-encoding") || (not part && bytes_eq name (codes "connection"))

-- the lines of one header, one for each value
abbrev pub header_line : Bool → (List ℕ × List (List ℕ)) → List ℕ
header_line part header = if is_left_out part header.0 then [] else flat_map (value_line header.0) header.1

-- the lines of the headers, in order
abbrev pub header_lines : Bool → HeaderList → List ℕ
header_lines part headers = flat_map (header_line part) headers
