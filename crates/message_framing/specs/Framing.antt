-- What the fields of a head say of its host and of its body (RFC 9112, sections 3.2 and 6; RFC 9110,
-- section 8.6). Stricter than these, so that no head can be read in two ways, and this project's own:
-- a repeated Content-Length, a list in one, Content-Length beside Transfer-Encoding, and
-- Transfer-Encoding in HTTP/1.0 are refused. The refusals come in the order of their numbers.
use Rattle.std.specs.Prelude.{ℕ, Bool, true, false, not, nat_lt, if◌then◌else◌, List, [], ◌∷◌, length, Option, None, Some, codes}
use Rattle.std.specs.List.{flat_map}
use Rattle.rack_text.specs.Case.{same_ignoring_case}
use Rattle.rack_text.specs.Decimal.{is_decimal, decimal_value}
use Rattle.rack_text.specs.Lists.{elements}
use Rattle.rack_text.specs.Host.{is_valid_host}
use Rattle.rack_types.specs.declared.fault.Fault.{Fault}
use Rattle.rack_types.specs.declared.fault.Fault.TheVariants.{F}
use Rattle.rack_types.specs.declared.limits.Version.{Version}
use Rattle.rack_types.specs.declared.limits.Version.TheVariants.{Http10, Http11}
use Rattle.rack_types.specs.Fields.{values_of}
use Rattle.rack_types.specs.Limits.{stock_limits}
use Rattle.message_framing.specs.declared.fields.Framing.{Framing}
use Rattle.message_framing.specs.declared.fields.Framing.TheVariants.{Stated, Chunked}

-- the largest body
abbrev pub body_limit : ℕ
body_limit = stock_limits.body

-- the values of Host fit: one valid host, and HTTP/1.0 may have none
abbrev pub is_host_right : Version → List (List ℕ) → Bool
is_host_right Http10 [] = true
is_host_right Http11 [] = false
is_host_right version (value ∷ []) = is_valid_host value
is_host_right version (value ∷ next ∷ more) = false

-- the last of the codings is `chunked`
abbrev pub ends_chunked : List (List ℕ) → Bool
ends_chunked [] = false
ends_chunked (coding ∷ []) = same_ignoring_case coding (codes "chunked")
ends_chunked (coding ∷ next ∷ more) = ends_chunked (next ∷ more)

-- the refusal that the codings earn: they are to be `chunked` alone
abbrev pub coding_fault : List (List ℕ) → Option Fault
coding_fault codings =
    if not (ends_chunked codings) then Some (F 9)
    else if nat_lt 1 (length codings) then Some (F 10)
    else None

-- the refusal that one Content-Length earns
abbrev pub length_fault : List ℕ → Option Fault
length_fault value =
    if not (is_decimal value) then Some (F 11)
    else if nat_lt body_limit (decimal_value value) then Some (F 12)
    else None

-- the refusal that the values of Content-Length earn: there is one at most
abbrev pub lengths_fault : List (List ℕ) → Option Fault
lengths_fault [] = None
lengths_fault (value ∷ []) = length_fault value
lengths_fault (value ∷ next ∷ more) = Some (F 11)

-- the refusal of a head with Transfer-Encoding, by its version, the codings and the values of Content-Length
abbrev pub transfer_fault : Version → List (List ℕ) → List (List ℕ) → Option Fault
transfer_fault Http10 codings lengths = Some (F 7)
transfer_fault Http11 codings [] = coding_fault codings
transfer_fault Http11 codings (value ∷ more) = Some (F 8)

-- the refusal of the body's framing, by the values of Transfer-Encoding and of Content-Length
abbrev pub body_fault : Version → List (List ℕ) → List (List ℕ) → Option Fault
body_fault version [] lengths = lengths_fault lengths
body_fault version (value ∷ more) lengths = transfer_fault version (flat_map elements (value ∷ more)) lengths

-- the refusal that the fields earn, none where they earn none
unfoldable pub fields_fault : Version → List (List ℕ × List ℕ) → Option Fault
fields_fault version fields =
    if not (is_host_right version (values_of (codes "host") fields)) then Some (F 6)
    else body_fault version (values_of (codes "transfer-encoding") fields) (values_of (codes "content-length") fields)

-- how many bytes the values of Content-Length state, none where there is no such field
abbrev pub length_by : List (List ℕ) → ℕ
length_by [] = 0
length_by (value ∷ more) = decimal_value value

-- how the body is framed, by the values of Transfer-Encoding and of Content-Length
abbrev pub framing_by : List (List ℕ) → List (List ℕ) → Framing
framing_by [] lengths = Stated (length_by lengths)
framing_by (value ∷ more) lengths = Chunked

-- how the body behind a head with these fields is framed, where they earn no refusal
unfoldable pub framing_of : List (List ℕ × List ℕ) → Framing
framing_of fields = framing_by (values_of (codes "transfer-encoding") fields) (values_of (codes "content-length") fields)
