-- A head, and what it says (RFC 9112, sections 2 to 6).
use Rattle.std.specs.Prelude.{◌≡◌, ℕ, ◌≤◌, ◌-◌, Bool, true, false, ◌==◌, if◌then◌else◌, List, [], length, map, count_by, Option, None, Some, codes, bytes_eq}
use Rattle.httparse.specs.Grammar.{RequestHead, ReadsRequest}
use Rattle.httparse.specs.Spans.{name_and_value}
use Rattle.rack_types.specs.declared.fault.Fault.{Fault}
use Rattle.rack_types.specs.declared.fault.Fault.TheVariants.{F}
use Rattle.rack_types.specs.declared.limits.Version.{Version}
use Rattle.rack_types.specs.declared.limits.Version.TheVariants.{Http10, Http11}
use Rattle.rack_types.specs.Limits.{stock_limits}
use Rattle.rack_types.specs.Request.{Parts}
use Rattle.message_framing.specs.HeadText.{lf}
use Rattle.message_framing.specs.Target.{Target, target_of}
use Rattle.message_framing.specs.declared.fields.Framing.{Framing}
use Rattle.message_framing.specs.declared.fields.Framing.TheVariants.{Stated, Chunked}
use Rattle.message_framing.specs.Framing.{fields_fault, framing_of}

-- the byte is a line feed
abbrev pub is_line_feed : ℕ → Bool
is_line_feed b = b == lf

-- the lines between the request line and the blank line, of a head text
abbrev pub lines_between : List ℕ → ℕ
lines_between text = count_by is_line_feed text - 2

-- the text is this head and nothing else, with as many fields at most as lines are taken
abbrev pub IsHead : List ℕ → RequestHead → Type 0
IsHead text h = ReadsRequest text h [] × (length h.fields ≤ stock_limits.lines)

-- the text is no head
abbrev pub IsNoHead : List ℕ → Type 0
IsNoHead text = (h : RequestHead) → ¬ (IsHead text h)

-- the version that the request line names by its last digit
abbrev pub version_of : ℕ → Version
version_of minor = if minor == 0 then Http10 else Http11

-- the fields in order, each as its name and its value
abbrev pub fields_of : RequestHead → List (List ℕ × List ℕ)
fields_of h = map name_and_value h.fields

-- the refusal of a head whose target is this: F5 where it has no form, else what the fields earn
abbrev pub fault_with : Option Target → RequestHead → Option Fault
fault_with None h = Some (F 5)
fault_with (Some target) h = fields_fault (version_of h.minor) (fields_of h)

-- the refusal that a head earns by what it says, none where it earns none
unfoldable pub head_fault : RequestHead → Option Fault
head_fault h = if bytes_eq h.method (codes "CONNECT") then Some (F 4) else fault_with (target_of h.method h.target) h

-- how the body behind the head is framed
abbrev pub head_framing : RequestHead → Framing
head_framing h = framing_of (fields_of h)

-- the body comes in chunks
abbrev pub is_chunked : Framing → Bool
is_chunked (Stated n) = false
is_chunked Chunked = true

-- the request with this head, this target and this body
unfoldable pub request_with : RequestHead → Target → List ℕ → Parts
request_with h target body = record {
  method = h.method;
  path = target.path;
  query = target.query;
  authority = target.authority;
  version = version_of h.minor;
  fields = fields_of h;
  body = body;
  chunked = is_chunked (head_framing h);
}

-- r is the request of this head with this body
abbrev pub IsRequestOf : RequestHead → List ℕ → Parts → Type 0
IsRequestOf h body r =
    (target : Target) × (target_of h.method h.target ≡ Some target) × (r ≡ request_with h target body)
