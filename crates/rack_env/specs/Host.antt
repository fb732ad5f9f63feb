-- The host that a request is for (RFC 9112, section 3.3; RFC 9110, section 7.2).
use Rattle.std.specs.Prelude.{ℕ, Bool, List, [], ◌∷◌, Option, None, Some, codes, unwrap_or, if◌then◌else◌}
use Rattle.rack_text.specs.Host.{host_parts}
use Rattle.rack_types.specs.Fields.{values_of}
use Rattle.rack_types.specs.Request.{Parts}
use Rattle.rack_types.specs.declared.peer.Local.{Local}

-- the text of the host: the target's authority, else the Host field, of several the first; empty
-- where there is neither
abbrev pub host_text : Option (List ℕ) → List (List ℕ) → List ℕ
host_text (Some authority) hosts = authority
host_text None [] = []
host_text None (value ∷ more) = value

-- the port of a host that names none
abbrev pub default_port : Bool → ℕ
default_port https = if https then 443 else 80

-- the name and the port: the host's, or the local ones where there is no host or an empty one; a
-- text that is no valid host counts as none
abbrev pub host_or_local : Option (List ℕ × Option ℕ) → Local → List ℕ × ℕ
host_or_local None local = (local.name, local.port)
host_or_local (Some ([], port)) local = (local.name, local.port)
host_or_local (Some (b ∷ name, port)) local = (b ∷ name, unwrap_or port (default_port local.https))

-- the name and the port that the request is for
unfoldable pub server : Parts → Local → List ℕ × ℕ
server r local = host_or_local (host_parts (host_text r.authority (values_of (codes "host") r.fields))) local
