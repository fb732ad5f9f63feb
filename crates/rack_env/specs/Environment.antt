-- The environment of a request (after the Rack SPEC, "The Environment"; the names that are there, their
-- order and `rack.errors` are this project's own).
use Rattle.std.specs.Prelude.{ℕ, Bool, List, [], ◌∷◌, ◌++◌, length, Option, None, Some, codes, decimal, if◌then◌else◌}
use Rattle.rack_types.specs.Env.{Environment, Pairs}
use Rattle.rack_types.specs.Fields.{values_of}
use Rattle.rack_types.specs.Input.{unread}
use Rattle.rack_types.specs.Request.{Parts}
use Rattle.rack_types.specs.declared.limits.Version.{Version}
use Rattle.rack_types.specs.declared.limits.Version.TheVariants.{Http10, Http11}
use Rattle.rack_types.specs.declared.peer.Local.{Local}
use Rattle.rack_env.specs.Fields.{field_pairs, joined, with_authority}
use Rattle.rack_env.specs.Host.{server}

-- the text of a version
abbrev pub protocol : Version → List ℕ
protocol Http10 = codes "HTTP/1.0"
protocol Http11 = codes "HTTP/1.1"

-- the scheme, as the local side says
abbrev pub scheme : Bool → List ℕ
scheme https = if https then codes "https" else codes "http"

-- the text of a truth
abbrev pub truth : Bool → List ℕ
truth b = if b then codes "true" else codes "false"

-- the pairs that each environment has
unfoldable pub fixed_pairs : Parts → List ℕ → Local → Pairs
fixed_pairs r peer local =
    (codes "REQUEST_METHOD", r.method)
    ∷ (codes "SCRIPT_NAME", [])
    ∷ (codes "PATH_INFO", r.path)
    ∷ (codes "QUERY_STRING", r.query)
    ∷ (codes "SERVER_NAME", (server r local).0)
    ∷ (codes "SERVER_PORT", decimal (server r local).1)
    ∷ (codes "SERVER_PROTOCOL", protocol r.version)
    ∷ (codes "REMOTE_ADDR", peer)
    ∷ (codes "rack.url_scheme", scheme local.https)
    ∷ (codes "rack.errors", codes "discard")
    ∷ (codes "rack.hijack?", truth local.hijack)
    ∷ []

-- the pair of a value that is there
abbrev pub pair_if : List ℕ → Option (List ℕ) → Pairs
pair_if name None = []
pair_if name (Some value) = (name, value) ∷ []

-- how long the body is: for chunks their data's length, else what the field says
abbrev pub content_length : Parts → Option (List ℕ)
content_length r =
    if r.chunked then Some (decimal (length r.body)) else joined (values_of (codes "content-length") r.fields)

-- the pairs of the body's type and length, where they are there
abbrev pub content_pairs : Parts → Pairs
content_pairs r =
    pair_if (codes "CONTENT_TYPE") (joined (values_of (codes "content-type") r.fields))
    ++ pair_if (codes "CONTENT_LENGTH") (content_length r)

-- the pairs of a request's environment, in order, by the peer's text and the local side
unfoldable pub env_pairs : Parts → List ℕ → Local → Pairs
env_pairs r peer local = fixed_pairs r peer local ++ (content_pairs r ++ with_authority r.authority (field_pairs r.fields))

-- a request's environment: its pairs, and its body, of which nothing is read
abbrev pub environment : Parts → List ℕ → Local → Environment
environment r peer local = record { pairs = env_pairs r peer local; input = unread r.body }
