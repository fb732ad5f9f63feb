-- The body behind a head, by how it is framed (RFC 9112, section 6.3).
use Rattle.std.specs.Prelude.{◌≡◌, ℕ, List, length}
use Rattle.std.specs.List.{concat}
use Rattle.rack_types.specs.declared.fault.Fault.{Fault}
use Rattle.message_framing.specs.declared.fields.Framing.{Framing}
use Rattle.message_framing.specs.declared.fields.Framing.TheVariants.{Stated, Chunked}
use Rattle.message_framing.specs.Chunks.{ChunksAt, ChunksRefused}

-- b is a body and nothing else, and these are its bytes: of chunks, their data joined
abbrev pub IsBody : Framing → List ℕ → List ℕ → Type 0
IsBody (Stated n) b body = (n ≡ length b) × (body ≡ b)
IsBody Chunked b body = (pieces : List (List ℕ)) × ChunksAt pieces 0 b (length b) × (body ≡ concat pieces)

-- b is refused as a body. A body whose length is stated never is.
abbrev pub BodyRefusal : Framing → List ℕ → Fault → Type 0
BodyRefusal (Stated n) b f = ⊥
BodyRefusal Chunked b f = (pieces : List (List ℕ)) × ChunksRefused pieces 0 b f
