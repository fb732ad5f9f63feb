-- The bodies and the headers of the stock endpoints.
use Rattle.std.specs.Prelude.{ℕ, Bool, true, false, List, [], ◌∷◌, length, None, Some, codes}
use Rattle.rack_types.specs.declared.body.Kind.{Kind}
use Rattle.rack_types.specs.declared.body.Kind.TheVariants.{Enumerable, Streaming}
use Rattle.rack_types.specs.Body.{Content}
use Rattle.rack_types.specs.Headers.{HeaderList}

-- one piece, whose length is known
abbrev pub one_piece : List ℕ → Content
one_piece text = record { pieces = text ∷ []; raises = false; known = Some (length text); kind = Enumerable; sure = true }

-- the empty body, whose length is known
abbrev pub empty_body : Content
empty_body = record { pieces = []; raises = false; known = Some 0; kind = Enumerable; sure = true }

-- pieces whose length is not known, made so, behind which the body raises or ends well
abbrev pub unmeasured : List (List ℕ) → Bool → Kind → Content
unmeasured pieces raises kind = record { pieces = pieces; raises = raises; known = None; kind = kind; sure = true }

-- enumerable pieces, and pieces that are written to a stream
abbrev pub enumerable : List (List ℕ) → Bool → Content
enumerable pieces raises = unmeasured pieces raises Enumerable

abbrev pub streaming : List (List ℕ) → Content
streaming pieces = unmeasured pieces false Streaming

-- one header with this one value
abbrev pub header : List ℕ → List ℕ → HeaderList
header name value = (name, value ∷ []) ∷ []

-- `content-type: text/plain`
abbrev pub plain_type : HeaderList
plain_type = header (codes "content-type") (codes "text/plain")
