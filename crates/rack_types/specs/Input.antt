-- The input of an environment, which is this project's own.
use Rattle.std.specs.Prelude.{ℕ, ◌+◌, ◌==◌, if◌then◌else◌, List, [], ◌∷◌, length, drop, min}

-- the bytes of a body, and how many of them are read
pub record Reading : Type 0 where
  pub bytes : List ℕ
  pub position : ℕ

-- the bytes that are not read yet
abbrev pub left : Reading → List ℕ
left r = drop r.position r.bytes

-- n more bytes are read, or all that are left
abbrev pub skip : ℕ → Reading → Reading
skip n r = record { bytes = r.bytes; position = min (r.position + n) (length r.bytes) }

-- of these bytes none is read
abbrev pub unread : List ℕ → Reading
unread bs = record { bytes = bs; position = 0 }

-- the bytes through the first line feed, or all of them
abbrev pub first_line : List ℕ → List ℕ
first_line [] = []
first_line (b ∷ bs) = if b == 10 then b ∷ [] else b ∷ first_line bs
