-- Texts whose case does not count.
use Rattle.std.specs.Prelude.{ℕ, Bool, List, map, bytes_eq}
use Rattle.std.specs.Char.{to_ascii_lowercase}

-- the text with its ASCII letters in lower case, and every other byte as it is
abbrev pub lowered : List ℕ → List ℕ
lowered text = map to_ascii_lowercase text

-- the texts are equal but for the case of ASCII letters
abbrev pub same_ignoring_case : List ℕ → List ℕ → Bool
same_ignoring_case a b = bytes_eq (lowered a) (lowered b)
