-- The law of texts whose case does not count.
use Rattle.std.proofs.Common.{◌≡◌, ℕ, List, Decides}
use Rattle.std.specs.Cmp.Lexicographic.{bytes_decides}
use Rattle.rack_text.specs.Case.{lowered, same_ignoring_case}

-- the test tells whether the texts are equal in lower case
pub Decides-same_ignoring_case : (a b : List ℕ) → Decides (same_ignoring_case a b) (lowered a ≡ lowered b)
Decides-same_ignoring_case a b = bytes_decides (lowered a) (lowered b)
