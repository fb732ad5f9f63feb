-- The head text: from the first line that is not empty through the empty line that ends the head
-- (RFC 9112, sections 2.1 and 2.2). A line ends in LF or in CR LF. The RFC asks that at least one empty
-- line in front is skipped; that any number is, is this project's own.
use Rattle.std.specs.Prelude.{ℕ, suc, ◌+◌, ◌&&◌, ◌==◌, nat_lt, if◌then◌else◌, List, [], ◌∷◌, drop, Option, None, Some, option_map}

-- line feed
abbrev pub lf : ℕ
lf = 10

-- carriage return
abbrev pub cr : ℕ
cr = 13

-- the bytes of the empty line at the front, LF or CR LF; 0 where none stands there
unfoldable pub empty_line : List ℕ → ℕ
empty_line [] = 0
empty_line (b ∷ []) = if b == lf then 1 else 0
empty_line (b ∷ c ∷ rest) = if b == lf then 1 else if (b == cr) && (c == lf) then 2 else 0

-- the bytes of the longest prefix that consists of whole empty lines
unfoldable pub skipped : List ℕ → ℕ
skipped [] = 0
skipped (b ∷ []) = if b == lf then 1 else 0
skipped (b ∷ c ∷ rest) =
    if b == lf then suc (skipped (c ∷ rest))
    else if (b == cr) && (c == lf) then suc (suc (skipped rest))
    else 0

-- the bytes through the first LF that an empty line follows, and of that empty line
unfoldable pub lines_end : List ℕ → Option ℕ
lines_end [] = None
lines_end (b ∷ rest) =
    if (b == lf) && nat_lt 0 (empty_line rest) then Some (suc (empty_line rest))
    else option_map suc (lines_end rest)

-- the bytes through the end of the head text, with the empty lines before it; none where it has not ended
unfoldable pub head_len : List ℕ → Option ℕ
head_len b = option_map (λ n. skipped b + n) (lines_end (drop (skipped b) b))

-- what stands behind the empty lines at the front
abbrev pub head_text : List ℕ → List ℕ
head_text head = drop (skipped head) head
