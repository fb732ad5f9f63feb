-- The lines of a stack file, and the words of a line. The format is this project's own.
use Rattle.std.specs.Prelude.{ℕ, Bool, ◌==◌, ◌&&◌, nat_le, if◌then◌else◌, List, [], ◌∷◌, length}
use Rattle.std.specs.List.{list_all}

-- a byte before the first of some texts, or alone where there is none
abbrev pub before_first : ℕ → List (List ℕ) → List (List ℕ)
before_first b [] = (b ∷ []) ∷ []
before_first b (text ∷ texts) = (b ∷ text) ∷ texts

-- the lines of a text: LF ends a line and is no part of it, and the last line may lack it
abbrev pub lines : List ℕ → List (List ℕ)
lines [] = []
lines (b ∷ bytes) = if b == 10 then [] ∷ lines bytes else before_first b (lines bytes)

-- what stands between the spaces of a line, which may be empty
abbrev pub parted : List ℕ → List (List ℕ)
parted [] = [] ∷ []
parted (b ∷ bytes) = if b == 32 then [] ∷ parted bytes else before_first b (parted bytes)

-- the texts that aren't empty
abbrev pub without_empty : List (List ℕ) → List (List ℕ)
without_empty [] = []
without_empty ([] ∷ texts) = without_empty texts
without_empty ((b ∷ bytes) ∷ texts) = (b ∷ bytes) ∷ without_empty texts

-- the words of a line: what one or more spaces part
abbrev pub words : List ℕ → List (List ℕ)
words line = without_empty (parted line)

-- the line without the spaces at its front
abbrev pub unindented : List ℕ → List ℕ
unindented [] = []
unindented (b ∷ bytes) = if b == 32 then unindented bytes else b ∷ bytes

-- the byte may stand in a stack file
abbrev pub is_printable : ℕ → Bool
is_printable b = nat_le 32 b && nat_le b 126

-- each byte may, and the line has 4,096 bytes at most, the spaces at its front not counted (else S1)
abbrev pub is_clean : List ℕ → Bool
is_clean line = list_all is_printable line && nat_le (length (unindented line)) 4096
