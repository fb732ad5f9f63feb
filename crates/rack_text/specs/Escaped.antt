-- Escaped text, which is this project's own: any bytes as one word of visible ASCII.
use Rattle.std.specs.Prelude.{◌≡◌, ℕ, ◌+◌, ◌*◌, ◌/◌, ◌%◌, ◌<◌, ◌≤◌, Bool, true, false, ◌==◌, ◌&&◌, nat_le, not, List, [], ◌∷◌, ◌++◌, Option, None, Some, option_map, take, drop, length, codes, bytes_eq, if◌then◌else◌}
use Rattle.std.specs.Char.{is_ascii_hexdigit, digit_value}
use Rattle.std.specs.Fmt.{digit_glyph}
use Rattle.std.specs.List.{flat_map}

-- the byte stands for itself: it is visible ASCII, and no `\`
abbrev pub is_plain : ℕ → Bool
is_plain b = nat_le 33 b && nat_le b 126 && not (b == 92)

-- the byte that a plain byte spells
abbrev pub plain_byte : ℕ → Option ℕ
plain_byte b = if is_plain b then Some b else None

-- the byte that `\` with this letter spells: `\s` a space, `\n` LF, `\r` CR, `\\` a backslash
abbrev pub letter_byte : ℕ → Option ℕ
letter_byte c =
    if c == 115 then Some 32
    else if c == 110 then Some 10
    else if c == 114 then Some 13
    else if c == 92 then Some 92
    else None

-- the byte that `\x` with these two digits spells, in upper or lower case
abbrev pub hex_byte : ℕ → ℕ → Option ℕ
hex_byte high low =
    if is_ascii_hexdigit high && is_ascii_hexdigit low then Some (digit_value high * 16 + digit_value low) else None

-- a first byte before a text, where both are there
abbrev pub before : Option ℕ → Option (List ℕ) → Option (List ℕ)
before None text = None
before (Some b) text = option_map (λ bytes. b ∷ bytes) text

-- the text that the spellings of bytes, one behind the other, spell
unfoldable mutual
  pub spelled : List ℕ → Option (List ℕ)
  spelled [] = Some []
  spelled (b ∷ rest) = if b == 92 then spelled_behind rest else before (plain_byte b) (spelled rest)

  -- the same behind a `\`
  pub spelled_behind : List ℕ → Option (List ℕ)
  spelled_behind [] = None
  spelled_behind (c ∷ rest) = if c == 120 then spelled_hex rest else before (letter_byte c) (spelled rest)

  -- the same behind `\x`
  pub spelled_hex : List ℕ → Option (List ℕ)
  spelled_hex [] = None
  spelled_hex (high ∷ []) = None
  spelled_hex (high ∷ low ∷ rest) = before (hex_byte high low) (spelled rest)

-- the spellings of one byte or more
abbrev pub spelled_some : List ℕ → Option (List ℕ)
spelled_some [] = None
spelled_some (b ∷ rest) = spelled (b ∷ rest)

-- the text that an escaped text is of, none where the word is no escaped text: `\e` alone is the empty text
abbrev pub unescaped : List ℕ → Option (List ℕ)
unescaped word = if bytes_eq word (codes "\\e") then Some [] else spelled_some word

-- how a byte is written: as itself, or by its letter behind a `\`, or else by `\x` and two digits in lower case
unfoldable pub spelling : ℕ → List ℕ
spelling b =
    if is_plain b then b ∷ []
    else if b == 32 then codes "\\s"
    else if b == 10 then codes "\\n"
    else if b == 13 then codes "\\r"
    else if b == 92 then codes "\\\\"
    else codes "\\x" ++ (digit_glyph false (b / 16) ∷ digit_glyph false (b % 16) ∷ [])

-- the escaped text that is written for a text: `\e` for the empty one, else the spelling of each byte in turn
unfoldable pub escaped : List ℕ → List ℕ
escaped [] = codes "\\e"
escaped (b ∷ bytes) = flat_map spelling (b ∷ bytes)

-- the text of a word, where it has one, was appended to the bytes; else they are as before
abbrev pub Unescapes : Bool → Option (List ℕ) → List ℕ → List ℕ → Type 0
Unescapes true None old new = ⊥
Unescapes true (Some text) old new = new ≡ old ++ text
Unescapes false None old new = new ≡ old
Unescapes false (Some text) old new = ⊥

-- of private functions alone: the first spelling of the bytes was read, a byte and how long its spelling is, so
-- that the text goes on behind it; or there is none, and then no text
abbrev pub ReadsFirst : Option (ℕ × ℕ) → Option (List ℕ) → List ℕ → Type 0
ReadsFirst None text bytes = text ≡ None
ReadsFirst (Some first) text bytes =
    (text ≡ before (Some first.0) (spelled (drop first.1 bytes))) × (0 < first.1) × (first.1 ≤ length bytes)

-- of private functions alone: the spellings of the first n bytes were appended
pub record WritesFirst (n : ℕ) (bytes old new : List ℕ) : Type 0 where
  pub some : 0 < n
  pub within : n ≤ length bytes
  pub written : new ≡ old ++ flat_map spelling (take n bytes)
