-- Decimal numbers (RFC 9110, section 8.6: one digit or more). That one stays below 2^128 is this project's own.
use Rattle.std.specs.Prelude.{ℕ, ◌^◌, Bool, ◌&&◌, nat_lt, List, length, Option, Some, None, if◌then◌else◌, IsTrue}
use Rattle.std.specs.Char.{is_ascii_digit}
use Rattle.std.specs.List.{list_all}
use Rattle.std.specs.Str.Parse.{digits_value}

-- one digit or more, and nothing else
abbrev pub is_decimal : List ℕ → Bool
is_decimal text = nat_lt 0 (length text) && list_all is_ascii_digit text

-- the same as a fact
abbrev pub IsDecimal : List ℕ → Type 0
IsDecimal text = IsTrue (is_decimal text)

-- the number that the digits write, most significant first
abbrev pub decimal_value : List ℕ → ℕ
decimal_value text = digits_value 10 text

-- that number, where the text is decimal and the number is below 2^128
abbrev pub decimal_number : List ℕ → Option ℕ
decimal_number text =
    if is_decimal text && nat_lt (decimal_value text) (2 ^ 128) then Some (decimal_value text) else None
