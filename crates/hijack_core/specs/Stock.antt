-- What the stock hijackers say to bytes. They are this project's own.
use Rattle.std.specs.Prelude.{ℕ, Bool, true, ◌==◌, not, List, [], map}
use Rattle.std.specs.Char.{to_ascii_uppercase}
use Rattle.std.specs.List.{list_any, take_while}
use Rattle.hijack_core.specs.declared.hijack.Said.{Said}
use Rattle.hijack_core.specs.declared.stock.Stock.{Stock}
use Rattle.hijack_core.specs.declared.stock.Stock.TheVariants.{Echo, Upper}

-- the byte that ends upper: End of Transmission, as a terminal sends it for an end
abbrev pub is_end : ℕ → Bool
is_end byte = byte == 4

-- the bytes before the first that ends; all where none does
abbrev pub before_end : List ℕ → List ℕ
before_end bytes = take_while (λ byte. not (is_end byte)) bytes

-- each byte as it is, and on
abbrev pub echoed : List ℕ → Said
echoed bytes = record { bytes = bytes; go_on = true }

-- the bytes before the first that ends, a to z as A to Z; and on where none ends
abbrev pub uppered : List ℕ → Said
uppered bytes = record { bytes = map to_ascii_uppercase (before_end bytes); go_on = not (list_any is_end bytes) }

-- what this one says to these bytes
abbrev pub stock_says : Stock → List ℕ → Said
stock_says Echo bytes = echoed bytes
stock_says Upper bytes = uppered bytes

-- what it says at the end, behind these bytes: nothing
abbrev pub stock_ends : Stock → List ℕ → List ℕ
stock_ends stock bytes = []
