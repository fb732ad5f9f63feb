-- What a hijacker says to bytes, which is this project's own.
use Rattle.std.specs.Prelude.{◌≡◌, ℕ, List, ◌++◌}
use Rattle.hijack_core.specs.declared.hijack.Said.{Said}

-- what is said to some bytes, and then to those behind them
abbrev pub and_then : Said → Said → Said
and_then first second = record { bytes = first.bytes ++ second.bytes; go_on = second.go_on }

-- xs begins ys
abbrev pub Starts : List ℕ → List ℕ → Type 0
Starts xs ys = (rest : List ℕ) × (ys ≡ xs ++ rest)

-- behind these bytes it says what it says now to them and more, without what it said to them: cuts do not matter
pub record GoesOnAs (says : List ℕ → Said) (ends : List ℕ → List ℕ) (bytes : List ℕ) (says_then : List ℕ → Said) (ends_then : List ℕ → List ℕ) : Type 0 where
  pub joined : (more : List ℕ) → says (bytes ++ more) ≡ and_then (says bytes) (says_then more)
  pub ended : (more : List ℕ) → ends (bytes ++ more) ≡ ends_then more
