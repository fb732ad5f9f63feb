-- Counts that never fall.
use Rattle.std.proofs.Common.{ℕ, ◌<◌, ◌≤◌, arith}
use Rattle.rack_outside.specs.Told.{Rose}

-- a count that rose isn't 0
pub rose_some : (old new : ℕ) → Rose old new → 0 < new
rose_some old new rose = omega (arith, rose)

-- what rose within a time rose over all of it, since no count falls
pub rose_within : (old before after new : ℕ) → old ≤ before → Rose before after → after ≤ new → Rose old new
rose_within old before after new early rose late = omega (arith, early, rose, late)
