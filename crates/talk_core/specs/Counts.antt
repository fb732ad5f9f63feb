-- Counts of several events.
use Rattle.std.specs.Prelude.{ℕ, zero, suc}
use Rattle.rack_outside.specs.Told.{counted}

-- the count behind so many events, each of which counts one more while the count has not reached its end
abbrev pub counted_by : ℕ → ℕ → ℕ
counted_by zero count = count
counted_by (suc n) count = counted_by n (counted count)
