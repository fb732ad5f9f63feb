-- What a loader shows.
use Rattle.std.specs.Prelude.{ℕ, ◌+◌, ◌-◌, ◌^◌, ◌≤◌, min, Result, Ok, ⊤}
use Rattle.std.specs.declared.alloc.AllocError.{AllocError}
use Rattle.master_core.specs.declared.loader.Load.{Load}
use Rattle.master_core.specs.declared.loader.Load.TheVariants.{Failed}

-- one more, where the count has not reached its end
abbrev pub counted : ℕ → ℕ
counted count = min (count + 1) (2 ^ 64 - 1)

-- the count rose, or stands at its end
abbrev pub Rose : ℕ → ℕ → Type 0
Rose old new = counted old ≤ new

-- the fact, if the load failed
abbrev pub OnFailedLoad : Result Load AllocError → Type 0 → Type 0
OnFailedLoad (Ok Failed) P = P
OnFailedLoad other P = ⊤
