-- What a table of pairs holds; inner contracts alone cite it.
use Rattle.std.specs.Prelude.{◌≡◌, ℕ, zero, suc, ◌+◌, ◌==◌, if◌then◌else◌, true, false, List, [], ◌∷◌, take, bytes_eq}
use Rattle.rack_types.specs.Env.{Pairs}
use Rattle.rack_types.specs.declared.table.Table.{Table}

-- the pairs that stand; those behind them are former ones
abbrev pub standing : Table → Pairs
standing t = take t.count t.map.entries

-- at this place the name stands first
abbrev pub IsFirstAt : List ℕ → Pairs → ℕ → Type 0
IsFirstAt name [] i = ⊥
IsFirstAt name (p ∷ ps) zero = bytes_eq name p.0 ≡ true
IsFirstAt name (p ∷ ps) (suc i) = (bytes_eq name p.0 ≡ false) × IsFirstAt name ps i

-- how many stand once the pair at this place does
abbrev pub counted : ℕ → ℕ → ℕ
counted i count = if i == count then count + 1 else count
