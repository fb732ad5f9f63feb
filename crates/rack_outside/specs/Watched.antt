-- What a watcher in memory watches: keys, in the order in which they came.
use Rattle.std.specs.Prelude.{◌≡◌, ℕ, ◌<◌, ◌≤◌, ◌==◌, Bool, true, false, not, cond, List, [], ◌∷◌, ◌++◌, length, filter}
use Rattle.std.specs.List.{list_any}
use Rattle.rack_outside.specs.Told.{counted}

-- the keys that are watched, those that the last wait named, and how many calls failed
pub record Watched : Type 0 where
  pub keys : List ℕ
  pub named : List ℕ
  pub faults : ℕ

-- nothing is watched, and none was named
abbrev pub fresh_watched : Watched
fresh_watched = record { keys = []; named = []; faults = 0 }

-- the key is among these
abbrev pub has_key : ℕ → List ℕ → Bool
has_key key keys = list_any (λ held. held == key) keys

-- the keys with this one, which keeps its place where it is there
abbrev pub with_key : ℕ → List ℕ → List ℕ
with_key key keys = cond (has_key key keys) keys (keys ++ key ∷ [])

-- the keys without this one
abbrev pub without_key : ℕ → List ℕ → List ℕ
without_key key keys = filter (λ held. not (held == key)) keys

-- the key is watched where there is room, and else counts as a fault
abbrev pub Watches : Bool → ℕ → Watched → Watched → Type 0
Watches true key old new =
    (length (with_key key old.keys) ≤ 1024) × (new ≡ record old { keys = with_key key old.keys })
Watches false key old new =
    (1024 < length (with_key key old.keys)) × (new ≡ record old { faults = counted old.faults })
