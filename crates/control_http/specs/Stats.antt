-- The text of `/stats` (after Puma's control server; which fields there are is this project's own). Keys are in the
-- order of their bytes, and there are no spaces.
use Rattle.std.specs.Prelude.{ℕ, ◌+◌, ◌==◌, if◌then◌else◌, List, [], ◌∷◌, ◌++◌, length, count_by, unwrap_or, codes, decimal}
use Rattle.master_core.specs.declared.slot.Slot.{Slot}
use Rattle.master_core.specs.Slots.{is_serving, is_below, phase_of}
use Rattle.master_core.specs.State.{MasterState}
use Rattle.control_http.specs.Field.{field, truth}
use Rattle.control_http.specs.declared.seen.SlotSeen.{SlotSeen}

-- what was seen of a slot
unfoldable pub last_status : SlotSeen → List ℕ
last_status s =
    field (codes "{\"backlog\":") (decimal s.backlog)
    ++ field (codes ",\"max_threads\":") (decimal s.max_threads)
    ++ field (codes ",\"pool_capacity\":") (decimal s.pool_capacity)
    ++ field (codes ",\"requests_count\":") (decimal s.requests)
    ++ field (codes ",\"running\":") (decimal s.running)
    ++ codes "}"

-- the phase of a slot, 0 of a vacant one
abbrev pub phase_or_0 : Slot → ℕ
phase_or_0 slot = unwrap_or (phase_of slot) 0

-- the entry of slot i
unfoldable pub entry : ℕ → Slot → SlotSeen → List ℕ
entry i slot s =
    field (codes "{\"booted\":") (truth (is_serving slot))
    ++ field (codes ",\"index\":") (decimal i)
    ++ field (codes ",\"last_status\":") (last_status s)
    ++ field (codes ",\"phase\":") (decimal (phase_or_0 slot))
    ++ codes "}"

-- each entry but that of slot 0 stands behind a comma
abbrev pub comma_before : ℕ → List ℕ
comma_before i = if i == 0 then [] else codes ","

-- the entries from slot i on
abbrev pub entries : ℕ → List Slot → List SlotSeen → List ℕ
entries i [] seen = []
entries i (slot ∷ slots) [] = []
entries i (slot ∷ slots) (s ∷ seen) = comma_before i ++ entry i slot s ++ entries (i + 1) slots seen

-- the whole: how many slots serve, how many are neither vacant nor of the target's phase, the target, each slot, and how many there are
unfoldable pub stats : MasterState → List SlotSeen → List ℕ
stats m seen =
    field (codes "{\"booted_workers\":") (decimal (count_by is_serving m.slots))
    ++ field (codes ",\"old_workers\":") (decimal (count_by (is_below m.target) m.slots))
    ++ field (codes ",\"phase\":") (decimal m.target)
    ++ field (codes ",\"worker_status\":[") (entries 0 m.slots seen)
    ++ field (codes "],\"workers\":") (decimal (length m.slots))
    ++ codes "}"
