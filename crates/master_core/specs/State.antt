-- What contracts see of a master.
use Rattle.std.specs.Prelude.{◌≡◌, ℕ, Bool, false, List, replicate, slice_get, slice_set, position, None, Some, IsTrue}
use Rattle.std.specs.List.{list_all}
use Rattle.master_core.specs.declared.order.Ending.{Ending}
use Rattle.master_core.specs.declared.order.Ending.TheVariants.{NotOrdered}
use Rattle.master_core.specs.declared.slot.Slot.{Slot}
use Rattle.master_core.specs.declared.slot.Slot.TheVariants.{Serving, Draining}

-- its slots, the lowest first; the phase to which they are to come; and what is pending: whether a phased
-- order was taken and isn't done, and what was ordered to end the master, which goes before that
pub record MasterState : Type 0 where
  pub slots : List Slot
  pub target : ℕ
  pub phased : Bool
  pub ending : Ending

-- a new master: so many slots serve phase 0, and nothing is ordered
abbrev pub new_master : ℕ → MasterState
new_master slots = record { slots = replicate slots (Serving 0); target = 0; phased = false; ending = NotOrdered }

-- the same with another slot at that place
abbrev pub with_slot : MasterState → ℕ → Slot → MasterState
with_slot m i slot = record m { slots = slice_set m.slots i slot }

-- slot i is the lowest that passes the test
abbrev pub Lowest : (Slot → Bool) → MasterState → ℕ → Type 0
Lowest test m i = position test m.slots ≡ Some i

-- no slot passes the test
abbrev pub NoSlot : (Slot → Bool) → MasterState → Type 0
NoSlot test m = position test m.slots ≡ None

-- each slot passes the test
abbrev pub EachSlot : (Slot → Bool) → MasterState → Type 0
EachSlot test m = IsTrue (list_all test m.slots)

-- slot i drains
abbrev pub IsDrainingAt : MasterState → ℕ → Type 0
IsDrainingAt m i = (phase : ℕ) × (slice_get m.slots i ≡ Some (Draining phase))

-- slot i serves
abbrev pub IsServingAt : MasterState → ℕ → Type 0
IsServingAt m i = (phase : ℕ) × (slice_get m.slots i ≡ Some (Serving phase))
