-- What a step of a master does (this project's own): a relation whose cases are the rows of the table of steps.
use Rattle.std.specs.Prelude.{◌≡◌, ℕ, Bool, true, false, ◌⊎◌, slice_get, slice_set, map, position, Option, None, Some, IsSome, ⊤}
use Rattle.std.specs.List.{list_any}
use Rattle.master_core.specs.Slots.{is_vacant, is_serving, is_draining, is_below, told}
use Rattle.master_core.specs.State.{MasterState, with_slot, Lowest, NoSlot, EachSlot, IsDrainingAt}
use Rattle.master_core.specs.declared.order.Ending.{Ending}
use Rattle.master_core.specs.declared.order.Ending.TheVariants as ending
use Rattle.master_core.specs.declared.order.Act.{Act}
use Rattle.master_core.specs.declared.order.Act.TheVariants.{Rest, Drain, Start, HaltAll, Finish}
use Rattle.master_core.specs.declared.slot.Slot.TheVariants.{Vacant, Serving, Draining}

-- a slot that is told to be gone was draining
abbrev pub MayBeGone : MasterState → Option ℕ → Type 0
MayBeGone m None = ⊤
MayBeGone m (Some i) = IsDrainingAt m i

-- the slot that is gone is vacant
abbrev pub without : MasterState → Option ℕ → MasterState
without m None = m
without m (Some i) = with_slot m i Vacant

-- slot i, which served, drains in its phase, and nothing else changed
abbrev pub Drains : ℕ → MasterState → MasterState → Type 0
Drains i m n = (phase : ℕ) × (slice_get m.slots i ≡ Some (Serving phase)) × (n ≡ with_slot m i (Draining phase))

-- slot i serves the target, and the phased order is done where no slot then has a lower phase
abbrev pub started : MasterState → ℕ → MasterState
started m i =
    let slots = slice_set m.slots i (Serving m.target) in
    record m { slots = slots; phased = list_any (is_below m.target) slots }

-- by what is ordered, what is left of a step once the slot that is gone is vacant
abbrev pub Goes : Ending → Bool → Act → MasterState → MasterState → Type 0
-- nothing is pending
Goes ending.NotOrdered false Rest m n = n ≡ m
-- a phased order isn't done
Goes ending.NotOrdered true (Start i phase) m n = Lowest is_vacant m i × (phase ≡ m.target) × (n ≡ started m i)
Goes ending.NotOrdered true (Drain i) m n =
    NoSlot is_vacant m × NoSlot is_draining m × Lowest (is_below m.target) m i × Drains i m n
Goes ending.NotOrdered true Rest m n =
    NoSlot is_vacant m
    × (IsSome (position is_draining m.slots) ⊎ NoSlot (is_below m.target) m)
    × (n ≡ m)
-- stop was ordered
Goes ending.Stop phased (Drain i) m n = Lowest is_serving m i × Drains i m n
Goes ending.Stop phased Finish m n = EachSlot is_vacant m × (n ≡ m)
Goes ending.Stop phased Rest m n = NoSlot is_serving m × ¬ EachSlot is_vacant m × (n ≡ m)
-- halt was ordered, and this is the first step behind it
Goes ending.Halt phased HaltAll m n = n ≡ record m { slots = map told m.slots; ending = ending.Halted }
-- halt was ordered, and this is a later one
Goes ending.Halted phased Finish m n = EachSlot is_vacant m × (n ≡ m)
Goes ending.Halted phased Rest m n = ¬ EachSlot is_vacant m × (n ≡ m)
Goes other phased act m n = ⊥

-- where this slot, or none, is gone, a step of m asks for the act, and the master is n behind it
abbrev pub MakesStep : MasterState → Option ℕ → Act → MasterState → Type 0
MakesStep m gone act n = Goes m.ending m.phased act (without m gone) n
