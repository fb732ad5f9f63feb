-- Tests of one slot (this project's own).
use Rattle.std.specs.Prelude.{ℕ, Bool, true, false, nat_lt, Option, None, Some}
use Rattle.master_core.specs.declared.slot.Slot.{Slot}
use Rattle.master_core.specs.declared.slot.Slot.TheVariants.{Vacant, Serving, Draining}

abbrev pub is_vacant : Slot → Bool
is_vacant Vacant = true
is_vacant (Serving phase) = false
is_vacant (Draining phase) = false

abbrev pub is_serving : Slot → Bool
is_serving Vacant = false
is_serving (Serving phase) = true
is_serving (Draining phase) = false

abbrev pub is_draining : Slot → Bool
is_draining Vacant = false
is_draining (Serving phase) = false
is_draining (Draining phase) = true

-- whether its phase is lower than this one; a vacant slot has none
abbrev pub is_below : ℕ → Slot → Bool
is_below target Vacant = false
is_below target (Serving phase) = nat_lt phase target
is_below target (Draining phase) = nat_lt phase target

-- the phase of a slot that isn't vacant
abbrev pub phase_of : Slot → Option ℕ
phase_of Vacant = None
phase_of (Serving phase) = Some phase
phase_of (Draining phase) = Some phase

-- what a slot is once it was told to drain
abbrev pub told : Slot → Slot
told Vacant = Vacant
told (Serving phase) = Draining phase
told (Draining phase) = Draining phase
