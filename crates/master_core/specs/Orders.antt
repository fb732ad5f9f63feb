-- How a master takes an order (this project's own): a relation whose cases are the rows of the table of orders.
use Rattle.std.specs.Prelude.{◌≡◌, ◌≢◌, ℕ, ◌+◌, ◌-◌, ◌==◌, Bool, true, false, ◌||◌, if◌then◌else◌, Option, None, Some}
use Rattle.master_core.specs.State.{MasterState}
use Rattle.master_core.specs.declared.loader.Load.TheVariants.{Read}
use Rattle.master_core.specs.declared.order.Ending.{Ending}
use Rattle.master_core.specs.declared.order.Ending.TheVariants as ending
use Rattle.master_core.specs.declared.order.Order.{Order}
use Rattle.master_core.specs.declared.order.Order.TheVariants.{Phased, Stop, Halt}
use Rattle.master_core.specs.declared.order.Reply.{Reply}
use Rattle.master_core.specs.declared.order.Reply.TheVariants.{Taken, Busy, Refused}

-- the greatest phase that there is
abbrev pub last_phase : ℕ
last_phase = 4294967295

-- whether stop or halt was ordered
abbrev pub is_ended : Ending → Bool
is_ended ending.NotOrdered = false
is_ended ending.Stop = true
is_ended ending.Halt = true
is_ended ending.Halted = true

-- whether a phased order would find the master busy: an order is pending, or no higher phase is left
abbrev pub is_busy : MasterState → Bool
is_busy m = m.phased || is_ended m.ending || (m.target == last_phase)

-- the phase before the phased order that isn't done, and the target where there is none
abbrev pub phase_before : MasterState → ℕ
phase_before m = if m.phased then m.target - 1 else m.target

-- what a busy master tells
abbrev pub busy_with : MasterState → Option (ℕ × ℕ)
busy_with m = if is_busy m then Some (phase_before m, m.target) else None

-- what is ordered once a stop came: a halt goes before it
abbrev pub behind_stop : Ending → Ending
behind_stop ending.NotOrdered = ending.Stop
behind_stop ending.Stop = ending.Stop
behind_stop ending.Halt = ending.Halt
behind_stop ending.Halted = ending.Halted

-- what is ordered once a halt came: one that was carried out is carried out once
abbrev pub behind_halt : Ending → Ending
behind_halt ending.NotOrdered = ending.Halt
behind_halt ending.Stop = ending.Halt
behind_halt ending.Halt = ending.Halt
behind_halt ending.Halted = ending.Halted

-- to order o the master m answers so, and is n behind it
abbrev pub TakesOrder : MasterState → Order → Reply → MasterState → Type 0
TakesOrder m (Phased load) (Busy phase target) n = (busy_with m ≡ Some (phase, target)) × (n ≡ m)
TakesOrder m (Phased load) (Refused refused) n =
    (busy_with m ≡ None) × (load ≢ Read) × (refused ≡ load) × (n ≡ m)
TakesOrder m (Phased load) (Taken target) n =
    (busy_with m ≡ None) × (load ≡ Read) × (target ≡ m.target + 1)
    × (n ≡ record m { target = target; phased = true })
TakesOrder m Stop (Taken target) n = (target ≡ m.target) × (n ≡ record m { ending = behind_stop m.ending })
TakesOrder m Halt (Taken target) n = (target ≡ m.target) × (n ≡ record m { ending = behind_halt m.ending })
TakesOrder m o reply n = ⊥
