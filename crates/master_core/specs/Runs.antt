-- What orders and steps lead to, for the laws.
use Rattle.std.specs.Prelude.{◌≡◌, ℕ, zero, suc, ◌≤◌, ◌⊎◌, slice_get, position, count_by, not, Option, option_and_then}
use Rattle.master_core.specs.Slots.{is_serving, is_draining, phase_of}
use Rattle.master_core.specs.State.{MasterState, new_master}
use Rattle.master_core.specs.Orders.{TakesOrder}
use Rattle.master_core.specs.Steps.{MakesStep, MayBeGone}
use Rattle.master_core.specs.declared.order.Order.{Order}
use Rattle.master_core.specs.declared.order.Reply.{Reply}
use Rattle.master_core.specs.declared.order.Act.{Act}

-- some order or some step leads from m to n
abbrev pub Leads : MasterState → MasterState → Type 0
Leads m n =
    ((o : Order) × (reply : Reply) × TakesOrder m o reply n)
    ⊎ ((gone : Option ℕ) × (act : Act) × MayBeGone m gone × MakesStep m gone act n)

-- so many orders and steps lead from m to n
abbrev pub LeadsBy : ℕ → MasterState → MasterState → Type 0
LeadsBy zero m n = n ≡ m
LeadsBy (suc count) m n = (between : MasterState) × LeadsBy count m between × Leads between n

-- some number of orders and steps does
abbrev pub LeadsTo : MasterState → MasterState → Type 0
LeadsTo m n = (count : ℕ) × LeadsBy count m n

-- some orders and steps lead to m from a new master of 1 to 16 slots
abbrev pub IsReachable : MasterState → Type 0
IsReachable m = (slots : ℕ) × (1 ≤ slots) × (slots ≤ 16) × LeadsTo (new_master slots) m

-- the phase of slot i, where there is one that isn't vacant
abbrev pub phase_at : MasterState → ℕ → Option ℕ
phase_at m i = option_and_then phase_of (slice_get m.slots i)

-- how many slots don't serve
abbrev pub away : MasterState → ℕ
away m = count_by (λ slot. not (is_serving slot)) m.slots

-- so many steps lead from m to n, where before each the slot that drains, if any, is gone
abbrev pub StepsBy : ℕ → MasterState → MasterState → Type 0
StepsBy zero m n = n ≡ m
StepsBy (suc count) m n =
    (between : MasterState) × (act : Act)
    × StepsBy count m between
    × MakesStep between (position is_draining between.slots) act n
