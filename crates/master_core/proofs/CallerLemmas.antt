-- What crates above may cite: lemmas over the public definitions of this crate.
use Rattle.std.proofs.Common.{◌≡◌, ℕ, suc, ◌≤◌, length, Bool, true, false, Option, None, Some, refl, ◌∙◌, ap, inl, inr}
use Rattle.std.specs.Prelude.{slice_get}
use Rattle.std.proofs.lemmas.List.{length-set, length-map}
use Rattle.master_core.specs.declared.slot.Slot.{Slot}
use Rattle.master_core.specs.declared.slot.Slot.TheVariants.{Vacant, Serving, Draining}
use Rattle.master_core.specs.declared.order.Ending.{Ending}
use Rattle.master_core.specs.declared.order.Ending.TheVariants as ending
use Rattle.master_core.specs.declared.order.Order.{Order}
use Rattle.master_core.specs.declared.order.Order.TheVariants.{Phased, Stop, Halt}
use Rattle.master_core.specs.declared.order.Reply.{Reply}
use Rattle.master_core.specs.declared.order.Reply.TheVariants.{Taken, Busy, Refused}
use Rattle.master_core.specs.declared.order.Act.{Act}
use Rattle.master_core.specs.declared.order.Act.TheVariants.{Rest, Drain, Start, HaltAll, Finish}
use Rattle.master_core.specs.Slots.{is_vacant, told}
use Rattle.master_core.specs.State.{MasterState, new_master}
use Rattle.master_core.specs.Orders.{TakesOrder}
use Rattle.master_core.specs.Steps.{MakesStep, Goes, Drains, MayBeGone, without}
use Rattle.master_core.specs.Runs.{Leads, LeadsTo, IsReachable}
use Rattle.master_core.proofs.SlotLemmas.{position_passes}
use Rattle.master_core.proofs.OrderLemmas.{orders_one}
use Rattle.master_core.proofs.StepLemmas.{steps_one}

-- an order leaves the slots as they are
pub slots-TakesOrder : (m n : MasterState) (o : Order) (r : Reply) → TakesOrder m o r n → n.slots ≡ m.slots
slots-TakesOrder m n (Phased load) (Busy p t) h = ap (λ k. k.slots) h.1
slots-TakesOrder m n (Phased load) (Refused refused) h = ap (λ k. k.slots) h.3
slots-TakesOrder m n (Phased load) (Taken t) h = ap (λ k. k.slots) h.3
slots-TakesOrder m n Stop (Taken t) h = ap (λ k. k.slots) h.1
slots-TakesOrder m n Halt (Taken t) h = ap (λ k. k.slots) h.1
slots-TakesOrder m n o r h = absurd h

length-without : (m : MasterState) (gone : Option ℕ) → length (without m gone).slots ≡ length m.slots
length-without m None = refl
length-without m (Some i) = length-set m.slots i Vacant

length-Drains : (i : ℕ) (m n : MasterState) → Drains i m n → length n.slots ≡ length m.slots
length-Drains i m n d = ap (λ k. length k.slots) d.2 ∙ length-set m.slots i (Draining d.0)

length-Goes : (e : Ending) (phased : Bool) (a : Act) (m n : MasterState) → Goes e phased a m n → length n.slots ≡ length m.slots
length-Goes ending.NotOrdered false Rest m n h = ap (λ k. length k.slots) h
length-Goes ending.NotOrdered true (Start i phase) m n h = ap (λ k. length k.slots) h.2 ∙ length-set m.slots i (Serving m.target)
length-Goes ending.NotOrdered true (Drain i) m n h = length-Drains i m n h.3
length-Goes ending.NotOrdered true Rest m n h = ap (λ k. length k.slots) h.2
length-Goes ending.Stop phased (Drain i) m n h = length-Drains i m n h.1
length-Goes ending.Stop phased Finish m n h = ap (λ k. length k.slots) h.1
length-Goes ending.Stop phased Rest m n h = ap (λ k. length k.slots) h.2
length-Goes ending.Halt phased HaltAll m n h = ap (λ k. length k.slots) h ∙ length-map m.slots told
length-Goes ending.Halted phased Finish m n h = ap (λ k. length k.slots) h.1
length-Goes ending.Halted phased Rest m n h = ap (λ k. length k.slots) h.1
length-Goes e phased a m n h = absurd h

-- a step keeps the number of slots
pub length-MakesStep : (m n : MasterState) (gone : Option ℕ) (a : Act) → MakesStep m gone a n → length n.slots ≡ length m.slots
length-MakesStep m n gone a s = length-Goes m.ending m.phased a (without m gone) n s ∙ length-without m gone

-- an order has one answer, and one master behind it
pub one-TakesOrder : (m n k : MasterState) (o : Order) (r s : Reply) → TakesOrder m o r n → TakesOrder m o s k → (r ≡ s) × (n ≡ k)
one-TakesOrder m n k o r s h g = orders_one m n k o r s h g

-- a step has one act, and one master behind it
pub one-MakesStep : (m n k : MasterState) (gone : Option ℕ) (a b : Act) → MakesStep m gone a n → MakesStep m gone b k → (a ≡ b) × (n ≡ k)
one-MakesStep m n k gone a b s w = steps_one m n k gone a b s w

-- a new master is reachable, and so is what an order or a step leads to
pub reachable-new : (slots : ℕ) → 1 ≤ slots → slots ≤ 16 → IsReachable (new_master slots)
reachable-new slots some few = (slots, some, few, (0, refl))

leads-further : (m n k : MasterState) → LeadsTo m n → Leads n k → LeadsTo m k
leads-further m n k (count, by) last = (suc count, (n, by, last))

pub reachable-TakesOrder : (m n : MasterState) (o : Order) (r : Reply) → IsReachable m → TakesOrder m o r n → IsReachable n
reachable-TakesOrder m n o r (slots, some, few, leads) h = (slots, some, few, leads-further (new_master slots) m n leads (inl (o, r, h)))

pub reachable-MakesStep : (m n : MasterState) (gone : Option ℕ) (a : Act) → IsReachable m → MayBeGone m gone → MakesStep m gone a n → IsReachable n
reachable-MakesStep m n gone a (slots, some, few, leads) may s = (slots, some, few, leads-further (new_master slots) m n leads (inr (gone, a, may, s)))

-- a slot that a step starts is vacant once the gone one is, and starts in the target
vacant_as : (x : Slot) → is_vacant x ≡ true → x ≡ Vacant
vacant_as Vacant e = refl
vacant_as (Serving p) e = absurd (cc)
vacant_as (Draining p) e = absurd (cc)

start-Goes : (e : Ending) (phased : Bool) (i phase : ℕ) (m n : MasterState) → Goes e phased (Start i phase) m n → (slice_get m.slots i ≡ Some Vacant) × (phase ≡ m.target)
start-Goes ending.NotOrdered true i phase m n h =
    let there = position_passes is_vacant m.slots i h.0 in
    (there.1 ∙ ap (λ x. Some x) (vacant_as there.0 there.2), h.1)
start-Goes ending.NotOrdered false i phase m n h = absurd h
start-Goes ending.Stop phased i phase m n h = absurd h
start-Goes ending.Halt phased i phase m n h = absurd h
start-Goes ending.Halted phased i phase m n h = absurd h

target-without : (m : MasterState) (gone : Option ℕ) → (without m gone).target ≡ m.target
target-without m None = refl
target-without m (Some i) = refl

pub start-MakesStep : (m n : MasterState) (gone : Option ℕ) (i phase : ℕ) → MakesStep m gone (Start i phase) n → (slice_get (without m gone).slots i ≡ Some Vacant) × (phase ≡ m.target)
start-MakesStep m n gone i phase s =
    let begins = start-Goes m.ending m.phased i phase (without m gone) n s in
    (begins.0, begins.1 ∙ target-without m gone)

drain-Goes : (e : Ending) (phased : Bool) (i : ℕ) (m n : MasterState) → Goes e phased (Drain i) m n → Drains i m n
drain-Goes ending.NotOrdered true i m n h = h.3
drain-Goes ending.NotOrdered false i m n h = absurd h
drain-Goes ending.Stop phased i m n h = h.1
drain-Goes ending.Halt phased i m n h = absurd h
drain-Goes ending.Halted phased i m n h = absurd h

-- a slot that a step drains served, and drains in its phase
pub drain-MakesStep : (m n : MasterState) (gone : Option ℕ) (i : ℕ) → MakesStep m gone (Drain i) n → Drains i (without m gone) n
drain-MakesStep m n gone i s = drain-Goes m.ending m.phased i (without m gone) n s
