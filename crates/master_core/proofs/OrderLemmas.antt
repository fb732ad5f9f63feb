-- Each order has one answer.
use Rattle.std.proofs.Common.{◌≡◌, ◌≢◌, ℕ, ◌+◌, Bool, true, false, ◌||◌, Option, None, Some, refl, sym, ◌∙◌, ap}
use Rattle.std.specs.Prelude.{◌==◌}
use Rattle.master_core.specs.State.{MasterState}
use Rattle.master_core.specs.Orders.{TakesOrder, busy_with, is_ended, phase_before, last_phase, behind_stop, behind_halt}
use Rattle.master_core.specs.declared.loader.Load.{Load}
use Rattle.master_core.specs.declared.loader.Load.TheVariants.{Read, Bad, Absent, Long, Failed}
use Rattle.master_core.specs.declared.order.Order.{Order}
use Rattle.master_core.specs.declared.order.Order.TheVariants.{Phased, Stop, Halt}
use Rattle.master_core.specs.declared.order.Reply.{Reply}
use Rattle.master_core.specs.declared.order.Reply.TheVariants.{Taken, Busy, Refused}

-- the answer, and the master behind it, by whether it is busy
abbrev phased_to : Option (ℕ × ℕ) → Load → MasterState → Reply × MasterState
phased_to (Some (p, t)) load m = (Busy p t, m)
phased_to None Read m = (Taken (m.target + 1), record m { target = m.target + 1; phased = true })
phased_to None (Bad line rule) m = (Refused (Bad line rule), m)
phased_to None Absent m = (Refused Absent, m)
phased_to None Long m = (Refused Long, m)
phased_to None Failed m = (Refused Failed, m)

abbrev order_to : MasterState → Order → Reply × MasterState
order_to m (Phased load) = phased_to (busy_with m) load m
order_to m Stop = (Taken m.target, record m { ending = behind_stop m.ending })
order_to m Halt = (Taken m.target, record m { ending = behind_halt m.ending })

refused_to : (load refused : Load) (m n : MasterState) → load ≢ Read → refused ≡ load → n ≡ m → phased_to None load m ≡ (Refused refused, n)
refused_to Read refused m n f e g = absurd (f refl)
refused_to (Bad line rule) refused m n f e g = rw (e, g)
refused_to Absent refused m n f e g = rw (e, g)
refused_to Long refused m n f e g = rw (e, g)
refused_to Failed refused m n f e g = rw (e, g)

order_is : (m : MasterState) (o : Order) (r : Reply) (n : MasterState) → TakesOrder m o r n → order_to m o ≡ (r, n)
order_is m (Phased load) (Busy p t) n h = rw (h.0, h.1)
order_is m (Phased load) (Refused refused) n h = rw h.0 (refused_to load refused m n h.1 h.2 h.3)
order_is m (Phased load) (Taken t) n h = rw (h.0, h.1, h.3, h.2)
order_is m Stop (Taken t) n h = rw (h.1, h.0)
order_is m Halt (Taken t) n h = rw (h.1, h.0)
order_is m o r n h = absurd h

pub orders_one : (m n k : MasterState) (o : Order) (r s : Reply) → TakesOrder m o r n → TakesOrder m o s k → (r ≡ s) × (n ≡ k)
orders_one m n k o r s h g =
    let e = sym (order_is m o r n h) ∙ order_is m o s k g in
    (ap (λ x. x.0) e, ap (λ x. x.1) e)

phased_right : (busy : Option (ℕ × ℕ)) (load : Load) (m : MasterState) → busy_with m ≡ busy → (r : Reply) × (n : MasterState) × TakesOrder m (Phased load) r n
phased_right (Some (p, t)) load m e = (Busy p t, m, (e, refl))
phased_right None Read m e = (Taken (m.target + 1), record m { target = m.target + 1; phased = true }, (e, refl, refl, refl))
phased_right None (Bad line rule) m e = (Refused (Bad line rule), m, (e, (λ f. cc), refl, refl))
phased_right None Absent m e = (Refused Absent, m, (e, (λ f. cc), refl, refl))
phased_right None Long m e = (Refused Long, m, (e, (λ f. cc), refl, refl))
phased_right None Failed m e = (Refused Failed, m, (e, (λ f. cc), refl, refl))

pub orders_some : (m : MasterState) (o : Order) → (r : Reply) × (n : MasterState) × TakesOrder m o r n
orders_some m (Phased load) = phased_right (busy_with m) load m refl
orders_some m Stop = (Taken m.target, record m { ending = behind_stop m.ending }, (refl, refl))
orders_some m Halt = (Taken m.target, record m { ending = behind_halt m.ending }, (refl, refl))

ended_first : (b c d : Bool) → c ≡ true → (b || c || d) ≡ true
ended_first true c d e = refl
ended_first false c d e = rw e

-- once stop or halt was ordered a phased order finds the master busy
pub ended_is_busy : (m : MasterState) → is_ended m.ending ≡ true → busy_with m ≡ Some (phase_before m, m.target)
ended_is_busy m e = rw (ended_first m.phased (is_ended m.ending) (m.target == last_phase) e)
