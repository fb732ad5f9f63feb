-- What holds once stop or halt was ordered, and of Finish.
use Rattle.std.proofs.Common.{◌≡◌, ℕ, zero, suc, Bool, true, false, Option, None, Some, refl, sym, ◌∙◌, ap, subst, inl, inr}
use Rattle.master_core.specs.declared.order.Ending.{Ending}
use Rattle.master_core.specs.declared.order.Ending.TheVariants as ending
use Rattle.master_core.specs.declared.order.Order.{Order}
use Rattle.master_core.specs.declared.order.Order.TheVariants.{Phased, Stop, Halt}
use Rattle.master_core.specs.declared.order.Reply.{Reply}
use Rattle.master_core.specs.declared.order.Reply.TheVariants.{Taken, Busy, Refused}
use Rattle.master_core.specs.declared.order.Act.{Act}
use Rattle.master_core.specs.declared.order.Act.TheVariants.{Rest, Drain, Start, HaltAll, Finish}
use Rattle.master_core.specs.Slots.{is_vacant}
use Rattle.master_core.specs.State.{MasterState, EachSlot}
use Rattle.master_core.specs.Orders.{TakesOrder, is_ended, behind_stop, behind_halt}
use Rattle.master_core.specs.Steps.{MakesStep, Goes, without}
use Rattle.master_core.specs.Runs.{Leads, LeadsBy, LeadsTo}

stopped : (e : Ending) → is_ended (behind_stop e) ≡ true
stopped ending.NotOrdered = refl
stopped ending.Stop = refl
stopped ending.Halt = refl
stopped ending.Halted = refl

halted : (e : Ending) → is_ended (behind_halt e) ≡ true
halted ending.NotOrdered = refl
halted ending.Stop = refl
halted ending.Halt = refl
halted ending.Halted = refl

pub stop_ends : (m n : MasterState) (r : Reply) → TakesOrder m Stop r n → is_ended n.ending ≡ true
stop_ends m n (Taken t) h = ap (λ k. is_ended k.ending) h.1 ∙ stopped m.ending
stop_ends m n (Busy p t) h = absurd h
stop_ends m n (Refused load) h = absurd h

pub halt_ends : (m n : MasterState) (r : Reply) → TakesOrder m Halt r n → is_ended n.ending ≡ true
halt_ends m n (Taken t) h = ap (λ k. is_ended k.ending) h.1 ∙ halted m.ending
halt_ends m n (Busy p t) h = absurd h
halt_ends m n (Refused load) h = absurd h

pub ended_orders : (m n : MasterState) (o : Order) (r : Reply) → is_ended m.ending ≡ true → TakesOrder m o r n → is_ended n.ending ≡ true
ended_orders m n (Phased load) (Busy p t) e h = ap (λ k. is_ended k.ending) h.1 ∙ e
ended_orders m n (Phased load) (Refused refused) e h = ap (λ k. is_ended k.ending) h.3 ∙ e
ended_orders m n (Phased load) (Taken t) e h = ap (λ k. is_ended k.ending) h.3 ∙ e
ended_orders m n Stop r e h = stop_ends m n r h
ended_orders m n Halt r e h = halt_ends m n r h

ended_goes : (f : Ending) (phased : Bool) (a : Act) (m n : MasterState) → is_ended f ≡ true → is_ended m.ending ≡ true → Goes f phased a m n → is_ended n.ending ≡ true
ended_goes ending.NotOrdered phased a m n f e h = absurd (cc)
ended_goes ending.Stop phased (Drain i) m n f e h = ap (λ k. is_ended k.ending) h.1.2 ∙ e
ended_goes ending.Stop phased Finish m n f e h = ap (λ k. is_ended k.ending) h.1 ∙ e
ended_goes ending.Stop phased Rest m n f e h = ap (λ k. is_ended k.ending) h.2 ∙ e
ended_goes ending.Halt phased HaltAll m n f e h = ap (λ k. is_ended k.ending) h
ended_goes ending.Halted phased Finish m n f e h = ap (λ k. is_ended k.ending) h.1 ∙ e
ended_goes ending.Halted phased Rest m n f e h = ap (λ k. is_ended k.ending) h.1 ∙ e
ended_goes other phased a m n f e h = absurd h

without_ending : (m : MasterState) (gone : Option ℕ) → (without m gone).ending ≡ m.ending
without_ending m None = refl
without_ending m (Some i) = refl

pub ended_steps : (m n : MasterState) (gone : Option ℕ) (a : Act) → is_ended m.ending ≡ true → MakesStep m gone a n → is_ended n.ending ≡ true
ended_steps m n gone a e s = ended_goes m.ending m.phased a (without m gone) n e (ap is_ended (without_ending m gone) ∙ e) s

ended_leads : (m n : MasterState) → is_ended m.ending ≡ true → Leads m n → is_ended n.ending ≡ true
ended_leads m n e (inl (o, r, h)) = ended_orders m n o r e h
ended_leads m n e (inr (gone, act, may, s)) = ended_steps m n gone act e s

ended_leads_by : (count : ℕ) (m n : MasterState) → is_ended m.ending ≡ true → LeadsBy count m n → is_ended n.ending ≡ true
ended_leads_by zero m n e same = ap (λ k. is_ended k.ending) same ∙ e
ended_leads_by (suc count) m n e (between, before, last) = ended_leads between n (ended_leads_by count m between e before) last

no_start : (f : Ending) (phased : Bool) (i phase : ℕ) (m n : MasterState) → is_ended f ≡ true → Goes f phased (Start i phase) m n → ⊥
no_start ending.NotOrdered phased i phase m n e h = cc
no_start ending.Stop phased i phase m n e h = h
no_start ending.Halt phased i phase m n e h = h
no_start ending.Halted phased i phase m n e h = h

-- no slot is started any more
pub never_starts : (m n k : MasterState) (gone : Option ℕ) (i phase : ℕ) → is_ended m.ending ≡ true → LeadsTo m n → ¬ (MakesStep n gone (Start i phase) k)
never_starts m n k gone i phase e (count, by) s = no_start n.ending n.phased i phase (without n gone) k (ended_leads_by count m n e by) s

finish_vacant : (f : Ending) (phased : Bool) (m n : MasterState) → Goes f phased Finish m n → EachSlot is_vacant n × (is_ended f ≡ true)
finish_vacant ending.NotOrdered true m n h = absurd h
finish_vacant ending.NotOrdered false m n h = absurd h
finish_vacant ending.Stop phased m n h = (subst (EachSlot is_vacant) (sym h.1) h.0, refl)
finish_vacant ending.Halt phased m n h = absurd h
finish_vacant ending.Halted phased m n h = (subst (EachSlot is_vacant) (sym h.1) h.0, refl)

pub finishes : (m n : MasterState) (gone : Option ℕ) → MakesStep m gone Finish n → EachSlot is_vacant n × (is_ended m.ending ≡ true)
finishes m n gone s = finish_vacant m.ending m.phased (without m gone) n s

-- a halt that was carried out stays so
halted_orders : (m n : MasterState) (o : Order) (r : Reply) → m.ending ≡ ending.Halted → TakesOrder m o r n → n.ending ≡ ending.Halted
halted_orders m n (Phased load) (Busy p t) e h = ap (λ k. k.ending) h.1 ∙ e
halted_orders m n (Phased load) (Refused refused) e h = ap (λ k. k.ending) h.3 ∙ e
halted_orders m n (Phased load) (Taken t) e h = ap (λ k. k.ending) h.3 ∙ e
halted_orders m n Stop (Taken t) e h = ap (λ k. k.ending) h.1 ∙ ap behind_stop e
halted_orders m n Halt (Taken t) e h = ap (λ k. k.ending) h.1 ∙ ap behind_halt e
halted_orders m n o r e h = absurd h

halted_goes : (f : Ending) (phased : Bool) (a : Act) (m n : MasterState) → f ≡ ending.Halted → m.ending ≡ ending.Halted → Goes f phased a m n → n.ending ≡ ending.Halted
halted_goes ending.Halted phased Finish m n f e h = ap (λ k. k.ending) h.1 ∙ e
halted_goes ending.Halted phased Rest m n f e h = ap (λ k. k.ending) h.1 ∙ e
halted_goes ending.NotOrdered phased a m n f e h = absurd (cc)
halted_goes ending.Stop phased a m n f e h = absurd (cc)
halted_goes ending.Halt phased a m n f e h = absurd (cc)
halted_goes other phased a m n f e h = absurd h

halted_leads : (m n : MasterState) → m.ending ≡ ending.Halted → Leads m n → n.ending ≡ ending.Halted
halted_leads m n e (inl (o, r, h)) = halted_orders m n o r e h
halted_leads m n e (inr (gone, act, may, s)) = halted_goes m.ending m.phased act (without m gone) n e (without_ending m gone ∙ e) s

halted_leads_by : (count : ℕ) (m n : MasterState) → m.ending ≡ ending.Halted → LeadsBy count m n → n.ending ≡ ending.Halted
halted_leads_by zero m n e same = ap (λ k. k.ending) same ∙ e
halted_leads_by (suc count) m n e (between, before, last) = halted_leads between n (halted_leads_by count m between e before) last

halts_so : (f : Ending) (phased : Bool) (m n : MasterState) → Goes f phased HaltAll m n → n.ending ≡ ending.Halted
halts_so ending.NotOrdered true m n h = absurd h
halts_so ending.NotOrdered false m n h = absurd h
halts_so ending.Stop phased m n h = absurd h
halts_so ending.Halt phased m n h = ap (λ k. k.ending) h
halts_so ending.Halted phased m n h = absurd h

halts_no_more : (f : Ending) (phased : Bool) (m n : MasterState) → f ≡ ending.Halted → Goes f phased HaltAll m n → ⊥
halts_no_more ending.NotOrdered phased m n f h = cc
halts_no_more ending.Stop phased m n f h = h
halts_no_more ending.Halt phased m n f h = cc
halts_no_more ending.Halted phased m n f h = h

-- a halt is carried out once
pub halts_once : (m n k l : MasterState) (gone later : Option ℕ) → MakesStep m gone HaltAll n → LeadsTo n k → ¬ (MakesStep k later HaltAll l)
halts_once m n k l gone later s (count, by) again =
    halts_no_more k.ending k.phased (without k later) l (halted_leads_by count n k (halts_so m.ending m.phased (without m gone) n s) by) again
