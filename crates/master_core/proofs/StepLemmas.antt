-- Each step has one act.
use Rattle.std.proofs.Common.{◌≡◌, ℕ, Bool, true, false, Option, None, Some, refl, sym, ◌∙◌, ap, get_or, inl, inr, ◌⊎◌}
use Rattle.std.specs.Prelude.{position, slice_get, map, IsSome}
use Rattle.std.specs.Option.{is_some}
use Rattle.std.specs.List.{list_all}
use Rattle.std.proofs.lemmas.Option.{get_or_from_slice_get}
use Rattle.master_core.specs.Slots.{is_vacant, is_serving, is_draining, is_below, told}
use Rattle.master_core.specs.State.{MasterState, with_slot}
use Rattle.master_core.specs.Steps.{MakesStep, Goes, Drains, started, without, MayBeGone}
use Rattle.master_core.specs.declared.order.Ending.{Ending}
use Rattle.master_core.specs.declared.order.Ending.TheVariants as ending
use Rattle.master_core.specs.declared.order.Act.{Act}
use Rattle.master_core.specs.declared.order.Act.TheVariants.{Rest, Drain, Start, HaltAll, Finish}
use Rattle.master_core.specs.declared.slot.Slot.TheVariants.{Vacant, Serving}
use Rattle.master_core.proofs.SlotLemmas.{serving_there, below_there, draining_there, vacant_none_serves}

abbrev drained : MasterState → ℕ → MasterState
drained m i = with_slot m i (told (get_or m.slots i Vacant))

drains_is : (i : ℕ) (m n : MasterState) → Drains i m n → n ≡ drained m i
drains_is i m n d = d.2 ∙ ap (λ s. with_slot m i (told s)) (sym (get_or_from_slice_get m.slots i (Serving d.0) Vacant d.1))

drains_so : (i : ℕ) (m : MasterState) → (phase : ℕ) × (slice_get m.slots i ≡ Some (Serving phase)) → Drains i m (drained m i)
drains_so i m d = (d.0, d.1, ap (λ s. with_slot m i (told s)) (get_or_from_slice_get m.slots i (Serving d.0) Vacant d.1))

-- the act, and the master behind it, by the lowest slot that is vacant, that drains, and that is below the target
abbrev phased_to : Option ℕ → Option ℕ → Option ℕ → MasterState → Act × MasterState
phased_to (Some i) draining below m = (Start i m.target, started m i)
phased_to None (Some j) below m = (Rest, m)
phased_to None None (Some i) m = (Drain i, drained m i)
phased_to None None None m = (Rest, m)

abbrev halted_to : Bool → MasterState → Act × MasterState
halted_to true m = (Finish, m)
halted_to false m = (Rest, m)

-- by the lowest slot that serves, and whether all are vacant
abbrev stop_to : Option ℕ → Bool → MasterState → Act × MasterState
stop_to (Some i) all m = (Drain i, drained m i)
stop_to None all m = halted_to all m

abbrev goes_to : Ending → Bool → MasterState → Act × MasterState
goes_to ending.NotOrdered false m = (Rest, m)
goes_to ending.NotOrdered true m = phased_to (position is_vacant m.slots) (position is_draining m.slots) (position (is_below m.target) m.slots) m
goes_to ending.Stop phased m = stop_to (position is_serving m.slots) (list_all is_vacant m.slots) m
goes_to ending.Halt phased m = (HaltAll, record m { slots = map told m.slots; ending = ending.Halted })
goes_to ending.Halted phased m = halted_to (list_all is_vacant m.slots) m

waits_to : (draining below : Option ℕ) (m n : MasterState) → (IsSome draining ⊎ (below ≡ None)) → n ≡ m → phased_to None draining below m ≡ (Rest, n)
waits_to (Some j) below m n e f = rw f
waits_to None (Some i) m n (inl e) f = absurd (cc)
waits_to None (Some i) m n (inr e) f = absurd (cc)
waits_to None None m n e f = rw f

rests_to : (all : Bool) (m n : MasterState) → ¬ (all ≡ true) → n ≡ m → halted_to all m ≡ (Rest, n)
rests_to true m n f e = absurd (f refl)
rests_to false m n f e = rw e

goes_is : (e : Ending) (phased : Bool) (a : Act) (m n : MasterState) → Goes e phased a m n → goes_to e phased m ≡ (a, n)
goes_is ending.NotOrdered false Rest m n h = rw h
goes_is ending.NotOrdered true (Start i phase) m n h = rw (h.0, h.1, h.2)
goes_is ending.NotOrdered true (Drain i) m n h = rw (h.0, h.1, h.2, drains_is i m n h.3)
goes_is ending.NotOrdered true Rest m n h = rw h.0 (waits_to _ _ m n h.1 h.2)
goes_is ending.Stop phased (Drain i) m n h = rw (h.0, drains_is i m n h.1)
goes_is ending.Stop phased Finish m n h = rw (vacant_none_serves m.slots h.0, h.0, h.1)
goes_is ending.Stop phased Rest m n h = rw h.0 (rests_to _ m n h.1 h.2)
goes_is ending.Halt phased HaltAll m n h = rw h
goes_is ending.Halted phased Finish m n h = rw (h.0, h.1)
goes_is ending.Halted phased Rest m n h = rests_to _ m n h.0 h.1
goes_is e phased a m n h = absurd h

pub steps_one : (m n k : MasterState) (gone : Option ℕ) (a b : Act) → MakesStep m gone a n → MakesStep m gone b k → (a ≡ b) × (n ≡ k)
steps_one m n k gone a b h g =
    let e = sym (goes_is m.ending m.phased a (without m gone) n h) ∙ goes_is m.ending m.phased b (without m gone) k g in
    (ap (λ x. x.0) e, ap (λ x. x.1) e)

abbrev Some_act : Ending → Bool → MasterState → Type 0
Some_act e phased m = (a : Act) × (n : MasterState) × Goes e phased a m n

phased_right : (vacant draining below : Option ℕ) (m : MasterState) → position is_vacant m.slots ≡ vacant → position is_draining m.slots ≡ draining → position (is_below m.target) m.slots ≡ below → Some_act ending.NotOrdered true m
phased_right (Some i) draining below m e f g = (Start i m.target, started m i, (e, refl, refl))
phased_right None (Some j) below m e f g = (Rest, m, (e, inl (ap is_some f), refl))
phased_right None None (Some i) m e f g = (Drain i, drained m i, (e, f, g, drains_so i m (below_there m.target m.slots i f g)))
phased_right None None None m e f g = (Rest, m, (e, inr g, refl))

halted_right : (all : Bool) (phased : Bool) (m : MasterState) → list_all is_vacant m.slots ≡ all → Some_act ending.Halted phased m
halted_right true phased m e = (Finish, m, (e, refl))
halted_right false phased m e = (Rest, m, ((λ f. absurd (cc)), refl))

stop_right : (serving : Option ℕ) (all : Bool) (phased : Bool) (m : MasterState) → position is_serving m.slots ≡ serving → list_all is_vacant m.slots ≡ all → Some_act ending.Stop phased m
stop_right (Some i) all phased m e f = (Drain i, drained m i, (e, drains_so i m (serving_there m.slots i e)))
stop_right None true phased m e f = (Finish, m, (f, refl))
stop_right None false phased m e f = (Rest, m, (e, (λ g. absurd (cc)), refl))

goes_some : (e : Ending) (phased : Bool) (m : MasterState) → Some_act e phased m
goes_some ending.NotOrdered false m = (Rest, m, refl)
goes_some ending.NotOrdered true m = phased_right _ _ _ m refl refl refl
goes_some ending.Stop phased m = stop_right _ _ phased m refl refl
goes_some ending.Halt phased m = (HaltAll, record m { slots = map told m.slots; ending = ending.Halted }, refl)
goes_some ending.Halted phased m = halted_right _ phased m refl

pub steps_some : (m : MasterState) (gone : Option ℕ) → (a : Act) × (n : MasterState) × MakesStep m gone a n
steps_some m gone = goes_some m.ending m.phased (without m gone)

-- the lowest slot that drains may be gone
pub draining_may_be_gone : (m : MasterState) → MayBeGone m (position is_draining m.slots)
draining_may_be_gone m = may_be _ m refl
  where
    may_be : (o : Option ℕ) (m : MasterState) → position is_draining m.slots ≡ o → MayBeGone m o
    may_be None m e = tt
    may_be (Some i) m e = draining_there m.slots i e
