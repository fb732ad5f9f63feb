-- The phase of a slot never falls.
use Rattle.std.proofs.Common.{◌≡◌, ℕ, zero, suc, ◌+◌, ◌≤◌, List, [], ◌∷◌, Bool, true, false, Option, None, Some, refl, sym, ◌∙◌, ap, subst, arith, ◌⊎◌, inl, inr, map}
use Rattle.std.specs.Prelude.{slice_get, slice_set, replicate, option_and_then}
use Rattle.master_core.specs.declared.slot.Slot.{Slot}
use Rattle.master_core.specs.declared.slot.Slot.TheVariants.{Vacant, Serving, Draining}
use Rattle.master_core.specs.declared.order.Ending.{Ending}
use Rattle.master_core.specs.declared.order.Ending.TheVariants as ending
use Rattle.master_core.specs.declared.order.Order.{Order}
use Rattle.master_core.specs.declared.order.Order.TheVariants.{Phased, Stop, Halt}
use Rattle.master_core.specs.declared.order.Reply.{Reply}
use Rattle.master_core.specs.declared.order.Reply.TheVariants.{Taken, Busy, Refused}
use Rattle.master_core.specs.declared.order.Act.{Act}
use Rattle.master_core.specs.declared.order.Act.TheVariants.{Rest, Drain, Start, HaltAll, Finish}
use Rattle.master_core.specs.Slots.{phase_of, told}
use Rattle.master_core.specs.State.{MasterState, new_master}
use Rattle.master_core.specs.Orders.{TakesOrder}
use Rattle.master_core.specs.Steps.{MakesStep, Goes, Drains, started, without}
use Rattle.master_core.specs.Runs.{Leads, LeadsBy, LeadsTo, IsReachable, phase_at}

-- the phase at a place of a list of slots
abbrev pub phase_in : List Slot → ℕ → Option ℕ
phase_in slots i = option_and_then phase_of (slice_get slots i)

put_phase : (slots : List Slot) (j : ℕ) (s : Slot) (i q : ℕ) → phase_in (slice_set slots j s) i ≡ Some q → ((i ≡ j) × (phase_of s ≡ Some q)) ⊎ (phase_in slots i ≡ Some q)
put_phase [] j s i q e = inr e
put_phase (x ∷ xs) zero s zero q e = inl (refl, e)
put_phase (x ∷ xs) zero s (suc i) q e = inr e
put_phase (x ∷ xs) (suc j) s zero q e = inr e
put_phase (x ∷ xs) (suc j) s (suc i) q e = deeper (put_phase xs j s i q e)
  where
    deeper : ((i ≡ j) × (phase_of s ≡ Some q)) ⊎ (phase_in xs i ≡ Some q) → ((suc i ≡ suc j) × (phase_of s ≡ Some q)) ⊎ (phase_in xs i ≡ Some q)
    deeper (inl h) = inl (ap (λ k. suc k) h.0, h.1)
    deeper (inr h) = inr h

told_phase : (s : Slot) → phase_of (told s) ≡ phase_of s
told_phase Vacant = refl
told_phase (Serving p) = refl
told_phase (Draining p) = refl

told_phases : (slots : List Slot) (i : ℕ) → phase_in (map told slots) i ≡ phase_in slots i
told_phases [] i = refl
told_phases (x ∷ xs) zero = told_phase x
told_phases (x ∷ xs) (suc i) = told_phases xs i

-- each phase behind is the target, or was there before
pub record Moves (m n : MasterState) : Type 0 where
  pub risen : m.target ≤ n.target
  pub comes : (i q : ℕ) → phase_at n i ≡ Some q → (q ≡ n.target) ⊎ (phase_at m i ≡ Some q)

stays : (m : MasterState) → Moves m m
stays m = record { risen = omega arith; comes = λ i q e. inr e }

stays_as : (m n : MasterState) → n ≡ m → Moves m n
stays_as m n e = subst (Moves m) (sym e) (stays m)

vacates : (m : MasterState) (gone : Option ℕ) → (i q : ℕ) → phase_at (without m gone) i ≡ Some q → phase_at m i ≡ Some q
vacates m None i q e = e
vacates m (Some j) i q e = was (put_phase m.slots j Vacant i q e)
  where
    was : ((i ≡ j) × (None ≡ Some q)) ⊎ (phase_in m.slots i ≡ Some q) → phase_in m.slots i ≡ Some q
    was (inl h) = let f = h.1 in absurd (cc)
    was (inr h) = h

starts : (m : MasterState) (j : ℕ) → Moves m (started m j)
starts m j = record { risen = omega arith; comes = λ i q e. comes i q (put_phase m.slots j (Serving m.target) i q e) }
  where
    comes : (i q : ℕ) → ((i ≡ j) × (Some m.target ≡ Some q)) ⊎ (phase_in m.slots i ≡ Some q) → (q ≡ m.target) ⊎ (phase_in m.slots i ≡ Some q)
    comes i q (inl h) = let f = h.1 in inl (cc)
    comes i q (inr h) = inr h

drains : (m : MasterState) (j p : ℕ) → slice_get m.slots j ≡ Some (Serving p) → Moves m (record m { slots = slice_set m.slots j (Draining p) })
drains m j p at = record { risen = omega arith; comes = λ i q e. inr (was i q (put_phase m.slots j (Draining p) i q e)) }
  where
    was : (i q : ℕ) → ((i ≡ j) × (Some p ≡ Some q)) ⊎ (phase_in m.slots i ≡ Some q) → phase_in m.slots i ≡ Some q
    was i q (inl h) = ap (phase_in m.slots) h.0 ∙ ap (option_and_then phase_of) at ∙ h.1
    was i q (inr h) = h

drains_as : (m n : MasterState) (j : ℕ) → Drains j m n → Moves m n
drains_as m n j d = subst (Moves m) (sym d.2) (drains m j d.0 d.1)

halts : (m : MasterState) → Moves m (record m { slots = map told m.slots; ending = ending.Halted })
halts m = record { risen = omega arith; comes = λ i q e. inr (sym (told_phases m.slots i) ∙ e) }

goes_moves : (f : Ending) (phased : Bool) (a : Act) (m n : MasterState) → Goes f phased a m n → Moves m n
goes_moves ending.NotOrdered false Rest m n h = stays_as m n h
goes_moves ending.NotOrdered true (Start i phase) m n h = subst (Moves m) (sym h.2) (starts m i)
goes_moves ending.NotOrdered true (Drain i) m n h = drains_as m n i h.3
goes_moves ending.NotOrdered true Rest m n h = stays_as m n h.2
goes_moves ending.Stop phased (Drain i) m n h = drains_as m n i h.1
goes_moves ending.Stop phased Finish m n h = stays_as m n h.1
goes_moves ending.Stop phased Rest m n h = stays_as m n h.2
goes_moves ending.Halt phased HaltAll m n h = subst (Moves m) (sym h) (halts m)
goes_moves ending.Halted phased Finish m n h = stays_as m n h.1
goes_moves ending.Halted phased Rest m n h = stays_as m n h.1
goes_moves f phased a m n h = absurd h

without_target : (m : MasterState) (gone : Option ℕ) → (without m gone).target ≡ m.target
without_target m None = refl
without_target m (Some i) = refl

pub steps_move : (m n : MasterState) (gone : Option ℕ) (a : Act) → MakesStep m gone a n → Moves m n
steps_move m n gone a s =
    let moves = goes_moves m.ending m.phased a (without m gone) n s in
    let same = without_target m gone in
    record { risen = omega (arith, moves.risen, same); comes = λ i q e. further i q (moves.comes i q e) }
  where
    further : (i q : ℕ) → (q ≡ n.target) ⊎ (phase_at (without m gone) i ≡ Some q) → (q ≡ n.target) ⊎ (phase_at m i ≡ Some q)
    further i q (inl h) = inl h
    further i q (inr h) = inr (vacates m gone i q h)

taken_moves : (m : MasterState) (t : ℕ) → t ≡ m.target + 1 → Moves m (record m { target = t; phased = true })
taken_moves m t e = record { risen = omega arith; comes = λ i q f. inr f }

pub orders_move : (m n : MasterState) (o : Order) (r : Reply) → TakesOrder m o r n → Moves m n
orders_move m n (Phased load) (Busy p t) h = stays_as m n h.1
orders_move m n (Phased load) (Refused refused) h = stays_as m n h.3
orders_move m n (Phased load) (Taken t) h = subst (Moves m) (sym h.3) (taken_moves m t h.2)
orders_move m n Stop (Taken t) h = subst (Moves m) (sym h.1) (record { risen = omega arith; comes = λ i q f. inr f })
orders_move m n Halt (Taken t) h = subst (Moves m) (sym h.1) (record { risen = omega arith; comes = λ i q f. inr f })
orders_move m n o r h = absurd h

leads_move : (m n : MasterState) → Leads m n → Moves m n
leads_move m n (inl (o, r, h)) = orders_move m n o r h
leads_move m n (inr (gone, act, may, s)) = steps_move m n gone act s

-- slot i doesn't stand below phase p, nor does the target
record NotBelow (i p : ℕ) (m : MasterState) : Type 0 where
  target : p ≤ m.target
  slot : (q : ℕ) → phase_at m i ≡ Some q → p ≤ q

not_below_moves : (i p : ℕ) (m n : MasterState) → NotBelow i p m → Moves m n → NotBelow i p n
not_below_moves i p m n keeps moves =
    let risen = moves.risen in
    let before = keeps.target in
    record { target = omega arith; slot = λ q e. above q (moves.comes i q e) }
  where
    above : (q : ℕ) → (q ≡ n.target) ⊎ (phase_at m i ≡ Some q) → p ≤ q
    above q (inl h) = let risen = moves.risen in let before = keeps.target in omega arith
    above q (inr h) = keeps.slot q h

not_below_by : (i p count : ℕ) (m n : MasterState) → NotBelow i p m → LeadsBy count m n → NotBelow i p n
not_below_by i p zero m n keeps e = subst (NotBelow i p) (sym e) keeps
not_below_by i p (suc count) m n keeps (between, before, last) =
    not_below_moves i p between n (not_below_by i p count m between keeps before) (leads_move between n last)

-- no slot stands above the target
abbrev pub AtMost : MasterState → Type 0
AtMost m = (i q : ℕ) → phase_at m i ≡ Some q → q ≤ m.target

at_most_moves : (m n : MasterState) → AtMost m → Moves m n → AtMost n
at_most_moves m n most moves i q e = within (moves.comes i q e)
  where
    within : (q ≡ n.target) ⊎ (phase_at m i ≡ Some q) → q ≤ n.target
    within (inl h) = omega arith
    within (inr h) = let risen = moves.risen in let before = most i q h in omega arith

at_most_by : (count : ℕ) (m n : MasterState) → AtMost m → LeadsBy count m n → AtMost n
at_most_by zero m n most e = subst AtMost (sym e) most
at_most_by (suc count) m n most (between, before, last) =
    at_most_moves between n (at_most_by count m between most before) (leads_move between n last)

first_phases : (slots i q : ℕ) → phase_in (replicate slots (Serving 0)) i ≡ Some q → q ≤ 0
first_phases zero i q e = absurd (cc)
first_phases (suc n) zero q e = let same : 0 ≡ q = cc in omega arith
first_phases (suc n) (suc i) q e = first_phases n i q e

pub reachable_at_most : (m : MasterState) → IsReachable m → AtMost m
reachable_at_most m (slots, some, few, (count, by)) = at_most_by count (new_master slots) m (first_phases slots) by

pub never_falls : (m n : MasterState) (i p q : ℕ) → IsReachable m → LeadsTo m n → phase_at m i ≡ Some p → phase_at n i ≡ Some q → p ≤ q
never_falls m n i p q reachable (count, by) was is =
    (not_below_by i p count m n (record { target = reachable_at_most m reachable i p was; slot = λ r e. let same : p ≡ r = cc in omega arith }) by).slot q is
