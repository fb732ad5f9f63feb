-- The states that orders and steps lead to while neither stop nor halt is ordered.
use Rattle.std.proofs.Common.{◌≡◌, ℕ, zero, suc, ◌+◌, ◌≤◌, List, [], ◌∷◌, ◌++◌, Bool, true, false, Option, None, Some, refl, sym, ◌∙◌, ap, subst, arith, ◌⊎◌, inl, inr, append-nil}
use Rattle.std.specs.Prelude.{position, slice_get, slice_set, replicate, option_and_then}
use Rattle.std.specs.Option.{is_some}
use Rattle.std.specs.List.{list_any}
use Rattle.master_core.specs.declared.slot.Slot.{Slot}
use Rattle.master_core.specs.declared.slot.Slot.TheVariants.{Vacant, Serving, Draining}
use Rattle.master_core.specs.declared.order.Ending.TheVariants as ending
use Rattle.master_core.specs.declared.loader.Load.{Load}
use Rattle.master_core.specs.declared.order.Order.{Order}
use Rattle.master_core.specs.declared.order.Order.TheVariants.{Phased, Stop, Halt}
use Rattle.master_core.specs.declared.order.Reply.{Reply}
use Rattle.master_core.specs.declared.order.Reply.TheVariants.{Taken, Busy, Refused}
use Rattle.master_core.specs.declared.order.Act.{Act}
use Rattle.master_core.specs.declared.order.Act.TheVariants.{Rest, Drain, Start}
use Rattle.master_core.specs.Slots.{is_vacant, is_draining, is_below, phase_of}
use Rattle.master_core.specs.State.{MasterState, with_slot}
use Rattle.master_core.specs.Orders.{TakesOrder, is_ended}
use Rattle.master_core.specs.Steps.{MakesStep, MayBeGone, started}
use Rattle.master_core.specs.Runs.{Leads, LeadsBy, IsReachable, away, phase_at}
use Rattle.master_core.proofs.ShapeLemmas.{any_replicate, nowhere, first_at, any_at, slot_at, put_at, shift, none_drains, drains_only_at, none_away, one_away, below_next, not_below_own}
use Rattle.master_core.proofs.StepLemmas.{steps_one}
use Rattle.master_core.proofs.EndLemmas.{ended_orders, ended_steps, stop_ends, halt_ends}

-- n slots serve the target, and nothing is pending
abbrev pub at_rest : ℕ → ℕ → MasterState
at_rest n t = record { slots = replicate n (Serving t); target = t; phased = false; ending = ending.NotOrdered }

-- a slots serve phase p + 1, the next one is x, and b serve phase p
abbrev pub replaced : ℕ → Slot → ℕ → ℕ → List Slot
replaced a x b p = replicate a (Serving (suc p)) ++ x ∷ replicate b (Serving p)

-- these are the slots, and a phased order to phase p + 1 isn't done
abbrev pub at_work : List Slot → ℕ → MasterState
at_work slots p = record { slots = slots; target = suc p; phased = true; ending = ending.NotOrdered }

pub data Calm : MasterState → Type 0 where
  rests : (b t : ℕ) → Calm (at_rest (suc b) t)
  serves : (a b p : ℕ) → Calm (at_work (replaced a (Serving p) b p) p)
  drains : (a b p : ℕ) → Calm (at_work (replaced a (Draining p) b p) p)

pub step_rests : (n t : ℕ) → MakesStep (at_rest n t) None Rest (at_rest n t)
step_rests n t = refl

pub step_drains : (a b p : ℕ) → MakesStep (at_work (replaced a (Serving p) b p) p) None (Drain a) (at_work (replaced a (Draining p) b p) p)
step_drains a b p = (
  nowhere is_vacant a b (Serving (suc p)) (Serving p) (Serving p) refl refl refl,
  nowhere is_draining a b (Serving (suc p)) (Serving p) (Serving p) refl refl refl,
  first_at (is_below (suc p)) a (Serving (suc p)) (Serving p) _ (not_below_own (suc p)) (below_next p),
  (p, slot_at a (Serving (suc p)) (Serving p) _, ap (λ s. at_work s p) (sym (put_at a (Serving (suc p)) (Serving p) (Draining p) _))),
)

pub step_waits : (a b p : ℕ) → MakesStep (at_work (replaced a (Draining p) b p) p) None Rest (at_work (replaced a (Draining p) b p) p)
step_waits a b p = (
  nowhere is_vacant a b (Serving (suc p)) (Draining p) (Serving p) refl refl refl,
  inl (ap (λ o. is_some o) (first_at is_draining a (Serving (suc p)) (Draining p) _ refl refl)),
  refl,
)

-- these slots once one of them was started
abbrev behind_start : ℕ → List Slot → MasterState
behind_start p slots = record { slots = slots; target = suc p; phased = list_any (is_below (suc p)) slots; ending = ending.NotOrdered }

gone_is : (a b p : ℕ) → slice_set (replaced a (Draining p) b p) a Vacant ≡ replaced a Vacant b p
gone_is a b p = put_at a (Serving (suc p)) (Draining p) Vacant _

started_is : (a b p : ℕ) → started (with_slot (at_work (replaced a (Draining p) b p) p) a Vacant) a ≡ behind_start p (replicate (suc a) (Serving (suc p)) ++ replicate b (Serving p))
started_is a b p =
    let once = ap (λ s. slice_set s a (Serving (suc p))) (gone_is a b p) in
    let twice = put_at a (Serving (suc p)) Vacant (Serving (suc p)) (replicate b (Serving p)) in
    ap (behind_start p) (once ∙ twice ∙ shift a (Serving (suc p)) (replicate b (Serving p)))

vacant_is : (a b p : ℕ) → position is_vacant (slice_set (replaced a (Draining p) b p) a Vacant) ≡ Some a
vacant_is a b p = ap (position is_vacant) (gone_is a b p) ∙ first_at is_vacant a (Serving (suc p)) Vacant _ refl refl

last_is : (a p : ℕ) → behind_start p (replicate (suc a) (Serving (suc p)) ++ []) ≡ at_rest (suc a) (suc p)
last_is a p =
    let whole : replicate (suc a) (Serving (suc p)) ++ [] ≡ replicate (suc a) (Serving (suc p)) = append-nil (replicate (suc a) (Serving (suc p))) in
    let F : Bool → MasterState = λ (b : Bool). record { slots = replicate (suc a) (Serving (suc p)); target = suc p; phased = b; ending = ending.NotOrdered } in
    ap (behind_start p) whole ∙ ap F (any_replicate (is_below (suc p)) (suc a) (Serving (suc p)) (not_below_own (suc p)))

next_is : (a c p : ℕ) → behind_start p (replaced (suc a) (Serving p) c p) ≡ at_work (replaced (suc a) (Serving p) c p) p
next_is a c p =
    let F : Bool → MasterState = λ (b : Bool). record { slots = replaced (suc a) (Serving p) c p; target = suc p; phased = b; ending = ending.NotOrdered } in
    ap F (any_at (is_below (suc p)) (suc a) (Serving (suc p)) (Serving p) (replicate c (Serving p)) (not_below_own (suc p)) (below_next p))

pub step_starts_last : (a p : ℕ) → MakesStep (at_work (replaced a (Draining p) 0 p) p) (Some a) (Start a (suc p)) (at_rest (suc a) (suc p))
step_starts_last a p = (vacant_is a 0 p, refl, sym (started_is a 0 p ∙ last_is a p))

pub step_starts : (a c p : ℕ) → MakesStep (at_work (replaced a (Draining p) (suc c) p) p) (Some a) (Start a (suc p)) (at_work (replaced (suc a) (Serving p) c p) p)
step_starts a c p = (vacant_is a (suc c) p, refl, sym (started_is a (suc c) p ∙ next_is a c p))

calm_by : (m n k : MasterState) (gone : Option ℕ) (a b : Act) → MakesStep m gone a n → MakesStep m gone b k → Calm k → Calm n
calm_by m n k gone a b s w calm = subst Calm (sym (steps_one m n k gone a b s w).1) calm

calm_start : (a b p : ℕ) (act : Act) (n : MasterState) → MakesStep (at_work (replaced a (Draining p) b p) p) (Some a) act n → Calm n
calm_start a zero p act n s =
    calm_by (at_work (replaced a (Draining p) 0 p) p) n (at_rest (suc a) (suc p)) (Some a) act (Start a (suc p)) s (step_starts_last a p) (rests a (suc p))
calm_start a (suc c) p act n s =
    calm_by (at_work (replaced a (Draining p) (suc c) p) p) n (at_work (replaced (suc a) (Serving p) c p) p) (Some a) act (Start a (suc p)) s (step_starts a c p) (serves (suc a) c p)

-- a step leads from such a state to such a state
pub calm_step : (m n : MasterState) (gone : Option ℕ) (act : Act) → Calm m → MayBeGone m gone → MakesStep m gone act n → Calm n
calm_step m n None act (rests b t) may s =
    calm_by (at_rest (suc b) t) n (at_rest (suc b) t) None act Rest s (step_rests (suc b) t) (rests b t)
calm_step m n (Some i) act (rests b t) may s = absurd (none_drains (suc b) t i may.0 may.1)
calm_step m n None act (serves a b p) may s =
    calm_by (at_work (replaced a (Serving p) b p) p) n (at_work (replaced a (Draining p) b p) p) None act (Drain a) s (step_drains a b p) (drains a b p)
calm_step m n (Some i) act (serves a b p) may s =
    let only = drains_only_at a b (suc p) p i may.0 (Serving p) may.1 in absurd (cc)
calm_step m n None act (drains a b p) may s =
    calm_by (at_work (replaced a (Draining p) b p) p) n (at_work (replaced a (Draining p) b p) p) None act Rest s (step_waits a b p) (drains a b p)
calm_step m n (Some i) act (drains a b p) may s =
    let only = drains_only_at a b (suc p) p i may.0 (Draining p) may.1 in
    let Same : ℕ → Type 0 = λ (k : ℕ). MakesStep (at_work (replaced a (Draining p) b p) p) (Some k) act n in
    calm_start a b p act n (subst Same only.0 s)

-- what a phased order that is taken leads from and to
pub taken_from : (m n : MasterState) (load : Load) (target : ℕ) → Calm m → TakesOrder m (Phased load) (Taken target) n → (b t : ℕ) × (m ≡ at_rest (suc b) t) × (target ≡ suc t) × (n ≡ at_work (replaced 0 (Serving t) b t) t)
taken_from m n load target (rests b t) h =
    let rises : target ≡ suc t = omega (arith, h.2) in
    let F : ℕ → MasterState = λ (u : ℕ). record { slots = replicate (suc b) (Serving t); target = u; phased = true; ending = ending.NotOrdered } in
    (b, t, refl, rises, h.3 ∙ ap F rises)
taken_from m n load target (serves a b p) h = let e = h.0 in absurd (cc)
taken_from m n load target (drains a b p) h = let e = h.0 in absurd (cc)

-- nothing but such states is reached without stop and halt
abbrev pub Sound : MasterState → Type 0
Sound m = Calm m ⊎ (is_ended m.ending ≡ true)

sound_order : (m n : MasterState) (o : Order) (r : Reply) → Calm m → TakesOrder m o r n → Sound n
sound_order m n (Phased load) (Busy p t) calm h = inl (subst Calm (sym h.1) calm)
sound_order m n (Phased load) (Refused refused) calm h = inl (subst Calm (sym h.3) calm)
sound_order m n (Phased load) (Taken target) calm h =
    let (b, t, from, rises, to) = taken_from m n load target calm h in
    inl (subst Calm (sym to) (serves 0 b t))
sound_order m n Stop r calm h = inr (stop_ends m n r h)
sound_order m n Halt r calm h = inr (halt_ends m n r h)

sound_leads : (m n : MasterState) → Sound m → Leads m n → Sound n
sound_leads m n (inl calm) (inl (o, r, h)) = sound_order m n o r calm h
sound_leads m n (inl calm) (inr (gone, act, may, s)) = inl (calm_step m n gone act calm may s)
sound_leads m n (inr e) (inl (o, r, h)) = inr (ended_orders m n o r e h)
sound_leads m n (inr e) (inr (gone, act, may, s)) = inr (ended_steps m n gone act e s)

pub sound_leads_by : (count : ℕ) (m n : MasterState) → Sound m → LeadsBy count m n → Sound n
sound_leads_by zero m n sound e = subst Sound (sym e) sound
sound_leads_by (suc count) m n sound (between, before, last) = sound_leads between n (sound_leads_by count m between sound before) last

sound_from : (slots count : ℕ) (m : MasterState) → 1 ≤ slots → LeadsBy count (at_rest slots 0) m → Sound m
sound_from zero count m some by = absurd (omega arith)
sound_from (suc b) count m some by = sound_leads_by count _ m (inl (rests b 0)) by

pub reachable_sound : (m : MasterState) → IsReachable m → Sound m
reachable_sound m (slots, some, few, (count, by)) = sound_from slots count m some by

away_calm : (m : MasterState) → Calm m → away m ≤ 1
away_calm m (rests b t) = let none = none_away (suc b) t in omega arith
away_calm m (serves a b p) = one_away a b (suc p) p (Serving p)
away_calm m (drains a b p) = one_away a b (suc p) p (Draining p)

away_sound : (m : MasterState) → Sound m → m.ending ≡ ending.NotOrdered → away m ≤ 1
away_sound m (inl calm) e = away_calm m calm
away_sound m (inr ended) e = let f = ap is_ended e in absurd (cc)

pub at_most_one_away : (m : MasterState) → IsReachable m → m.ending ≡ ending.NotOrdered → away m ≤ 1
at_most_one_away m reachable e = away_sound m (reachable_sound m reachable) e

-- the phases of slots that serve, and of one among them
alike : (n t i q : ℕ) → option_and_then phase_of (slice_get (replicate n (Serving t)) i) ≡ Some q → q ≡ t
alike zero t i q e = absurd (cc)
alike (suc n) t zero q e = cc
alike (suc n) t (suc i) q e = alike n t i q e

one_apart : (a b p i q : ℕ) (x : Slot) → phase_of x ≡ Some p → option_and_then phase_of (slice_get (replaced a x b p) i) ≡ Some q → (q ≡ p) ⊎ (q ≡ suc p)
one_apart zero b p zero q x f e = inl (cc)
one_apart zero b p (suc i) q x f e = inl (alike b p i q e)
one_apart (suc a) b p zero q x f e = inr (cc)
one_apart (suc a) b p (suc i) q x f e = one_apart a b p i q x f e

-- a phase is near a target that is one above p
near_by : (p q : ℕ) → (q ≡ p) ⊎ (q ≡ suc p) → (q ≤ suc p) × (suc p ≤ q + 1)
near_by p q (inl e) = (omega arith, omega arith)
near_by p q (inr e) = (omega arith, omega arith)

near_calm : (m : MasterState) (i q : ℕ) → Calm m → phase_at m i ≡ Some q → (q ≤ m.target) × (m.target ≤ q + 1)
near_calm m i q (rests b t) e = let same = alike (suc b) t i q e in (omega arith, omega arith)
near_calm m i q (serves a b p) e = near_by p q (one_apart a b p i q (Serving p) refl e)
near_calm m i q (drains a b p) e = near_by p q (one_apart a b p i q (Draining p) refl e)

near_sound : (m : MasterState) (i q : ℕ) → Sound m → m.ending ≡ ending.NotOrdered → phase_at m i ≡ Some q → (q ≤ m.target) × (m.target ≤ q + 1)
near_sound m i q (inl calm) free e = near_calm m i q calm e
near_sound m i q (inr ended) free e = let f = ap is_ended free in absurd (cc)

-- each phase is the target or the one before it
pub phases_are_near : (m : MasterState) (i q : ℕ) → IsReachable m → m.ending ≡ ending.NotOrdered → phase_at m i ≡ Some q → (q ≤ m.target) × (m.target ≤ q + 1)
phases_are_near m i q reachable free e = near_sound m i q (reachable_sound m reachable) free e

drains_calm : (m : MasterState) (i q : ℕ) → Calm m → slice_get m.slots i ≡ Some (Draining q) → m.target ≡ q + 1
drains_calm m i q (rests b t) at = absurd (none_drains (suc b) t i q at)
drains_calm m i q (serves a b p) at = let only = drains_only_at a b (suc p) p i q (Serving p) at in absurd (cc)
drains_calm m i q (drains a b p) at =
    let only = drains_only_at a b (suc p) p i q (Draining p) at in
    let same : p ≡ q = cc in
    omega arith

drains_sound : (m : MasterState) (i q : ℕ) → Sound m → m.ending ≡ ending.NotOrdered → slice_get m.slots i ≡ Some (Draining q) → m.target ≡ q + 1
drains_sound m i q (inl calm) free at = drains_calm m i q calm at
drains_sound m i q (inr ended) free at = let f = ap is_ended free in absurd (cc)

-- the slot that drains for a phased order is of the phase before the target
pub draining_is_before : (m : MasterState) (i q : ℕ) → IsReachable m → m.ending ≡ ending.NotOrdered → slice_get m.slots i ≡ Some (Draining q) → m.target ≡ q + 1
draining_is_before m i q reachable free at = drains_sound m i q (reachable_sound m reachable) free at
