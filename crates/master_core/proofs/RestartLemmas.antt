-- A phased order comes to its end.
use Rattle.std.proofs.Common.{◌≡◌, ℕ, zero, suc, ◌+◌, ◌*◌, ◌<◌, ◌≤◌, length, true, false, Option, None, Some, refl, sym, ◌∙◌, ap, subst, arith, ◌⊎◌, inl, inr}
use Rattle.std.proofs.lemmas.List.{length-replicate}
use Rattle.std.specs.Prelude.{position, replicate}
use Rattle.master_core.specs.declared.slot.Slot.TheVariants.{Serving, Draining}
use Rattle.master_core.specs.declared.order.Ending.TheVariants as ending
use Rattle.master_core.specs.declared.loader.Load.TheVariants.{Read}
use Rattle.master_core.specs.declared.order.Order.TheVariants.{Phased}
use Rattle.master_core.specs.declared.order.Reply.TheVariants.{Taken}
use Rattle.master_core.specs.declared.order.Act.{Act}
use Rattle.master_core.specs.declared.order.Act.TheVariants.{Rest, Drain, Start}
use Rattle.master_core.specs.Slots.{is_draining}
use Rattle.master_core.specs.State.{MasterState}
use Rattle.master_core.specs.Orders.{TakesOrder}
use Rattle.master_core.specs.Steps.{MakesStep}
use Rattle.master_core.specs.Runs.{IsReachable, StepsBy}
use Rattle.master_core.proofs.SlotLemmas.{none_where_not_any}
use Rattle.master_core.proofs.ShapeLemmas.{nowhere, first_at, any_replicate}
use Rattle.master_core.proofs.OrderLemmas.{ended_is_busy}
use Rattle.master_core.proofs.StepLemmas.{steps_one, steps_some}
use Rattle.master_core.proofs.CalmLemmas.{Sound, at_rest, at_work, replaced, step_rests, step_drains, step_starts_last, step_starts, taken_from, reachable_sound}

pub goes_on : (m : MasterState) (count : ℕ) → (n : MasterState) × StepsBy count m n
goes_on m zero = (m, refl)
goes_on m (suc count) =
    let (between, before) = goes_on m count in
    let (act, n, s) = steps_some between (position is_draining between.slots) in
    (n, (between, act, before, s))

-- where the slots stand behind j steps of a restart of so many slots from phase p
record Serves (total p j : ℕ) (m : MasterState) : Type 0 where
  done : ℕ
  left : ℕ
  steps : j ≡ done + done
  all : done + suc left ≡ total
  is : m ≡ at_work (replaced done (Serving p) left p) p

record Drains (total p j : ℕ) (m : MasterState) : Type 0 where
  done : ℕ
  left : ℕ
  steps : j ≡ suc (done + done)
  all : done + suc left ≡ total
  is : m ≡ at_work (replaced done (Draining p) left p) p

record Rests (total p j : ℕ) (m : MasterState) : Type 0 where
  steps : total + total ≤ j
  is : m ≡ at_rest total (suc p)

abbrev Stands : ℕ → ℕ → ℕ → MasterState → Type 0
Stands total p j m = Serves total p j m ⊎ (Drains total p j m ⊎ Rests total p j m)

-- one step of the run, from a state that is known
abbrev StepsOn : MasterState → Act → MasterState → Type 0
StepsOn m act n = MakesStep m (position is_draining m.slots) act n

-- what is known of that step
lands : (m from n to : MasterState) (gone : Option ℕ) (act wanted : Act) → m ≡ from → position is_draining from.slots ≡ gone → MakesStep from gone wanted to → StepsOn m act n → n ≡ to
lands m from n to gone act wanted same lowest right s =
    let F : MasterState → Type 0 = λ (k : MasterState). StepsOn k act n in
    let G : Option ℕ → Type 0 = λ (o : Option ℕ). MakesStep from o act n in
    (steps_one from n to gone act wanted (subst G lowest (subst F same s)) right).1

rest_drains : (n t : ℕ) → position is_draining (replicate n (Serving t)) ≡ None
rest_drains n t = none_where_not_any is_draining _ (any_replicate is_draining n (Serving t) refl)

start_last : (total p j done : ℕ) (m n : MasterState) (act : Act) → j ≡ suc (done + done) → done + 1 ≡ total → m ≡ at_work (replaced done (Draining p) 0 p) p → StepsOn m act n → Rests total p (suc j) n
start_last total p j done m n act steps all is s =
    let lowest = first_at is_draining done (Serving (suc p)) (Draining p) _ refl refl in
    let to = lands m (at_work (replaced done (Draining p) 0 p) p) n (at_rest (suc done) (suc p)) (Some done) act (Start done (suc p)) is lowest (step_starts_last done p) s in
    let whole : suc done ≡ total = omega arith in
    record { steps = omega arith; is = to ∙ ap (λ k. at_rest k (suc p)) whole }

start_next : (total p j done left : ℕ) (m n : MasterState) (act : Act) → j ≡ suc (done + done) → done + suc (suc left) ≡ total → m ≡ at_work (replaced done (Draining p) (suc left) p) p → StepsOn m act n → Serves total p (suc j) n
start_next total p j done left m n act steps all is s =
    let lowest = first_at is_draining done (Serving (suc p)) (Draining p) _ refl refl in
    let to = lands m (at_work (replaced done (Draining p) (suc left) p) p) n (at_work (replaced (suc done) (Serving p) left p) p) (Some done) act (Start done (suc p)) is lowest (step_starts done left p) s in
    record { done = suc done; left = left; steps = omega arith; all = omega arith; is = to }

start : (total p j done left : ℕ) (m n : MasterState) (act : Act) → j ≡ suc (done + done) → done + suc left ≡ total → m ≡ at_work (replaced done (Draining p) left p) p → StepsOn m act n → Stands total p (suc j) n
start total p j done zero m n act steps all is s = inr (inr (start_last total p j done m n act steps all is s))
start total p j done (suc left) m n act steps all is s = inl (start_next total p j done left m n act steps all is s)

one_step : (total p j : ℕ) (m n : MasterState) (act : Act) → Stands total p j m → StepsOn m act n → Stands total p (suc j) n
one_step total p j m n act (inl at) s =
    let lowest = nowhere is_draining at.done at.left (Serving (suc p)) (Serving p) (Serving p) refl refl refl in
    let to = lands m (at_work (replaced at.done (Serving p) at.left p) p) n (at_work (replaced at.done (Draining p) at.left p) p) None act (Drain at.done) at.is lowest (step_drains at.done at.left p) s in
    inr (inl (record { done = at.done; left = at.left; steps = ap (λ k. suc k) at.steps; all = at.all; is = to }))
one_step total p j m n act (inr (inl at)) s = start total p j at.done at.left m n act at.steps at.all at.is s
one_step total p j m n act (inr (inr at)) s =
    let to : n ≡ at_rest total (suc p) = lands m (at_rest total (suc p)) n (at_rest total (suc p)) None act Rest at.is (rest_drains total (suc p)) (step_rests total (suc p)) s in
    let steps = at.steps in
    inr (inr (record { steps = omega arith; is = to }))

stands : (b p j : ℕ) (m n : MasterState) → m ≡ at_work (replaced 0 (Serving p) b p) p → StepsBy j m n → Stands (suc b) p j n
stands b p zero m n from same = inl (record { done = 0; left = b; steps = refl; all = omega arith; is = same ∙ from })
stands b p (suc j) m n from (between, act, before, s) = one_step (suc b) p j between n act (stands b p j m between from before) s

pends : (total p j : ℕ) (m : MasterState) → j < total + total → Stands total p j m → m.phased ≡ true
pends total p j m few (inl at) = ap (λ k. k.phased) at.is
pends total p j m few (inr (inl at)) = ap (λ k. k.phased) at.is
pends total p j m few (inr (inr at)) = let steps = at.steps in absurd (omega arith)

ends : (total p : ℕ) (m : MasterState) → Stands total p (total + total) m → m ≡ at_rest total (suc p)
ends total p m (inl at) = let steps = at.steps in let all = at.all in absurd (omega arith)
ends total p m (inr (inl at)) = let steps = at.steps in let all = at.all in absurd (omega arith)
ends total p m (inr (inr at)) = at.is

-- what the order was taken from and led to
record Taken_from (m n : MasterState) (target : ℕ) : Type 0 where
  back : ℕ
  phase : ℕ
  was : m ≡ at_rest (suc back) phase
  rises : target ≡ suc phase
  is : n ≡ at_work (replaced 0 (Serving phase) back phase) phase

taken_sound : (m n : MasterState) (target : ℕ) → Sound m → TakesOrder m (Phased Read) (Taken target) n → Taken_from m n target
taken_sound m n target (inl calm) h =
    let (b, t, was, rises, is) = taken_from m n Read target calm h in
    record { back = b; phase = t; was = was; rises = rises; is = is }
taken_sound m n target (inr e) h = let busy = ended_is_busy m e in let free = h.0 in absurd (cc)

pub stays_pending : (m n k : MasterState) (target count : ℕ) → IsReachable m → TakesOrder m (Phased Read) (Taken target) n → StepsBy count n k → count < 2 * length m.slots → k.phased ≡ true
stays_pending m n k target count reachable h goes few =
    let from = taken_sound m n target (reachable_sound m reachable) h in
    let size : length m.slots ≡ suc from.back = ap (λ x. length x.slots) from.was ∙ length-replicate (suc from.back) (Serving from.phase) in
    let few_steps : count < suc from.back + suc from.back = omega arith in
    pends (suc from.back) from.phase count k few_steps (stands from.back from.phase count n k from.is goes)

pub comes_to_its_end : (m n k : MasterState) (target : ℕ) → IsReachable m → TakesOrder m (Phased Read) (Taken target) n → StepsBy (2 * length m.slots) n k → k ≡ record m { slots = replicate (length m.slots) (Serving target); target = target }
comes_to_its_end m n k target reachable h goes =
    let from = taken_sound m n target (reachable_sound m reachable) h in
    let size : length m.slots ≡ suc from.back = ap (λ x. length x.slots) from.was ∙ length-replicate (suc from.back) (Serving from.phase) in
    let steps : 2 * length m.slots ≡ suc from.back + suc from.back = omega arith in
    let Goes_by : ℕ → Type 0 = λ (j : ℕ). StepsBy j n k in
    let end = ends (suc from.back) from.phase k (stands from.back from.phase _ n k from.is (subst Goes_by steps goes)) in
    let F : ℕ → ℕ → MasterState = λ (size : ℕ) (t : ℕ). record { slots = replicate size (Serving t); target = t; phased = false; ending = ending.NotOrdered } in
    let same : F (suc from.back) (suc from.phase) ≡ F (length m.slots) target = cc in
    let R : MasterState → MasterState = λ (x : MasterState). record x { slots = replicate (length m.slots) (Serving target); target = target } in
    end ∙ same ∙ sym (ap R from.was)
