use Rattle.std.proofs.Common.{◌≡◌, Bool, position, slice_set, ◌∙◌, ap}
use Rattle.std.specs.Option.{is_some}
use Rattle.std.specs.List.{list_any}
use Rattle.master_core.specs.declared.slot.Slot.TheVariants.{Serving}
use Rattle.master_core.specs.Slots.{is_below}
use Rattle.master_core.specs.State.{MasterState}
use Rattle.master_core.proofs.SlotLemmas.{position_any}
use Rattle.master_core.proofs.master.Master.start.Goals as goal

pub invariant_of-self : goal.invariant_of-self
invariant_of-self c = (c.self.invariant.0, λ some. c.self.invariant.1 (ap (λ m. m.phased) c.self.view_is ∙ c.requires.phased))

pub returns-clause-starts : goal.returns-clause-starts
returns-clause-starts c =
    let own = c.self.inside in
    let slots = slice_set own.slots.items c.args.i (Serving own.target) in
    let some : c.is_some-self-inside.result ≡ list_any (is_below own.target) slots =
    c.is_some-self-inside.ensures ∙ ap (λ o. is_some o) c.first_below.ensures ∙ ap (λ xs. is_some (position (is_below own.target) xs)) c.deref.ensures.value ∙ position_any (is_below own.target) slots in
    let F : Bool → MasterState = λ (b : Bool). record { slots = slots; target = own.target; phased = b; ending = own.ending } in
    rw (← c.self.view_is) (ap F some)
