use Rattle.std.proofs.Common.{◌≡◌, Some, None, position, refl, sym, ap, inr}
use Rattle.master_core.specs.Slots.{is_vacant, is_draining, is_below}
use Rattle.master_core.proofs.SlotLemmas.{below_there, is_none}
use Rattle.master_core.proofs.master.Master.replace.Goals as goal

pub drain-requires : goal.drain-requires
drain-requires c =
    let now = c.args.self.now in
    let slots = ap (λ m. m.slots) c.self.view_is in
    let target = ap (λ m. m.target) c.self.view_is in
    let none = is_none c.first_draining.result (sym c.if-is_some.ensures) in
    let drains : position is_draining now.slots ≡ None = cc in
    let below : position (is_below now.target) now.slots ≡ Some c.in-Some-first_below.i = cc in
    below_there now.target now.slots _ drains below

pub returns-in-Some-first_below : goal.returns-in-Some-first_below
returns-in-Some-first_below c =
    let now = c.args.self.now in
    let slots = ap (λ m. m.slots) c.self.view_is in
    let target = ap (λ m. m.target) c.self.view_is in
    let none = is_none c.first_draining.result (sym c.if-is_some.ensures) in
    let vacant : position is_vacant now.slots ≡ None = cc in
    let drains : position is_draining now.slots ≡ None = cc in
    let below : position (is_below now.target) now.slots ≡ Some c.in-Some-first_below.i = cc in
    rw c.drain.ensures.act (vacant, drains, below, c.drain.ensures.drains)

pub returns-in-None : goal.returns-in-None
returns-in-None c =
    let now = c.args.self.now in
    let slots = ap (λ m. m.slots) c.self.view_is in
    let target = ap (λ m. m.target) c.self.view_is in
    let vacant : position is_vacant now.slots ≡ None = cc in
    let below : position (is_below now.target) now.slots ≡ None = cc in
    (vacant, inr below, refl)
