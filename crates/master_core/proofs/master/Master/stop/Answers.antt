use Rattle.std.proofs.Common.{◌≡◌, Some, position}
use Rattle.master_core.specs.Slots.{is_serving}
use Rattle.master_core.proofs.SlotLemmas.{serving_there}
use Rattle.master_core.proofs.master.Master.stop.Goals as goal

pub drain-requires : goal.drain-requires
drain-requires c =
    let e : position is_serving c.args.self.now.slots ≡ Some c.in-Some.i =
    rw (← c.self.view_is, ← c.deref.ensures.value, ← c.first_serving.ensures) c.in-Some.is in
    serving_there _ _ e
