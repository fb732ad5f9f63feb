use Rattle.std.proofs.Common.{◌≡◌, ◌++◌, map, take, drop}
use Rattle.master_core.specs.Slots.{told}
use Rattle.master_core.proofs.slot.tell_all.Given as goal

-- the slots before i were told, and the others are as they were
abbrev pub invariant-loop-i : goal.invariant-loop-i
invariant-loop-i l = l.slots ≡ map told (take l.i l.initial.slots) ++ drop l.i l.initial.slots
