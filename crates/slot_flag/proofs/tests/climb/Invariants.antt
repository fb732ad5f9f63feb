use Rattle.slot_flag.specs.Seat.{IsSeatOf}
use Rattle.slot_flag.proofs.tests.climb.Given as goal

abbrev pub invariant-loop : goal.invariant-loop
invariant-loop l = IsSeatOf l.flag l.seat
