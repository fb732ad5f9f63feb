use Rattle.std.proofs.Common.{◌-◌, ◌≤◌, length, take}
use Rattle.rack_outside.specs.Link.{Tells}
use Rattle.puma_top.proofs.check.print.Given as goal

abbrev pub invariant-loop-from : goal.invariant-loop-from
invariant-loop-from g l = record {
  within : l.from ≤ length l.text;
  wrote : Tells (g.K.Sink.written l.out) (take l.from l.text);
  later : g.K.Sink.faults l.fn.out ≤ g.K.Sink.faults l.out;
}

abbrev pub decreases-loop-from : goal.decreases-loop-from
decreases-loop-from g l = length l.text - l.from
