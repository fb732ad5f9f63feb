use Rattle.std.proofs.Common.{◌-◌, length}
use Rattle.puma_ctl.specs.Order.{out_seen}
use Rattle.puma_ctl.proofs.TalkLemmas.{IsWriting}
use Rattle.puma_ctl.proofs.print.print.Given as goal

abbrev pub invariant-loop-from : goal.invariant-loop-from
invariant-loop-from g l = IsWriting l.text l.from (out_seen g.K.Sink.written g.K.Sink.faults l.fn.out) (out_seen g.K.Sink.written g.K.Sink.faults l.out)

abbrev pub decreases-loop-from : goal.decreases-loop-from
decreases-loop-from g l = length l.text - l.from
