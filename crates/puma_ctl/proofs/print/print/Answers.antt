use Rattle.std.proofs.Common.{arith}
use Rattle.rack_outside.proofs.CallerLemmas.{rose_within}
use Rattle.puma_ctl.proofs.TalkLemmas.{writing_first, writing_took, writing_less, writing_all}
use Rattle.puma_ctl.proofs.print.print.Goals as goal

pub loop-from-init : goal.loop-from-init
loop-from-init g c = writing_first c.args.text.now _

pub loop-from-preserved : goal.loop-from-preserved
loop-from-preserved g c =
    writing_took c.args.text.now c.suffix.result.now c.loop-from.from c.in-Took.n _ _ _ c.loop-from.invariant c.suffix.ensures
    c.in-Took.ensures.takes.1 c.in-Took.ensures.takes.2 c.in-Took.ensures.later

pub returns-in-Failed : goal.returns-in-Failed
returns-in-Failed g c = (
  writing_less c.args.text.now c.loop-from.from _ _ _ c.loop-from.invariant c.loop-from-test.true c.in-Failed.ensures.takes,
  rose_within (g.K.Sink.faults c.args.out.now) (g.K.Sink.faults c.loop-from.out) (g.K.Sink.faults c.write.new.self)
      (g.K.Sink.faults c.write.new.self) c.loop-from.invariant.later c.in-Failed.ensures.failed (omega arith),
)

pub returns-in-NoMemory : goal.returns-in-NoMemory
returns-in-NoMemory g c = writing_less c.args.text.now c.loop-from.from _ _ _ c.loop-from.invariant c.loop-from-test.true c.in-NoMemory.ensures.takes

pub returns : goal.returns
returns g c = (writing_all c.args.text.now c.loop-from.from _ _ c.loop-from.invariant c.loop-from-test.false, c.loop-from.invariant.later)
