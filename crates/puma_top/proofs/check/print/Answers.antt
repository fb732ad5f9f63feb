use Rattle.std.proofs.Common.{arith, refl}
use Rattle.rack_outside.proofs.CallerLemmas.{rose_within}
use Rattle.puma_top.proofs.PrintLemmas.{took_more, front_is, front_less, same_told, within_more}
use Rattle.puma_top.proofs.check.print.Goals as goal

pub loop-from-preserved : goal.loop-from-preserved
loop-from-preserved g c =
    let i = c.loop-from.invariant in
    let text = c.args.text.now in
    let takes = c.in-Took.ensures.takes in
    record {
      within = within_more text _ c.loop-from.from c.in-Took.n i.within refl takes.1;
      wrote = took_more text _ c.loop-from.from c.in-Took.n _ _ i.within refl i.wrote takes.2;
      later = omega (arith, i.later, c.in-Took.ensures.later);
    }

pub returns-in-Failed : goal.returns-in-Failed
returns-in-Failed g c =
    let i = c.loop-from.invariant in
    let text = c.args.text.now in (
      rose_within (g.K.Sink.faults c.args.out.now) (g.K.Sink.faults c.loop-from.out) (g.K.Sink.faults c.write.new.self)
          (g.K.Sink.faults c.write.new.self) i.later c.in-Failed.ensures.failed (omega arith),
      front_less text c.loop-from.from _ (same_told text c.loop-from.from _ _ i.wrote c.in-Failed.ensures.takes) c.loop-from-test.true,
    )

pub returns-in-NoMemory : goal.returns-in-NoMemory
returns-in-NoMemory g c =
    let i = c.loop-from.invariant in
    let text = c.args.text.now in
    front_is text c.loop-from.from _ (same_told text c.loop-from.from _ _ i.wrote c.in-NoMemory.ensures.takes)
