use Rattle.stack_file.proofs.LineText.{finished}
use Rattle.stack_file.proofs.writing.+write.Goals as goal

pub write_block-returns : goal.write_block-returns
write_block-returns t c =
    finished c.loop-line.out.items c.args.out.now.items c.args.steps.now c.loop-line.line-index c.args.margin.now (rw c.deref-line-items.ensures.value at c.loop-line-test.false) c.loop-line.invariant
