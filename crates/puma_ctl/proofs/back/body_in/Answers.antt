use Rattle.std.proofs.Common.{arith}
use Rattle.puma_ctl.proofs.HeadLemmas.{within_inside}
use Rattle.puma_ctl.proofs.back.body_in.Goals as goal

pub overflow_sub-bytes : goal.overflow_sub-bytes
overflow_sub-bytes c = (within_inside c.args.bytes.now c.args.start c.requires.ends).0

pub returns-else-bytes-start : goal.returns-else-bytes-start
returns-else-bytes-start c = (c.requires, omega (arith, c.if-bytes-start.false, (within_inside c.args.bytes.now c.args.start c.requires.ends).0))
