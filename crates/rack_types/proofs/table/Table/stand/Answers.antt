use Rattle.std.proofs.Common.{arith}
use Rattle.rack_types.proofs.table.Table.stand.Goals as goal

pub overflow_add-self : goal.overflow_add-self
overflow_add-self c = omega (arith, c.if-i-self.true, c.requires.within, c.len-entries.ensures.len, c.len-entries.ensures.small)
