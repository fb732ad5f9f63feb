use Rattle.std.proofs.Common.{arith}
use Rattle.slot_flag.proofs.RuleLemmas.{looks}
use Rattle.slot_flag.proofs.flag.Flag.look.Goals as goal

pub load-requires : goal.load-requires
load-requires c = let s = c.requires.seat in (s.of, omega (arith, s.one_word), looks _ _ _ s.live)
