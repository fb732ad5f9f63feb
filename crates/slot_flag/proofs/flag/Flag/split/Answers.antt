use Rattle.std.proofs.Common.{arith}
use Rattle.slot_flag.proofs.RuleLemmas.{splits}
use Rattle.slot_flag.proofs.flag.Flag.split.Goals as goal

pub split_seat-requires : goal.split_seat-requires
split_seat-requires c =
    let s = c.requires.seat in (s.of, omega (arith, s.one_word), splits _ _ s.live c.requires.first)
