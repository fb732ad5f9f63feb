use Rattle.std.proofs.Common.{arith}
use Rattle.slot_flag.proofs.RuleLemmas.{raises}
use Rattle.slot_flag.proofs.flag.Flag.raise.Goals as goal

pub fetch_max-requires : goal.fetch_max-requires
fetch_max-requires c =
    let s = c.requires.seat in (s.of, omega (arith, s.one_word), raises _ _ _ _ s.live (omega (arith, c.requires.level)))
