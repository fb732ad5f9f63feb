use Rattle.std.proofs.Common.{arith, ap, ◌∙◌}
use Rattle.slot_flag.proofs.RuleLemmas.{joins, learns}
use Rattle.slot_flag.proofs.flag.Flag.join.Goals as goal

pub join_seat-requires : goal.join_seat-requires
join_seat-requires c =
    let s = c.requires.seat in
    let o = c.requires.other in
    (s.of, o.of, o.empty, omega (arith, s.one_word), joins _ _ _ _ s.live c.requires.first o.live)

pub load-requires : goal.load-requires
load-requires c =
    let s = c.requires.seat in
    let e = c.join_seat.ensures in
    (e.0 ∙ s.of, omega (arith, s.one_word), learns _ _ _ (ap (λ m. m.0.live) e.2 ∙ s.live))
