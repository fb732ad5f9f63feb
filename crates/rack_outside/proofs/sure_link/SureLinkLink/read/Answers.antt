use Rattle.std.proofs.Common.{◌≡◌, length, take, drop, ap, arith}
use Rattle.std.proofs.lemmas.Grind.{common_steps}
use Rattle.rack_outside.proofs.LinkLemmas.{gave_next}
use Rattle.rack_outside.proofs.sure_link.SureLinkLink.read.Goals as goal

pub returns-then-left-gt0-clause-reads : goal.returns-then-left-gt0-clause-reads
returns-then-left-gt0-clause-reads c =
    let l = c.self.inside in
    let n = c.min-n.result in
    let copied : c.copy_from_slice.new.self ≡ take n (drop l.read l.text.items) = grind (arith, common_steps) in
    let held : length c.deref.result.now ≡ length l.text.items = ap length c.deref.ensures.value in
    let next = gave_next l.text.items c.args.room.now c.copy_from_slice.new.self l.read n (omega (arith, held)) copied in
    rw (← c.self.view_is) (grind (arith, common_steps, next))
