use Rattle.std.proofs.Common.{refl, arith}
use Rattle.rack_types.proofs.PlainLemmas.{taken_piece}
use Rattle.rack_types.proofs.plain.PlainBody.next.Goals as goal

pub returns-then-self-len : goal.returns-then-self-len
returns-then-self-len c = record {
  pieces = rw (← c.self.view_is) (taken_piece c.self.inside.pieces.items c.self.inside.place (omega arith));
  raises = rw (← c.self.view_is) refl;
  kind = rw (← c.self.view_is) refl;
  sure = rw (← c.self.view_is) refl;
}
