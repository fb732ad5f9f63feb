use Rattle.std.proofs.Common.{arith, refl}
use Rattle.message_framing.proofs.ReaderLemmas.{at_place}
use Rattle.message_framing.proofs.DataLemmas.{return_taken, return_missing}
use Rattle.message_framing.proofs.chunks.Chunks.read_return.Goals as goal

pub returns-then-piece-ne13 : goal.returns-then-piece-ne13
returns-then-piece-ne13 c = λ b fed.
    return_missing c.args.self.now b c.args.piece.now (at_place _ _ b c.requires.place fed) c.requires.some c.if-piece-ne13.true

pub returns : goal.returns
returns c = (
  omega arith,
  omega (arith, c.requires.some),
  λ b fed. return_taken c.args.self.now _ b c.args.piece.now (at_place _ _ b c.requires.place fed) c.requires.some c.if-piece-ne13.false refl refl,
)
