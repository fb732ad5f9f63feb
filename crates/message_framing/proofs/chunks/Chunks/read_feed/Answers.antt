use Rattle.std.proofs.Common.{arith, refl}
use Rattle.message_framing.proofs.ReaderLemmas.{at_place}
use Rattle.message_framing.proofs.DataLemmas.{feed_taken, feed_missing}
use Rattle.message_framing.proofs.chunks.Chunks.read_feed.Goals as goal

pub returns-then-piece-ne10 : goal.returns-then-piece-ne10
returns-then-piece-ne10 c = λ b fed.
    feed_missing c.args.self.now b c.args.piece.now (at_place _ _ b c.requires.place fed) c.requires.some c.if-piece-ne10.true

pub returns : goal.returns
returns c = (
  omega arith,
  omega (arith, c.requires.some),
  λ b fed. feed_taken c.args.self.now _ b c.args.piece.now (at_place _ _ b c.requires.place fed) c.requires.some c.if-piece-ne10.false refl refl,
)
