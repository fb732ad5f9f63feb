use Rattle.reply_framing.specs.Pull.{IsIn, rest_of, asks_left}
use Rattle.reply_framing.proofs.FillLemmas.{SoFar}
use Rattle.reply_framing.proofs.pull.Pull.fill.Given as goal

abbrev pub invariant-loop-rule : goal.invariant-loop-rule
invariant-loop-rule g l = record {
  within : IsIn g.B.Body.content g.B.Body.taken l.self;
  so_far : SoFar (rest_of g.B.Body.content g.B.Body.taken l.fn.self) (rest_of g.B.Body.content g.B.Body.taken l.self) l.fn.ring l.ring;
}

abbrev pub decreases-loop-rule : goal.decreases-loop-rule
decreases-loop-rule g l = asks_left g.B.Body.content g.B.Body.taken l.self
