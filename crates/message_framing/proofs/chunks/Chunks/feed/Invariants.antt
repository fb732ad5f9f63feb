use Rattle.std.proofs.Common.{length, ◌-◌, ◌++◌, ◌≤◌, ℕ, List, take}
use Rattle.message_framing.specs.Decoding.{HasRead}
use Rattle.message_framing.proofs.chunks.Chunks.feed.Given as goal

abbrev pub invariant-loop-at : goal.invariant-loop-at
invariant-loop-at l = record {
  within : l.at ≤ length l.piece;
  fed : (b : List ℕ) → HasRead l.fn.self b → HasRead l.self (b ++ take l.at l.piece);
}

abbrev pub decreases-loop-at : goal.decreases-loop-at
decreases-loop-at l = length l.piece - l.at
