use Rattle.std.proofs.Common.{◌≡◌, ◌+◌, ◌<◌, ◌^◌, length, drop}
use Rattle.std.specs.List.{concat}
use Rattle.rack_types.proofs.plain.length_of.Given as goal

abbrev pub invariant-loop-piece : goal.invariant-loop-piece
invariant-loop-piece l = record {
  sum : l.sum + length (concat (drop l.piece-index l.pieces)) ≡ length (concat l.pieces);
  fits : l.sum < 2 ^ 64;
}
