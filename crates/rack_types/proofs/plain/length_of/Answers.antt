use Rattle.std.proofs.Common.{arith, length, drop, ◌≡◌, ◌≤◌, ap, []}
use Rattle.std.specs.List.{concat}
use Rattle.std.proofs.lemmas.List.{drop_all}
use Rattle.rack_types.proofs.PlainLemmas.{sum_fits}
use Rattle.rack_types.proofs.plain.length_of.Goals as goal

pub returns : goal.returns
returns c =
    let through : length c.args.pieces.now ≤ c.loop-piece.piece-index = omega arith in
    let none : drop c.loop-piece.piece-index c.args.pieces.now ≡ [] = drop_all c.loop-piece.piece-index c.args.pieces.now through in
    let sum : c.loop-piece.sum ≡ length (concat c.args.pieces.now) =
    omega (arith, ap (λ w. length (concat w)) none, c.loop-piece.invariant.sum) in
    sum_fits (length (concat c.args.pieces.now)) c.loop-piece.sum sum c.loop-piece.invariant.fits
