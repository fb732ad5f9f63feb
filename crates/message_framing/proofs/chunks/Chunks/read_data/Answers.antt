use Rattle.std.proofs.Common.{◌≤◌, ◌<◌, ◌≡◌, ◌+◌, ◌++◌, length, take, arith, refl, ap, ◌∙◌, length-take}
use Rattle.std.specs.Prelude.{vec_len, vec_capacity}
use Rattle.std.proofs.lemmas.Result.{err_from_is_err_and}
use Rattle.message_framing.proofs.ReaderLemmas.{at_place}
use Rattle.message_framing.proofs.DataLemmas.{data_taken, data_has_room}
use Rattle.message_framing.proofs.chunks.Chunks.read_data.Goals as goal

pub returns : goal.returns
returns c =
    let part : c.min-n.result ≤ c.args.left = omega (arith, c.min-n.ensures) in
    let fits : c.min-n.result ≤ length c.args.piece.now = omega (arith, c.min-n.ensures) in
    let more : c.extend_from_slice.new.self.items ≡ c.args.self.now.bytes.items ++ take c.min-n.result c.args.piece.now =
    c.in_ok-extend_from_slice.ensures.items ∙ ap (λ w. c.args.self.now.bytes.items ++ w) c.prefix.ensures in (
      omega (arith, c.min-n.ensures, c.requires.left, c.requires.some),
      fits,
      λ b fed. data_taken c.args.self.now _ c.args.left c.min-n.result b c.args.piece.now (at_place _ _ b c.requires.place fed) part fits more refl c.in_ok-extend_from_slice.ensures.capacity,
    )

-- the room was reserved
pub returns-in_err-extend_from_slice : goal.returns-in_err-extend_from_slice
returns-in_err-extend_from_slice c =
    let part : c.min-n.result ≤ c.args.left = omega (arith, c.min-n.ensures) in
    let size : length c.prefix.result.now ≡ c.min-n.result = ap length c.prefix.ensures ∙ length-take c.min-n.result c.args.piece.now ∙ omega (arith, c.min-n.ensures) in
    let full : vec_capacity c.args.self.now.bytes < vec_len c.args.self.now.bytes + c.min-n.result =
    omega (arith, c.in_err-extend_from_slice.ensures.full, size) in
    let failed = err_from_is_err_and c.from_residual.result c.from_residual.ensures.1 in
    rw failed.1 (λ b fed. absurd (data_has_room c.args.self.now c.args.left c.min-n.result b (at_place _ _ b c.requires.place fed) part full))
