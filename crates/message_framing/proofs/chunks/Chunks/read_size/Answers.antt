use Rattle.std.proofs.Common.{◌≤◌, ◌<◌, ◌≡◌, ◌+◌, ◌-◌, ◌++◌, List, ℕ, length, take, arith, refl, ap, sym, subst, ◌∙◌, length-take}
use Rattle.std.proofs.lemmas.List.{take-take}
use Rattle.std.proofs.lemmas.Result.{err_from_is_err_and}
use Rattle.message_framing.specs.Chunks.{size_line_limit}
use Rattle.message_framing.specs.Decoding.{HasRead, AtSizeLine}
use Rattle.message_framing.specs.declared.chunks.Chunks.{Chunks}
use Rattle.message_framing.specs.declared.chunks.Place.TheVariants as place
use Rattle.message_framing.proofs.ReaderLemmas.{at_place, fed_at}
use Rattle.message_framing.proofs.SizeLineLemmas.{line_goes_on, line_ends, line_is_long, begins_step, size_line_ends}
use Rattle.message_framing.proofs.chunks.Chunks.read_size.Goals as goal

pub returns-in_ok-extend_from_slice-in-Some : goal.returns-in_ok-extend_from_slice-in-Some
returns-in_ok-extend_from_slice-in-Some c =
    let near : List ℕ = c.prefix-near.result.now in
    let k : ℕ = c.in-Some.k in
    let size : length near ≡ c.min.result = ap length c.prefix-near.ensures ∙ length-take c.min.result c.args.piece.now ∙ omega (arith, c.min.ensures) in
    let room : length near ≤ size_line_limit - length c.args.self.now.text.items = omega (arith, size, c.min.ensures, c.saturating_sub-room.ensures, c.len.ensures) in
    let fits : k + 1 ≤ length c.args.piece.now = omega (arith, size, c.min.ensures, c.in-Some.ensures.0.high) in
    let order : k + 1 ≤ c.min.result = omega (arith, size, c.in-Some.ensures.0.high) in
    let same : take (k + 1) near ≡ take (k + 1) c.args.piece.now = ap (take (k + 1)) c.prefix-near.ensures ∙ take-take (k + 1) c.min.result c.args.piece.now order in
    let text : c.extend_from_slice.new.self.items ≡ c.args.self.now.text.items ++ take (k + 1) near =
    (c.in_ok-extend_from_slice-in-Some).ensures.items ∙ ap (λ w. c.args.self.now.text.items ++ w) c.prefix.ensures in
    let mid : Chunks = record { bytes = c.args.self.now.bytes; text = c.extend_from_slice.new.self; place = c.args.self.now.place } in
    begins_step c.args.self.now mid c.begin_chunk.new.self c.args.piece.now (k + 1) c.begin_chunk.result c.begin_chunk.ensures (omega arith) fits
    (λ b fed. subst (λ (w : List ℕ). AtSizeLine mid (b ++ w)) same
    (line_ends c.args.self.now mid b near k (at_place _ _ b c.requires.place fed) c.in-Some.ensures.0.before c.in-Some.ensures.1 c.in-Some.ensures.0.high room refl text))
    (λ b fed. size_line_ends c.args.self.now b (at_place _ _ b c.requires.place fed))

pub returns-in_ok-extend_from_slice-in-None : goal.returns-in_ok-extend_from_slice-in-None
returns-in_ok-extend_from_slice-in-None c =
    let near : List ℕ = c.prefix-near.result.now in
    let size : length near ≡ c.min.result = ap length c.prefix-near.ensures ∙ length-take c.min.result c.args.piece.now ∙ omega (arith, c.min.ensures) in
    let room : length near < size_line_limit - length c.args.self.now.text.items = omega (arith, c.if-near-room.true, c.saturating_sub-room.ensures, c.len.ensures) in
    let fits : length near ≤ length c.args.piece.now = omega (arith, size, c.min.ensures) in
    let same : near ≡ take (length near) c.args.piece.now = c.prefix-near.ensures ∙ ap (λ j. take j c.args.piece.now) (sym size) in
    let mid : Chunks = record { bytes = c.args.self.now.bytes; text = c.extend_from_slice-in-None.new.self; place = c.args.self.now.place } in
    let some : 0 < length near = omega (arith, size, c.min.ensures, c.if-near-room.true, c.requires.some) in (
      some,
      fits,
      λ b fed. subst (λ (w : List ℕ). HasRead mid (b ++ w)) same
          (fed_at mid place.Size (b ++ near) c.requires.place
          (line_goes_on c.args.self.now mid b near (at_place _ _ b c.requires.place fed) c.in-None.ensures room refl (c.in_ok-extend_from_slice-in-None).ensures.items)),
    )

pub returns-in-None-2 : goal.returns-in-None-2
returns-in-None-2 c = λ b fed.
    let near : List ℕ = c.prefix-near.result.now in
    let size : length near ≡ c.min.result = ap length c.prefix-near.ensures ∙ length-take c.min.result c.args.piece.now ∙ omega (arith, c.min.ensures) in
    let room : c.min.result ≡ size_line_limit - length c.args.self.now.text.items =
    omega (arith, size, c.min.ensures, c.if-near-room.false, c.saturating_sub-room.ensures, c.len.ensures) in
    let fits : c.min.result ≤ length c.args.piece.now = omega (arith, c.min.ensures) in
    line_is_long c.args.self.now b c.args.piece.now near c.min.result (at_place _ _ b c.requires.place fed) c.prefix-near.ensures c.in-None-2.ensures room fits

pub returns-in_err-extend_from_slice-in-Some : goal.returns-in_err-extend_from_slice-in-Some
returns-in_err-extend_from_slice-in-Some c =
    let failed = err_from_is_err_and c.from_residual.result c.from_residual.ensures.1 in
    rw failed.1 (λ b fed. size_line_ends c.args.self.now b (at_place _ _ b c.requires.place fed))

pub returns-in_err-extend_from_slice-in-None : goal.returns-in_err-extend_from_slice-in-None
returns-in_err-extend_from_slice-in-None c =
    let failed = err_from_is_err_and c.from_residual-in_err-extend_from_slice-in-None.result c.from_residual-in_err-extend_from_slice-in-None.ensures.1 in
    rw failed.1 (λ b fed. size_line_ends c.args.self.now b (at_place _ _ b c.requires.place fed))
