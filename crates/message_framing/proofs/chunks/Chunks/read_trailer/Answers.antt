use Rattle.std.proofs.Common.{◌≤◌, ◌<◌, ◌≡◌, ◌-◌, ◌++◌, List, ℕ, Some, length, take, arith, refl, ap, sym, subst, ◌∙◌, length-take}
use Rattle.std.proofs.lemmas.Result.{err_from_is_err_and}
use Rattle.message_framing.specs.Chunks.{trailer_limit}
use Rattle.message_framing.specs.Decoding.{InTrailer}
use Rattle.message_framing.specs.Body.{IsBody, BodyRefusal}
use Rattle.message_framing.specs.Scan.{ends}
use Rattle.message_framing.specs.declared.chunks.Chunks.{Chunks}
use Rattle.message_framing.specs.declared.chunks.Place.TheVariants as place
use Rattle.message_framing.specs.declared.fields.Framing.TheVariants.{Chunked}
use Rattle.message_framing.specs.declared.scan.Line.{Line}
use Rattle.message_framing.proofs.ScanLemmas.{ends_within}
use Rattle.message_framing.proofs.ReaderLemmas.{at_place, refused_in_piece}
use Rattle.message_framing.proofs.DecodingLemmas.{tells_nothing, tells_some}
use Rattle.message_framing.proofs.SizeLineLemmas.{trailer_ends_in}
use Rattle.message_framing.proofs.TrailerLemmas.{near_end, trailer_goes_on, trailer_is_long, IsTrailerEnd, trailer_end_at, body_ends, trailer_refused}
use Rattle.message_framing.proofs.chunks.Chunks.read_trailer.Goals as goal

pub prefix-requires : goal.prefix-requires
prefix-requires c = (ends_within c.args.line c.split_at.result.0.now c.in-Some.n (sym c.in-Some.ensures.end)).1

pub returns-in-None-trailer_fault : goal.returns-in-None-trailer_fault
returns-in-None-trailer_fault c =
    let near : List ℕ = c.split_at.result.0.now in
    let n : ℕ = c.in-Some.n in
    let text : List ℕ = c.deref.result.now in
    let found : ends c.args.line near ≡ Some n = sym c.in-Some.ensures.end in
    let front = near_end c.args.line c.args.piece.now near c.min.result n c.split_at.ensures.front (omega (arith, c.min.ensures)) found in
    let room : length near ≤ trailer_limit - length c.args.self.now.text.items = omega (arith, front.size, c.min.ensures, c.saturating_sub-room.ensures, c.len.ensures) in
    let is : text ≡ c.args.self.now.text.items ++ take n near =
    c.deref.ensures.value ∙ (c.in_ok-extend_from_slice-in-Some).ensures.items ∙ ap (λ w. c.args.self.now.text.items ++ w) c.prefix.ensures in (
      omega (arith, front.size, front.inside, c.min.ensures),
      λ b fed.
          let h : InTrailer c.args.self.now c.args.line b = at_place _ _ b c.requires.place fed in
          let e : IsTrailerEnd c.args.self.now c.args.line b near text n = trailer_end_at c.args.self.now c.args.line b near text n h found room is in
          subst (λ (w : List ℕ). IsBody Chunked (b ++ w) c.args.self.now.bytes.items) front.same
          (body_ends c.args.self.now c.args.line b near text c.args.self.now.bytes.items n h e is refl c.in-None-trailer_fault.ensures),
    )

pub returns-in-Some-trailer_fault : goal.returns-in-Some-trailer_fault
returns-in-Some-trailer_fault c = λ b fed.
    let near : List ℕ = c.split_at.result.0.now in
    let n : ℕ = c.in-Some.n in
    let text : List ℕ = c.deref.result.now in
    let found : ends c.args.line near ≡ Some n = sym c.in-Some.ensures.end in
    let front = near_end c.args.line c.args.piece.now near c.min.result n c.split_at.ensures.front (omega (arith, c.min.ensures)) found in
    let room : length near ≤ trailer_limit - length c.args.self.now.text.items = omega (arith, front.size, c.min.ensures, c.saturating_sub-room.ensures, c.len.ensures) in
    let is : text ≡ c.args.self.now.text.items ++ take n near =
    c.deref.ensures.value ∙ (c.in_ok-extend_from_slice-in-Some).ensures.items ∙ ap (λ w. c.args.self.now.text.items ++ w) c.prefix.ensures in
    let h : InTrailer c.args.self.now c.args.line b = at_place _ _ b c.requires.place fed in
    let e : IsTrailerEnd c.args.self.now c.args.line b near text n = trailer_end_at c.args.self.now c.args.line b near text n h found room is in
    refused_in_piece b c.args.piece.now n c.in-Some-trailer_fault.fault
    (subst (λ (w : List ℕ). BodyRefusal Chunked (b ++ w) c.in-Some-trailer_fault.fault) front.same
    (trailer_refused c.args.self.now c.args.line b near text n c.in-Some-trailer_fault.fault h e is c.in-Some-trailer_fault.ensures))

pub returns-in_ok-extend_from_slice-in-None : goal.returns-in_ok-extend_from_slice-in-None
returns-in_ok-extend_from_slice-in-None c =
    let near : List ℕ = c.split_at.result.0.now in
    let size : length near ≡ c.min.result = ap length c.split_at.ensures.front ∙ length-take c.min.result c.args.piece.now ∙ omega (arith, c.min.ensures) in
    let room : length near ≤ trailer_limit - length c.args.self.now.text.items = omega (arith, size, c.min.ensures, c.saturating_sub-room.ensures, c.len.ensures) in
    let fits : length near ≤ length c.args.piece.now = omega (arith, size, c.min.ensures) in
    let same : near ≡ take (length near) c.args.piece.now = c.split_at.ensures.front ∙ ap (λ j. take j c.args.piece.now) (sym size) in
    let new : Chunks = record { bytes = c.args.self.now.bytes; text = c.extend_from_slice-in-None.new.self; place = place.Trailer c.scan.new.self } in
    let none : length c.split_at.result.1.now ≡ 0 = tells_nothing _ (sym c.if-is_empty.ensures) in
    let some : 0 < length near = omega (arith, size, none, c.split_at.ensures.back_len, c.min.ensures, c.requires.some) in (
      some,
      fits,
      λ b fed.
          let h : InTrailer c.args.self.now c.args.line b = at_place _ _ b c.requires.place fed in
          subst (λ (w : List ℕ). InTrailer new c.scan.new.self (b ++ w)) same
          (subst (λ (l : Line). InTrailer new l (b ++ near)) (sym c.scan.ensures.line)
          (trailer_goes_on c.args.self.now new c.args.line b near h (sym c.in-None.ensures.end) room refl (c.in_ok-extend_from_slice-in-None).ensures.items)),
    )

pub returns-in-None-2 : goal.returns-in-None-2
returns-in-None-2 c = λ b fed.
    let h : InTrailer c.args.self.now c.args.line b = at_place _ _ b c.requires.place fed in
    let some : 0 < length c.split_at.result.1.now = tells_some _ (sym c.if-is_empty.ensures) in
    let long : trailer_limit - length c.args.self.now.text.items < length c.args.piece.now =
    omega (arith, some, c.split_at.ensures.back_len, c.min.ensures, c.saturating_sub-room.ensures, c.len.ensures) in
    let here : c.min.result ≡ trailer_limit - length c.args.self.now.text.items =
    omega (arith, long, c.min.ensures, c.saturating_sub-room.ensures, c.len.ensures) in
    trailer_is_long c.args.self.now c.args.line b c.args.piece.now c.split_at.result.0.now h
    (c.split_at.ensures.front ∙ ap (λ k. take k c.args.piece.now) here) (sym c.in-None-2.ensures.end) long

pub returns-in_err-extend_from_slice-in-Some : goal.returns-in_err-extend_from_slice-in-Some
returns-in_err-extend_from_slice-in-Some c =
    let failed = err_from_is_err_and c.from_residual.result c.from_residual.ensures.1 in
    rw failed.1 (λ b fed. trailer_ends_in c.args.self.now c.args.line b (at_place _ _ b c.requires.place fed))

pub returns-in_err-extend_from_slice-in-None : goal.returns-in_err-extend_from_slice-in-None
returns-in_err-extend_from_slice-in-None c =
    let failed = err_from_is_err_and c.from_residual-in_err-extend_from_slice-in-None.result c.from_residual-in_err-extend_from_slice-in-None.ensures.1 in
    rw failed.1 (λ b fed. trailer_ends_in c.args.self.now c.args.line b (at_place _ _ b c.requires.place fed))
