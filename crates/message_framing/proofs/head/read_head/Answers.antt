use Rattle.std.proofs.Common.{ap, sym, ◌∙◌, ◌≡◌, false, refl, drop, [], subst, List, ℕ}
use Rattle.std.proofs.lemmas.Result.{err_from_is_err_and}
use Rattle.rack_types.specs.Request.{Parts, parts_at}
use Rattle.message_framing.specs.HeadText.{head_text, skipped}
use Rattle.message_framing.specs.Head.{is_chunked}
use Rattle.message_framing.specs.Places.{StandsIn}
use Rattle.message_framing.specs.Request.{has_too_many_lines}
use Rattle.message_framing.proofs.HeadLinesLemmas.{skipped_rest, head_has_few_lines}
use Rattle.message_framing.proofs.PartsLemmas.{stands_in, refused_early, refused_fields, few_stands, few_refused}
use Rattle.message_framing.proofs.SoundLemmas.{stands_sound}
use Rattle.message_framing.proofs.head.read_head.Goals as goal

pub new-request-requires-clause-sound : goal.new-request-requires-clause-sound
new-request-requires-clause-sound c =
    let text : List ℕ = c.suffix-text.result.now in
    let spans = c.in_ok-spans.spans in
    let g = c.in_ok-framing.framing in
    let behind : text ≡ drop c.skip-start.result c.args.bytes.items = rw c.deref-2.ensures.value at c.suffix-text.ensures in
    let same : drop spans.start c.args.bytes.items ≡ text = ap (λ k. drop k c.args.bytes.items) c.in_ok-spans.ensures.start ∙ sym behind in
    let told = simp (c.deref-4.ensures.value) at c.in_ok-framing.ensures in
    let stands : StandsIn text (parts_at text c.parse_head.new.places.items spans [] (is_chunked g)) g =
    stands_in text _ c.in-Some.head spans g c.in-Some.ensures.head (rw c.deref-3.ensures.value at c.in_ok-spans.ensures.parts) told.0 told.1 in
    rw (same, c.new-body.ensures.items, c.is_chunked.ensures) (stands_sound text _ g stands)

pub returns : goal.returns
returns c =
    let text : List ℕ = c.suffix-text.result.now in
    let spans = c.in_ok-spans.spans in
    let g = c.in_ok-framing.framing in
    let whole : text ≡ head_text c.args.bytes.items = simp (c.skip-start.ensures.value, c.deref.ensures.value, c.deref-2.ensures.value) at c.suffix-text.ensures in
    let read = c.in-Some.ensures.head in
    let few : has_too_many_lines text ≡ false = head_has_few_lines text read.head.0 read.head.1 (ap skipped whole ∙ skipped_rest c.args.bytes.items) in
    let behind : text ≡ drop c.skip-start.result c.args.bytes.items = rw c.deref-2.ensures.value at c.suffix-text.ensures in
    let same : drop spans.start c.args.bytes.items ≡ text = ap (λ k. drop k c.args.bytes.items) c.in_ok-spans.ensures.start ∙ sym behind in
    let told = simp (c.deref-4.ensures.value) at c.in_ok-framing.ensures in
    let stands : StandsIn text (parts_at text c.parse_head.new.places.items spans [] (is_chunked g)) g =
    stands_in text _ c.in-Some.head spans g c.in-Some.ensures.head (rw c.deref-3.ensures.value at c.in_ok-spans.ensures.parts) told.0 told.1 in
    let made : c.new-request.result ≡ parts_at text c.parse_head.new.places.items spans [] (is_chunked g) =
    c.new-request.ensures ∙ rw (same, c.new-body.ensures.items, c.is_chunked.ensures) refl in
    few_stands text c.args.bytes.items c.new-request.result g few whole (subst (λ (r : Parts). StandsIn text r g) (sym made) stands)

pub returns-in_err-framing : goal.returns-in_err-framing
returns-in_err-framing c =
    let text : List ℕ = c.suffix-text.result.now in
    let spans = c.in_ok-spans.spans in
    let fault = c.in_err-framing.field-0.0 in
    let whole : text ≡ head_text c.args.bytes.items = simp (c.skip-start.ensures.value, c.deref.ensures.value, c.deref-2.ensures.value) at c.suffix-text.ensures in
    let read = c.in-Some.ensures.head in
    let few : has_too_many_lines text ≡ false = head_has_few_lines text read.head.0 read.head.1 (ap skipped whole ∙ skipped_rest c.args.bytes.items) in
    let told = simp (c.deref-4.ensures.value) at c.in_err-framing.ensures in
    let failed = err_from_is_err_and c.from_residual-in_err-framing.result c.from_residual-in_err-framing.ensures.1 in
    rw (failed.1, failed.2) (few_refused text c.args.bytes.items fault few whole
    (refused_fields text _ c.in-Some.head spans fault c.in-Some.ensures.head (rw c.deref-3.ensures.value at c.in_ok-spans.ensures.parts) told))

pub returns-in_err-spans : goal.returns-in_err-spans
returns-in_err-spans c =
    let text : List ℕ = c.suffix-text.result.now in
    let fault = c.in_err-spans.field-0.0 in
    let whole : text ≡ head_text c.args.bytes.items = simp (c.skip-start.ensures.value, c.deref.ensures.value, c.deref-2.ensures.value) at c.suffix-text.ensures in
    let read = c.in-Some.ensures.head in
    let few : has_too_many_lines text ≡ false = head_has_few_lines text read.head.0 read.head.1 (ap skipped whole ∙ skipped_rest c.args.bytes.items) in
    let failed = err_from_is_err_and c.from_residual.result c.from_residual.ensures.1 in
    rw (failed.1, failed.2) (few_refused text c.args.bytes.items fault few whole
    (refused_early text _ c.in-Some.head fault read (rw c.deref-3.ensures.value at c.in_err-spans.ensures.parts)))
