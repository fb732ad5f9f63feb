-- What stands behind a head, and a piece more.
use Rattle.std.proofs.Common.{◌≡◌, ℕ, ◌≤◌, List, length, ◌≢◌, ◌+◌, ◌-◌, true, false, ◌++◌, take, drop, Result, Ok, refl, ap, sym, ◌∙◌, subst, arith}
use Rattle.std.proofs.lemmas.List.{append-nil, drop-append-le}
use Rattle.std.specs.declared.alloc.AllocError.{AllocError}
use Rattle.rack_types.specs.declared.fault.Fault.{Fault}
use Rattle.rack_types.specs.Request.{Parts, framed}
use Rattle.message_framing.specs.declared.intake.Feed.{Feed}
use Rattle.message_framing.specs.declared.intake.Feed.TheVariants.{More, Whole, Refused}
use Rattle.message_framing.specs.declared.intake.Intake.{Intake}
use Rattle.message_framing.specs.declared.standing.Standing.{Standing}
use Rattle.message_framing.specs.Intake.{Fed, taken}
use Rattle.message_framing.specs.Held.{StandsWholeAt, EndsHead, IsStated, IsChunked, FedAt}
use Rattle.message_framing.specs.FeedParts.{line_behind}
use Rattle.message_framing.specs.declared.scan.Line.{Line}
use Rattle.message_framing.specs.declared.scan.Line.TheVariants.{Skipping}
use Rattle.message_framing.specs.declared.standing.ChunkedBody.{ChunkedBody}
use Rattle.message_framing.specs.declared.standing.StatedBody.{StatedBody}
use Rattle.message_framing.specs.Scan.{behind}
use Rattle.message_framing.specs.Body.{IsBody, BodyRefusal}
use Rattle.message_framing.specs.Decoding.{HasRead}
use Rattle.message_framing.specs.Request.{Refusal, IsRequest}
use Rattle.message_framing.specs.Standing.{StatedGoesOn, ChunkedGoesOn, FeedsOn}
use Rattle.message_framing.proofs.FedLemmas.{IsWaiting, holds, waiting_at, whole_at}
use Rattle.message_framing.proofs.ScanLemmas.{behind_append}
use Rattle.message_framing.proofs.StandingLemmas.{stated_more, stated_whole, stated_refused, chunked_more, chunked_whole, chunked_refused}
use Rattle.message_framing.proofs.RequestLemmas.{ends_at, refusal_stays, request_of_body, refusal_of_body, ends_head_stays}
use Rattle.message_framing.proofs.FeedHeadLemmas.{line_stays}
use Rattle.message_framing.specs.declared.standing.Standing.TheVariants as at
use Rattle.message_framing.specs.declared.fields.Framing.TheVariants as framing

-- the answer tells what stands in the intake
abbrev pub Tells : Feed → List ℕ → Standing → Type 0
Tells More piece s = IsWaiting s
Tells (Whole n) piece s = (n ≤ length piece) × StandsWholeAt s
Tells (Refused f) piece s = s ≡ at.Refused f

-- what an intake then holds, and what its answer tells
abbrev pub Went : Feed → List ℕ → List ℕ → Intake → Type 0
Went answer b rest new = Fed new (taken answer b rest) × Tells answer rest new.standing

-- a stated body behind a piece
stated_went : (body : StatedBody) (answer : Feed) (new : Intake) (b rest : List ℕ) (line : Line)
    → line ≡ behind Skipping b → IsStated body b → StatedGoesOn body rest (Ok answer) new.standing → new.line ≡ line_behind (Ok answer) line rest
    → Went answer b rest new
stated_went body More new b rest line is h goes line_is =
    let found = stated_more body rest new.standing goes in
    let inside : h.start ≤ length b = (ends_at b h.start h.head.end).inside in
    let stays : EndsHead (b ++ rest) h.start body.request (framing.Stated body.length) = ends_head_stays b rest h.start _ _ h.head in (
      holds new (at.Stated found.0) (b ++ rest) found.1 (line_is ∙ is ∙ sym (line_stays b rest h.start h.head.end)) (record {
        start = h.start;
        head = subst (λ (n : ℕ). EndsHead (b ++ rest) h.start found.0.request (framing.Stated n)) (sym found.3)
            (subst (λ (r : Parts). EndsHead (b ++ rest) h.start r (framing.Stated body.length)) (sym found.2) stays);
        bytes = found.4 ∙ ap (λ w. w ++ rest) h.bytes ∙ sym (drop-append-le h.start b rest inside);
      }),
      waiting_at _ _ found.1 tt,
    )
stated_went body (Whole n) new b rest line is h goes line_is =
    let found = stated_whole body rest n new.standing goes in
    let inside : h.start ≤ length b = (ends_at b h.start h.head.end).inside in
    let w : List ℕ = b ++ take n rest in
    let stays : EndsHead w h.start body.request (framing.Stated body.length) = ends_head_stays b (take n rest) h.start _ _ h.head in
    let bytes : body.bytes.items ++ take n rest ≡ drop h.start w = ap (λ v. v ++ take n rest) h.bytes ∙ sym (drop-append-le h.start b (take n rest) inside) in
    let whole : IsRequest w (framed (drop h.start w) false body.request) =
    request_of_body w h.start body.request (framing.Stated body.length) (drop h.start w) stays (found.3 ∙ ap length bytes, refl) in
    let same : framed (drop h.start w) false body.request ≡ found.0 = ap (λ v. framed v false body.request) (sym bytes) ∙ sym found.4 in (
      holds new (at.Whole found.0) w found.1 (line_is ∙ is ∙ sym (line_stays b (take n rest) h.start h.head.end))
          (subst (λ (q : Parts). IsRequest w q) same whole),
      (found.2, whole_at _ _ found.1 tt),
    )
stated_went body (Refused f) new b rest line is h goes line_is = absurd (stated_refused body rest f new.standing goes)

-- chunks behind a piece
chunked_went : (body : ChunkedBody) (answer : Feed) (new : Intake) (b rest : List ℕ) (line : Line)
    → line ≡ behind Skipping b → IsChunked body b → ChunkedGoesOn body rest (Ok answer) new.standing → new.line ≡ line_behind (Ok answer) line rest
    → Went answer b rest new
chunked_went body More new b rest line is h goes line_is =
    let found = chunked_more body rest new.standing goes in
    let inside : h.start ≤ length b = (ends_at b h.start h.head.end).inside in (
      holds new (at.Chunked found.0) (b ++ rest) found.1 (line_is ∙ is ∙ sym (line_stays b rest h.start h.head.end)) (record {
        start = h.start;
        head = subst (λ (r : Parts). EndsHead (b ++ rest) h.start r framing.Chunked) (sym found.2) (ends_head_stays b rest h.start _ _ h.head);
        fed = subst (λ (t : List ℕ). HasRead found.0.chunks t) (sym (drop-append-le h.start b rest inside)) (found.3 (drop h.start b) h.fed);
      }),
      waiting_at _ _ found.1 tt,
    )
chunked_went body (Whole n) new b rest line is h goes line_is =
    let found = chunked_whole body rest n new.standing goes in
    let inside : h.start ≤ length b = (ends_at b h.start h.head.end).inside in
    let w : List ℕ = b ++ take n rest in
    let body_is : IsBody framing.Chunked (drop h.start w) found.0.body =
    subst (λ (t : List ℕ). IsBody framing.Chunked t found.0.body) (sym (drop-append-le h.start b (take n rest) inside)) (found.3 (drop h.start b) h.fed) in
    let whole : IsRequest w (framed found.0.body true body.request) =
    request_of_body w h.start body.request framing.Chunked found.0.body (ends_head_stays b (take n rest) h.start _ _ h.head) body_is in (
      holds new (at.Whole found.0) w found.1 (line_is ∙ is ∙ sym (line_stays b (take n rest) h.start h.head.end))
          (subst (λ (q : Parts). IsRequest w q) (sym found.4) whole),
      (found.2, whole_at _ _ found.1 tt),
    )
chunked_went body (Refused f) new b rest line is h goes line_is =
    let found = chunked_refused body rest f new.standing goes in
    let inside : h.start ≤ length b = (ends_at b h.start h.head.end).inside in
    let refused : BodyRefusal framing.Chunked (drop h.start (b ++ rest)) f =
    subst (λ (t : List ℕ). BodyRefusal framing.Chunked t f) (sym (drop-append-le h.start b rest inside)) (found.1 (drop h.start b) h.fed) in (
      holds new (at.Refused f) (b ++ rest) found.0
          (line_is ∙ ap (λ l. behind l rest) is ∙ sym (behind_append Skipping b rest))
          (refusal_of_body (b ++ rest) h.start body.request framing.Chunked f (ends_head_stays b rest h.start _ _ h.head) refused),
      found.0,
    )

-- a whole request, and a refusal, behind a piece
whole_went : (r : Parts) (answer : Feed) (new : Intake) (b rest : List ℕ) (line : Line)
    → line ≡ behind Skipping b → IsRequest b r → answer ≡ Whole 0 → new.standing ≡ at.Whole r → new.line ≡ line_behind (Ok answer) line rest
    → Went answer b rest new
whole_went r More new b rest line is h answered stands line_is = absurd (let clash : More ≡ Whole 0 = answered in cc)
whole_went r (Whole n) new b rest line is h answered stands line_is =
    let none : n ≡ 0 = cc in
    let same : b ≡ b ++ take n rest = sym (append-nil b) ∙ ap (λ k. b ++ take k rest) (sym none) in (
      holds new (at.Whole r) (b ++ take n rest) stands (line_is ∙ is ∙ ap (behind Skipping) same) (subst (λ (w : List ℕ). IsRequest w r) same h),
      (omega arith, whole_at _ _ stands tt),
    )
whole_went r (Refused f) new b rest line is h answered stands line_is = absurd (let clash : Refused f ≡ Whole 0 = answered in cc)

refused_went : (g : Fault) (answer : Feed) (new : Intake) (b rest : List ℕ) (line : Line)
    → line ≡ behind Skipping b → Refusal b g → answer ≡ Refused g → new.standing ≡ at.Refused g → new.line ≡ line_behind (Ok answer) line rest
    → Went answer b rest new
refused_went g More new b rest line is h answered stands line_is = absurd (let clash : More ≡ Refused g = answered in cc)
refused_went g (Whole n) new b rest line is h answered stands line_is = absurd (let clash : Whole n ≡ Refused g = answered in cc)
refused_went g (Refused f) new b rest line is h answered stands line_is =
    let same : g ≡ f = cc in (
      holds new (at.Refused g) (b ++ rest) stands (line_is ∙ ap (λ l. behind l rest) is ∙ sym (behind_append Skipping b rest)) (refusal_stays b rest g h),
      stands ∙ ap at.Refused same,
    )

-- the answer that was given
pub ok_same : (a c : Feed) → ◌≡◌ {A = Result Feed AllocError} (Ok a) (Ok c) → a ≡ c
ok_same a c is = cc

-- an intake behind its head, and a piece
pub went_on : (old new : Intake) (answer : Feed) (b rest : List ℕ) → old.standing ≢ at.Open → Fed old b
    → FeedsOn old.standing rest (Ok answer) new.standing → new.line ≡ line_behind (Ok answer) old.line rest → Went answer b rest new
went_on old new answer b rest behind_head fed = go old.standing refl fed.at
  where
    go : (s : Standing) → old.standing ≡ s → FedAt s old b → FeedsOn s rest (Ok answer) new.standing
        → new.line ≡ line_behind (Ok answer) old.line rest → Went answer b rest new
    go at.Open is h goes line = absurd (behind_head is)
    go (at.Stated body) is h goes line = stated_went body answer new b rest old.line fed.line h goes line
    go (at.Chunked body) is h goes line = chunked_went body answer new b rest old.line fed.line h goes line
    go (at.Whole r) is h goes line =
        let same : answer ≡ Whole 0 = ok_same answer (Whole 0) goes.0 in
        whole_went r answer new b rest old.line fed.line h same goes.1 line
    go (at.Refused f) is h goes line =
        let same : answer ≡ Refused f = ok_same answer (Refused f) goes.0 in
        refused_went f answer new b rest old.line fed.line h same goes.1 line
    go at.Lacking is h goes line = absurd h
