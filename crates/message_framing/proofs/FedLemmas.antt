-- What an intake that was fed holds, and what stands in the bytes.
use Rattle.std.proofs.Common.{◌≡◌, ℕ, List, sym, subst, ◌-◌, length, take, drop, ap, ◌∙◌, arith, length-take, [], refl}
use Rattle.std.proofs.lemmas.List.{take-append-drop}
use Rattle.rack_types.specs.Request.{Parts, with_body}
use Rattle.message_framing.specs.declared.scan.Line.TheVariants.{Skipping}
use Rattle.message_framing.specs.declared.intake.Intake.{Intake}
use Rattle.message_framing.specs.declared.standing.Standing.{Standing}
use Rattle.message_framing.specs.Scan.{behind}
use Rattle.message_framing.specs.Intake.{Fed, Spent}
use Rattle.message_framing.specs.Held.{FedAt, IsStated, IsChunked, StandsWholeAt, SpentAt}
use Rattle.message_framing.specs.declared.standing.ChunkedBody.{ChunkedBody}
use Rattle.message_framing.specs.declared.standing.StatedBody.{StatedBody}
use Rattle.message_framing.specs.Chunks.{ChunksAt}
use Rattle.message_framing.specs.Request.{Wanting, IsRequest}
use Rattle.message_framing.proofs.ChunkLemmas.{chunks_stay, after_not_whole, after_not_refused}
use Rattle.message_framing.proofs.DecodingLemmas.{fed_coming}
use Rattle.message_framing.proofs.RequestLemmas.{wanting, wanting_body, begins_not_refused, begins_whole, begins_unique}
use Rattle.message_framing.specs.declared.standing.Standing.TheVariants as at
use Rattle.message_framing.specs.declared.fields.Framing.TheVariants as framing

-- what an intake holds, by what stands in it
pub held : (i : Intake) (s : Standing) (b : List ℕ) → i.standing ≡ s → Fed i b → FedAt s i b
held i s b is fed = subst (λ (t : Standing). FedAt t i b) is fed.at

pub holds : (i : Intake) (s : Standing) (b : List ℕ) → i.standing ≡ s → i.line ≡ behind Skipping b → FedAt s i b → Fed i b
holds i s b is line h = record { line = line; at = subst (λ (t : Standing). FedAt t i b) (sym is) h }

-- nothing stands yet
abbrev pub IsWaiting : Standing → Type 0
IsWaiting at.Open = Unit {0}
IsWaiting (at.Stated body) = Unit {0}
IsWaiting (at.Chunked body) = Unit {0}
IsWaiting (at.Whole r) = ⊥
IsWaiting (at.Refused f) = ⊥
IsWaiting at.Lacking = ⊥

-- a stated body that is short is no body, and no front of it is
stated_waits : (body : StatedBody) (b : List ℕ) → IsStated body b → Wanting b
stated_waits body b h =
    wanting_body b h.start body.request (framing.Stated body.length) h.head
    (λ m x is.
    let size : body.bytes.len ≡ length (drop h.start b) = body.bytes.ok.0 ∙ ap length h.bytes in
    omega (arith, is.0, length-take m (drop h.start b), body.short))
    (λ f is. is)

-- chunks that are coming are no body, no front of them is, and they are not refused
chunked_waits : (body : ChunkedBody) (b : List ℕ) → IsChunked body b → Wanting b
chunked_waits body b h =
    let t : List ℕ = drop h.start b in
    let open_now = fed_coming body.chunks t h.fed in
    wanting_body b h.start body.request framing.Chunked h.head
    (λ m x is.
    after_not_whole open_now.pieces is.0 0 t open_now.rest _ open_now.after open_now.front
    (subst (λ (w : List ℕ). ChunksAt is.0 0 w (length (take m t))) (take-append-drop m t)
    (chunks_stay is.0 0 (take m t) (drop m t) (length (take m t)) is.1)))
    (λ f is. after_not_refused open_now.pieces is.0 0 t open_now.rest f open_now.after open_now.front is.1)

-- where nothing stands in an intake, nothing stands in the bytes
pub fed_waits : (i : Intake) (b : List ℕ) → Fed i b → IsWaiting i.standing → Wanting b
fed_waits i b fed = go i.standing fed.at
  where
    go : (s : Standing) → FedAt s i b → IsWaiting s → Wanting b
    go at.Open h w = wanting b h.unended h.within
    go (at.Stated body) h w = stated_waits body b h
    go (at.Chunked body) h w = chunked_waits body b h
    go (at.Whole r) h w = absurd w
    go (at.Refused f) h w = absurd w
    go at.Lacking h w = absurd w

pub waiting_at : (s t : Standing) → s ≡ t → IsWaiting t → IsWaiting s
waiting_at s t is w = subst IsWaiting (sym is) w

pub whole_at : (s t : Standing) → s ≡ t → StandsWholeAt t → StandsWholeAt s
whole_at s t is w = subst StandsWholeAt (sym is) w

-- a request that stands, in an intake
pub stands_whole : (i : Intake) (b : List ℕ) (r : Parts) → Fed i b → IsRequest b r → (q : Parts) × (i.standing ≡ at.Whole q)
stands_whole i b r fed is = go i.standing refl fed.at
  where
    waits : IsWaiting i.standing → (q : Parts) × (i.standing ≡ at.Whole q)
    waits w = absurd ((fed_waits i b fed w).0 (length b) r (begins_whole b r is))

    go : (s : Standing) → i.standing ≡ s → FedAt s i b → (q : Parts) × (i.standing ≡ at.Whole q)
    go at.Open at_is h = waits (waiting_at _ _ at_is tt)
    go (at.Stated body) at_is h = waits (waiting_at _ _ at_is tt)
    go (at.Chunked body) at_is h = waits (waiting_at _ _ at_is tt)
    go (at.Whole q) at_is h = (q, at_is)
    go (at.Refused f) at_is h = absurd (begins_not_refused b (length b) r f (begins_whole b r is) h)
    go at.Lacking at_is h = absurd h

-- where a request was spent, it stands without its body
pub spent_whole : (i : Intake) (b : List ℕ) → Spent i b → (q : Parts) × (i.standing ≡ at.Whole q)
spent_whole i b spent = go i.standing refl spent.at
  where
    go : (s : Standing) → i.standing ≡ s → SpentAt s b → (q : Parts) × (i.standing ≡ at.Whole q)
    go at.Open is h = absurd h
    go (at.Stated body) is h = absurd h
    go (at.Chunked body) is h = absurd h
    go (at.Whole q) is h = (q, is)
    go (at.Refused f) is h = absurd h
    go at.Lacking is h = absurd h

-- one request has these bytes
pub one_request : (b : List ℕ) (r q : Parts) → IsRequest b r → IsRequest b q → r ≡ q
one_request b r q x y = (begins_unique b (length b) (length b) r q (begins_whole b r x) (begins_whole b q y)).1

-- the request that stands is that of the bytes
pub held_request : (i : Intake) (b : List ℕ) (q r : Parts) → i.standing ≡ at.Whole q → Fed i b → IsRequest b r → q ≡ r
held_request i b q r stands fed is = one_request b q r (held i (at.Whole q) b stands fed) is

-- the request that was spent is that of the bytes, without its body
pub spent_request : (i : Intake) (b : List ℕ) (q r : Parts) → i.standing ≡ at.Whole q → Spent i b → IsRequest b r → q ≡ with_body [] r
spent_request i b q r stands spent is =
    let h : (p : Parts) × IsRequest b p × (q ≡ with_body [] p) = subst (λ (s : Standing). SpentAt s b) stands spent.at in
    h.2 ∙ ap (with_body []) (one_request b h.0 r h.1 is)

-- a standing that is no request is not whole
pub not_whole_else : (s : Standing) → ((q : Parts) → s ≡ at.Whole q → ⊥) → StandsWholeAt s → ⊥
not_whole_else at.Open none w = w
not_whole_else (at.Stated body) none w = w
not_whole_else (at.Chunked body) none w = w
not_whole_else (at.Whole q) none w = none q refl
not_whole_else (at.Refused f) none w = w
not_whole_else at.Lacking none w = w
