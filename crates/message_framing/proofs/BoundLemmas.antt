-- Bytes in which nothing stands are bounded.
use Rattle.std.proofs.Common.{◌≡◌, ℕ, ◌+◌, ◌-◌, ◌<◌, ◌≤◌, ◌⊎◌, Bool, true, false, MatchBool, List, [], length, take, drop, Option, None, Some, inl, inr, refl, ap, sym, ◌∙◌, subst, arith, length-append, length-take, length-drop}
use Rattle.std.specs.List.{concat}
use Rattle.std.proofs.lemmas.Bool.{cases_lt}
use Rattle.std.proofs.lemmas.List.{take-take, drop-take}
use Rattle.std.proofs.Math.Seq.{take-append_seam}
use Rattle.httparse.specs.Grammar.{RequestHead}
use Rattle.rack_types.specs.declared.fault.Fault.{Fault}
use Rattle.rack_types.specs.declared.fault.Fault.TheVariants.{F}
use Rattle.rack_types.specs.Request.{Parts, framed}
use Rattle.message_framing.specs.declared.fields.Framing.{Framing}
use Rattle.message_framing.specs.declared.fields.Framing.TheVariants.{Stated, Chunked}
use Rattle.message_framing.specs.HeadText.{head_text}
use Rattle.message_framing.specs.Head.{IsHead, head_fault, head_framing, is_chunked, request_with}
use Rattle.message_framing.specs.Framing.{body_limit}
use Rattle.message_framing.specs.Body.{IsBody}
use Rattle.message_framing.specs.Places.{StandsIn, StandsHead}
use Rattle.message_framing.specs.Held.{EndsHead}
use Rattle.message_framing.specs.Request.{head_within, has_too_many_lines, FaultOrBody, HeadRefusal, Begins, Wanting, waiting_limit}
use Rattle.message_framing.proofs.LengthLemmas.{head_states, head_has_target}
use Rattle.message_framing.proofs.OpenBodyLemmas.{either_way, IsOpenBody, body_bounded}
use Rattle.message_framing.proofs.RequestLemmas.{ends_at, ends_so, head_take, too_long, refused_at, request_of_body, refusal_of_body}

-- such a head, and a front of what stands behind it that is a body: a request begins
body_begins : (b : List ℕ) (n k : ℕ) (r : Parts) (g : Framing) (x : List ℕ) → EndsHead b n r g → k ≤ length (drop n b) → IsBody g (take k (drop n b)) x
    → Begins b (n + k) (framed x (is_chunked g) r)
body_begins b n k r g x h fits body =
    let at = ends_at b n h.end in
    let order : n ≤ n + k = omega arith in
    let end : head_within (take (n + k) b) ≡ Some n = ends_so (take (n + k) b) n (head_take b n (n + k) at.len order) at.limit in
    let head : EndsHead (take (n + k) b) n r g = record {
      end = end;
      head = subst (λ (w : List ℕ). StandsHead (head_text w) r g) (sym (take-take n (n + k) b order)) h.head;
    } in
    let rest : drop n (take (n + k) b) ≡ take k (drop n b) = drop-take n k b in (
      omega (arith, at.inside, fits, length-drop n b),
      request_of_body (take (n + k) b) n r g x head (subst (λ (w : List ℕ). IsBody g w x) (sym rest) body),
    )

-- nothing stands behind such a head
open_body : (b : List ℕ) (n : ℕ) (r : Parts) → EndsHead b n r Chunked → Wanting b → IsOpenBody 0 (drop n b)
open_body b n r h waits = record {
  whole = λ y rest ps split chunks.
      (let front : take (length y) (drop n b) ≡ y = ap (take (length y)) split ∙ take-append_seam y rest in
      let fits : length y ≤ length (drop n b) = omega (arith, ap length split, length-append y rest) in
      let body : IsBody Chunked (take (length y) (drop n b)) (concat ps) =
      subst (λ (w : List ℕ). IsBody Chunked w (concat ps)) (sym front) (ps, chunks, refl) in
      waits.0 _ _ (body_begins b n (length y) r Chunked (concat ps) h fits body));
  refused = λ ps f refused. waits.1 f (refusal_of_body b n r Chunked f h (ps, refused));
}

-- behind a head that earns no refusal
good_bounded : (b : List ℕ) (n : ℕ) (r : Parts) (h : RequestHead) (g : Framing) → g ≡ head_framing h → head_fault h ≡ None → EndsHead b n r g → Wanting b
    → waiting_limit < length b → ⊥
good_bounded b n r h (Stated m) is none head waits over =
    let limit : m ≤ body_limit = head_states h m none is in
    let at = ends_at b n head.end in
    let fits : m ≤ length (drop n b) = omega (arith, limit, at.limit, over, length-drop n b) in
    let size : m ≡ length (take m (drop n b)) = sym (length-take m (drop n b) ∙ omega (arith, fits)) in
    waits.0 _ _ (body_begins b n m r (Stated m) (take m (drop n b)) head fits (size, refl))
good_bounded b n r h Chunked is none head waits over =
    let at = ends_at b n head.end in
    body_bounded body_limit body_limit 0 (drop n b) (omega arith) refl (open_body b n r head waits) (omega (arith, at.limit, over, length-drop n b))

-- so many bytes are too many
pub too_many : (b : List ℕ) → Wanting b → waiting_limit < length b → ⊥
too_many b waits over = go (head_within b) refl
  where
    text_refused : (n : ℕ) (f : Fault) → head_within b ≡ Some n → has_too_many_lines (head_text (take n b)) ≡ false
        → HeadRefusal (head_text (take n b)) (drop n b) f → ⊥
    text_refused n f is few h =
        waits.1 f (refused_at b n f is (subst (λ (many : Bool). MatchBool many (f ≡ F 2) (HeadRefusal (head_text (take n b)) (drop n b) f)) (sym few) h))

    good : (n : ℕ) (h : RequestHead) → head_within b ≡ Some n → has_too_many_lines (head_text (take n b)) ≡ false → IsHead (head_text (take n b)) h
        → head_fault h ≡ None → ⊥
    good n h is few head none =
        let target = head_has_target h none in
        let r : Parts = request_with h target.0 [] in
        let stands : StandsIn (head_text (take n b)) r (head_framing h) = (h, head, none, refl, (target.0, target.1, refl)) in
        good_bounded b n r h (head_framing h) refl none
        (record { end = is; head = subst (λ (many : Bool). MatchBool many ⊥ (StandsIn (head_text (take n b)) r (head_framing h))) (sym few) stands })
        waits over

    by_fault : (n : ℕ) (h : RequestHead) (o : Option Fault) → head_fault h ≡ o → head_within b ≡ Some n → has_too_many_lines (head_text (take n b)) ≡ false
        → IsHead (head_text (take n b)) h → ⊥
    by_fault n h None none is few head = good n h is few head none
    by_fault n h (Some f) some is few head =
        text_refused n f is few
        (inr (h, head, subst (λ (o : Option Fault). FaultOrBody o h (drop n b) f) (sym some) refl))

    by_head : (n : ℕ) → head_within b ≡ Some n → has_too_many_lines (head_text (take n b)) ≡ false
        → ((h : RequestHead) × IsHead (head_text (take n b)) h) ⊎ ((h : RequestHead) × IsHead (head_text (take n b)) h → ⊥) → ⊥
    by_head n is few (inl some) = by_fault n some.0 (head_fault some.0) refl is few some.1
    by_head n is few (inr none) = text_refused n (F 3) is few (inl (λ h head. none (h, head), refl))

    by_lines : (n : ℕ) (many : Bool) → head_within b ≡ Some n → has_too_many_lines (head_text (take n b)) ≡ many → ⊥
    by_lines n true is lines =
        waits.1 (F 2) (refused_at b n (F 2) is
        (subst (λ (many : Bool). MatchBool many (F 2 ≡ F 2) (HeadRefusal (head_text (take n b)) (drop n b) (F 2))) (sym lines) refl))
    by_lines n false is lines = either_way ((h : RequestHead) × IsHead (head_text (take n b)) h) (by_head n is lines)

    go : (o : Option ℕ) → head_within b ≡ o → ⊥
    go None none = waits.1 (F 1) (too_long b none (omega (arith, over)))
    go (Some n) is = by_lines n (has_too_many_lines (head_text (take n b))) is refl

pub waiting_bounded : (b : List ℕ) → Wanting b → length b ≤ waiting_limit
waiting_bounded b waits = elim (cases_lt waiting_limit (length b)) [
  | inl over ↦ absurd (too_many b waits over)
  | inr fits ↦ fits
]
