-- The trailer in the reader.
use Rattle.std.proofs.Common.{◌≡◌, ℕ, ◌+◌, ◌-◌, ◌<◌, ◌≤◌, List, ◌++◌, length, take, Option, None, Some, option_map, refl, ap, sym, ◌∙◌, subst, arith, length-append, length-take, append_assoc}
use Rattle.std.specs.List.{concat}
use Rattle.std.proofs.lemmas.List.{take_all, take-take}
use Rattle.std.proofs.lemmas.Bool.{le-ltb, lt-ltb}
use Rattle.rack_types.specs.declared.fault.Fault.{Fault}
use Rattle.rack_types.specs.declared.fault.Fault.TheVariants.{F}
use Rattle.message_framing.specs.declared.chunks.Chunks.{Chunks}
use Rattle.message_framing.specs.declared.fields.Framing.TheVariants.{Chunked}
use Rattle.message_framing.specs.declared.scan.Line.{Line}
use Rattle.message_framing.specs.declared.scan.Line.TheVariants.{Start}
use Rattle.message_framing.specs.Scan.{behind, ends}
use Rattle.message_framing.specs.Framing.{body_limit}
use Rattle.message_framing.specs.Chunks.{trailer_limit, trailer_end, trailer_within, coming, refused, TrailerText, TrailerFront, FrontIs, After}
use Rattle.message_framing.specs.Body.{IsBody, BodyRefusal}
use Rattle.message_framing.specs.Decoding.{IsSizeLine, InTrailer, trailer_front, TrailerFault}
use Rattle.message_framing.proofs.LineEndLemmas.{trailer_end_is, take_past}
use Rattle.message_framing.proofs.ChunkLemmas.{after_more, after_last, after_refused}
use Rattle.message_framing.proofs.ScanLemmas.{ends_append, ends_within, ends_take, behind_append}
use Rattle.message_framing.proofs.SizeLineLemmas.{last_front_is}

-- a whole trailer within the limit
trailer_ends : (text : List ℕ) → ends Start text ≡ Some (length text) → length text ≤ trailer_limit → trailer_within text ≡ Some (length text)
trailer_ends text end fits = ap trailer_end (take_all trailer_limit text fits) ∙ trailer_end_is text ∙ end

-- the last chunk, whose trailer's text is whole
pub text_front : (sum : ℕ) (line text : List ℕ) (fault : Option Fault) → IsSizeLine line 0 → sum ≤ body_limit
    → ends Start text ≡ Some (length text) → length text ≤ trailer_limit → TrailerFault fault text
    → FrontIs sum (line ++ text) (trailer_front fault (length (line ++ text)))
text_front sum line text fault is fits end within tells =
    let order : length text ≤ length text = omega arith in
    let all : take (length text) text ≡ text = take_all (length text) text order in
    let size : length line + length text ≡ length (line ++ text) = sym (length-append line text) in
    let A : Option ℕ → Type 0 = λ o. TrailerFront o (length line) text (trailer_front fault (length (line ++ text))) in
    let told : TrailerText (take (length text) text) (length line + length text) (trailer_front fault (length (line ++ text))) =
    subst (λ (w : List ℕ). TrailerText w (length line + length text) (trailer_front fault (length (line ++ text)))) (sym all)
    (subst (λ (k : ℕ). TrailerText text k (trailer_front fault (length (line ++ text)))) (sym size) (tells (length (line ++ text)))) in
    last_front_is sum line text (trailer_front fault (length (line ++ text))) is fits (subst A (sym (trailer_ends text end within)) told)

-- a trailer that has not ended is coming within the limit
pub trailer_coming : (sum : ℕ) (line text : List ℕ) → IsSizeLine line 0 → sum ≤ body_limit → ends Start text ≡ None → length text ≤ trailer_limit
    → FrontIs sum (line ++ text) coming
trailer_coming sum line text is fits none within =
    let unended : trailer_within text ≡ None = ap trailer_end (take_all trailer_limit text within) ∙ trailer_end_is text ∙ none in
    let A : Option ℕ → Type 0 = λ o. TrailerFront o (length line) text coming in
    last_front_is sum line text coming is fits (subst A (sym unended) (rw (le-ltb trailer_limit (length text) within) refl))

-- and is refused behind it
pub trailer_long : (sum : ℕ) (line text : List ℕ) → IsSizeLine line 0 → sum ≤ body_limit → ends Start (take trailer_limit text) ≡ None
    → trailer_limit < length text → FrontIs sum (line ++ text) (refused (F 16))
trailer_long sum line text is fits none long =
    let unended : trailer_within text ≡ None = trailer_end_is (take trailer_limit text) ∙ none in
    let A : Option ℕ → Type 0 = λ o. TrailerFront o (length line) text (refused (F 16)) in
    last_front_is sum line text (refused (F 16)) is fits (subst A (sym unended) (rw (lt-ltb trailer_limit (length text) long) refl))

-- inside the trailer, and some bytes more
in_trailer_more : (c : Chunks) (line : Line) (b more : List ℕ) (h : InTrailer c line b)
    → After h.pieces 0 (b ++ more) (h.line ++ (c.text.items ++ more))
in_trailer_more c line b more h =
    subst (λ (w : List ℕ). After h.pieces 0 (b ++ more) w) (append_assoc h.line c.text.items more) (after_more h.pieces 0 b _ more h.after)

-- the scan of the bytes behind the trailer's text
scan_more : (c : Chunks) (line : Line) (b near : List ℕ) (o : Option ℕ) → InTrailer c line b → ends line near ≡ o
    → ends Start (c.text.items ++ near) ≡ option_map (λ n. length c.text.items + n) o
scan_more c line b near o h is =
    ends_append Start c.text.items near h.unended
    ∙ ap (λ l. option_map (λ n. length c.text.items + n) (ends l near)) (sym h.state_is) ∙ ap (option_map (λ n. length c.text.items + n)) is

-- bytes that do not end the trailer
pub trailer_goes_on : (old new : Chunks) (line : Line) (b near : List ℕ) → InTrailer old line b → ends line near ≡ None
    → length near ≤ trailer_limit - length old.text.items
    → new.bytes.items ≡ old.bytes.items → new.text.items ≡ old.text.items ++ near → InTrailer new (behind line near) (b ++ near)
trailer_goes_on old new line b near h none room bytes text = record {
  pieces = h.pieces;
  line = h.line;
  after = subst (λ (w : List ℕ). After h.pieces 0 (b ++ near) (h.line ++ w)) (sym text) (in_trailer_more old line b near h);
  size = h.size;
  data_is = bytes ∙ h.data_is;
  sum = h.sum;
  state_is = ap (λ l. behind l near) h.state_is ∙ sym (behind_append Start old.text.items near) ∙ sym (ap (behind Start) text);
  unended = ap (ends Start) text ∙ scan_more old line b near None h none;
  within = omega (arith, ap length text, length-append old.text.items near, room, h.within);
}

-- bytes that pass the limit and do not end it
pub trailer_is_long : (c : Chunks) (line : Line) (b piece near : List ℕ) → InTrailer c line b
    → near ≡ take (trailer_limit - length c.text.items) piece → ends line near ≡ None → trailer_limit - length c.text.items < length piece
    → BodyRefusal Chunked (b ++ piece) (F 16)
trailer_is_long c line b piece near h is none long =
    let front : take trailer_limit (c.text.items ++ piece) ≡ c.text.items ++ near =
    take_past c.text.items piece trailer_limit h.within ∙ ap (λ w. c.text.items ++ w) (sym is) in
    let unended : ends Start (take trailer_limit (c.text.items ++ piece)) ≡ None = ap (ends Start) front ∙ scan_more c line b near None h none in
    let full : trailer_limit < length (c.text.items ++ piece) = omega (arith, length-append c.text.items piece, long, h.within) in (
      h.pieces,
      after_refused h.pieces 0 (b ++ piece) _ (F 16) (in_trailer_more c line b piece h)
          (trailer_long (0 + length (concat h.pieces)) h.line (c.text.items ++ piece) h.size (omega (arith, h.sum)) unended full),
    )

-- the front of a piece, in which the scan ends
pub record NearEnd (piece near : List ℕ) (m n : ℕ) : Type 0 where
  pub size : length near ≡ m
  pub inside : n ≤ length near
  pub same : take n near ≡ take n piece

pub near_end : (line : Line) (piece near : List ℕ) (m n : ℕ) → near ≡ take m piece → m ≤ length piece → ends line near ≡ Some n → NearEnd piece near m n
near_end line piece near m n front fits found =
    let size : length near ≡ m = ap length front ∙ length-take m piece ∙ omega (arith, fits) in
    let inside : n ≤ length near = (ends_within line near n found).1 in
    record { size = size; inside = inside; same = ap (take n) front ∙ take-take n m piece (omega (arith, size, inside)) }

-- the trailer ends at byte n of the bytes that it may have
pub record IsTrailerEnd (c : Chunks) (line : Line) (b near text : List ℕ) (n : ℕ) : Type 0 where
  pub inside : n ≤ length near
  pub end : ends Start text ≡ Some (length text)
  pub within : length text ≤ trailer_limit

pub trailer_end_at : (c : Chunks) (line : Line) (b near text : List ℕ) (n : ℕ) → InTrailer c line b → ends line near ≡ Some n
    → length near ≤ trailer_limit - length c.text.items → text ≡ c.text.items ++ take n near → IsTrailerEnd c line b near text n
trailer_end_at c line b near text n h found room is =
    let inside : (0 < n) × (n ≤ length near) = ends_within line near n found in
    let order : n ≤ n = omega arith in
    let size : length text ≡ length c.text.items + n =
    ap length is ∙ length-append c.text.items (take n near) ∙ ap (λ k. length c.text.items + k) (length-take n near ∙ omega (arith, inside.1)) in
    record {
      inside = inside.1;
      end = ap (ends Start) is ∙ scan_more c line b (take n near) (Some n) h (ends_take line near n n found order) ∙ ap Some (sym size);
      within = omega (arith, size, room, inside.1, h.within);
    }

-- what stands there
ended_front : (c : Chunks) (line : Line) (b near text : List ℕ) (n : ℕ) (fault : Option Fault) (h : InTrailer c line b)
    → IsTrailerEnd c line b near text n → TrailerFault fault text
    → FrontIs (0 + length (concat h.pieces)) (h.line ++ text) (trailer_front fault (length (h.line ++ text)))
ended_front c line b near text n fault h e tells =
    text_front (0 + length (concat h.pieces)) h.line text fault h.size (omega (arith, h.sum)) e.end e.within tells

ended_after : (c : Chunks) (line : Line) (b near text : List ℕ) (n : ℕ) (h : InTrailer c line b) → text ≡ c.text.items ++ take n near
    → After h.pieces 0 (b ++ take n near) (h.line ++ text)
ended_after c line b near text n h is =
    subst (λ (w : List ℕ). After h.pieces 0 (b ++ take n near) (h.line ++ w)) (sym is) (in_trailer_more c line b (take n near) h)

-- the body is whole
pub body_ends : (c : Chunks) (line : Line) (b near text bytes : List ℕ) (n : ℕ) → InTrailer c line b → IsTrailerEnd c line b near text n
    → text ≡ c.text.items ++ take n near → bytes ≡ c.bytes.items → TrailerFault None text → IsBody Chunked (b ++ take n near) bytes
body_ends c line b near text bytes n h e is same tells = (
  h.pieces,
  after_last h.pieces 0 (b ++ take n near) (h.line ++ text) (ended_after c line b near text n h is) (ended_front c line b near text n None h e tells),
  same ∙ h.data_is,
)

-- its trailer is refused
pub trailer_refused : (c : Chunks) (line : Line) (b near text : List ℕ) (n : ℕ) (f : Fault) → InTrailer c line b → IsTrailerEnd c line b near text n
    → text ≡ c.text.items ++ take n near → TrailerFault (Some f) text → BodyRefusal Chunked (b ++ take n near) f
trailer_refused c line b near text n f h e is tells = (
  h.pieces,
  after_refused h.pieces 0 (b ++ take n near) (h.line ++ text) f (ended_after c line b near text n h is) (ended_front c line b near text n (Some f) h e tells),
)
