-- A size line in the reader, and what stands behind it.
use Rattle.std.proofs.Common.{◌≡◌, ◌≢◌, ℕ, ◌+◌, ◌-◌, ◌<◌, ◌≤◌, ◌⊎◌, Bool, true, false, ◌==◌, MatchBool, List, [], ◌++◌, length, drop, Option, Some, inl, inr, refl, ap, sym, ◌∙◌, subst, arith, take, None, zero, suc, ◌∷◌, get_or, option_map, length-append, length-take}
use Rattle.std.proofs.lemmas.List.{append-nil, take_all}
use Rattle.std.proofs.lemmas.Bool.{le-ltb, lt-ltb, le-leb, lt-leb}
use Rattle.std.proofs.lemmas.Bool.Decides.{eqb_tells}
use Rattle.std.proofs.Math.Seq.{take-append_seam, drop-append_seam}
use Rattle.std.specs.List.{concat}
use Rattle.std.specs.Prelude.{Result, Ok, Err, vec_len, vec_capacity}
use Rattle.std.specs.declared.alloc.AllocError.{AllocError}
use Rattle.httparse.specs.Grammar.{ChunkLine, print_chunk_line, ReadsChunkLine}
use Rattle.httparse.specs.Spans.{IsChunkLineAt}
use Rattle.httparse.proofs.ChunkLemmas.{chunk_line_unique}
use Rattle.memchr.specs.Find.{Nowhere, Passes, is_byte}
use Rattle.rack_types.specs.declared.fault.Fault.TheVariants.{F}
use Rattle.message_framing.specs.Framing.{body_limit}
use Rattle.message_framing.specs.Chunks.{size_line_limit, line_end, trailer_within, NamesSize, NamesNone, Front, refused, chunk_front, TrailerFront, SizeFront, LineFront, FrontIs, coming, After, EndsInLine}
use Rattle.message_framing.specs.Decoding.{IsSizeLine, OpensChunk, Steps, InSizeLine, AtSizeLine, InChunk, InTrailer, HasRead}
use Rattle.message_framing.specs.declared.chunks.Chunks.{Chunks}
use Rattle.message_framing.specs.declared.fields.Framing.TheVariants.{Chunked}
use Rattle.message_framing.specs.declared.scan.Line.{Line}
use Rattle.message_framing.specs.declared.scan.Line.TheVariants.{Start}
use Rattle.message_framing.specs.Scan.{behind, ends}
use Rattle.message_framing.specs.Body.{BodyRefusal}
use Rattle.message_framing.specs.declared.chunks.Step.{Step}
use Rattle.message_framing.proofs.LineEndLemmas.{line_within, line_end_stays, line_end_more, line_end_take, take_past}
use Rattle.message_framing.proofs.ChunkLemmas.{after_more, after_refused}
use Rattle.message_framing.proofs.ScanPieceLemmas.{NoFeedBelow, none_below}
use Rattle.message_framing.proofs.ReaderLemmas.{refused_in_piece}
use Rattle.message_framing.specs.declared.chunks.Step.TheVariants as step

-- what stands behind a whole line
pub behind_line : (sum : ℕ) (line rest : List ℕ) (front : Front) → line_end line ≡ Some (length line) → length line ≤ size_line_limit
    → (NamesNone line × (front ≡ refused (F 13))) ⊎ ((size : ℕ) × NamesSize line size × SizeFront sum (length line) size rest front)
    → FrontIs sum (line ++ rest) front
behind_line sum line rest front end fits h =
    let A : Option ℕ → Type 0 = λ o. LineFront o sum (line ++ rest) front in
    subst A (sym (line_within line rest end fits))
    (elim h [
      | inl none ↦ inl (subst (λ (w : List ℕ). NamesNone w) (sym (take-append_seam line rest)) none.0, none.1)
      | inr some ↦ inr (
        some.0,
        subst (λ (w : List ℕ). NamesSize w some.0) (sym (take-append_seam line rest)) some.1,
        subst (λ (w : List ℕ). SizeFront sum (length line) some.0 w front) (sym (drop-append_seam line rest)) some.2,
      )
    ])

-- a chunk line that is the whole buffer is found at its end
pub whole_chunk_line : (line : List ℕ) (len size : ℕ) (k l : ChunkLine) → IsChunkLineAt line len size k → ReadsChunkLine line l []
    → len ≡ length line
whole_chunk_line line len size k l at reads =
    let same : k ≡ l = (chunk_line_unique line k l (drop len line) [] at.reads reads).0 in
    at.len_is ∙ ap (λ (x : ChunkLine). length (print_chunk_line x)) same ∙ ap length (sym (reads.1 ∙ append-nil (print_chunk_line l)))

-- a test, and what holds by it
match_true : (test : Bool) (P Q : Type 0) → test ≡ true → P → MatchBool test P Q
match_true true P Q is p = p
match_true false P Q is p = cc

match_false : (test : Bool) (P Q : Type 0) → test ≡ false → Q → MatchBool test P Q
match_false true P Q is q = cc
match_false false P Q is q = q

not_zero : (n : ℕ) → 0 < n → (n == 0) ≡ false
not_zero n some = elim (eqb_tells n 0) [ inl is ↦ absurd (omega (arith, is.1)) | inr isnt ↦ isnt.0 ]

pub not_same : (x y : ℕ) → x ≢ y → (x == y) ≡ false
not_same x y other = elim (eqb_tells x y) [ inl is ↦ absurd (other is.1) | inr isnt ↦ isnt.0 ]

-- what stands behind a whole size line
pub size_front : (sum size : ℕ) (line rest : List ℕ) (front : Front) → IsSizeLine line size → SizeFront sum (length line) size rest front
    → FrontIs sum (line ++ rest) front
size_front sum size line rest front is h = behind_line sum line rest front is.end is.within (inr (size, is.names, h))

-- a line that is no size line is refused
pub no_size_front : (sum : ℕ) (line rest : List ℕ) → line_end line ≡ Some (length line) → length line ≤ size_line_limit
    → NamesNone line → FrontIs sum (line ++ rest) (refused (F 13))
no_size_front sum line rest end fits none = behind_line sum line rest (refused (F 13)) end fits (inl (none, refl))

-- a size that passes the limit of all data is refused
pub over_front : (sum size : ℕ) (line rest : List ℕ) → IsSizeLine line size → body_limit < sum + size
    → FrontIs sum (line ++ rest) (refused (F 14))
over_front sum size line rest is over =
    size_front sum size line rest (refused (F 14)) is (match_true _ _ _ (lt-ltb body_limit (sum + size) over) refl)

-- what stands behind a size above 0 within the limit of all data
pub chunk_front_is : (sum size : ℕ) (line rest : List ℕ) (front : Front) → IsSizeLine line size → 0 < size → sum + size ≤ body_limit
    → front ≡ chunk_front (length line) size rest → FrontIs sum (line ++ rest) front
chunk_front_is sum size line rest front is some fits here =
    size_front sum size line rest front is
    (match_false _ _ _ (le-ltb body_limit (sum + size) fits) (match_false _ _ _ (not_zero size some) here))

-- what stands behind the last chunk's size line
pub last_front_is : (sum : ℕ) (line rest : List ℕ) (front : Front) → IsSizeLine line 0 → sum ≤ body_limit
    → TrailerFront (trailer_within rest) (length line) rest front → FrontIs sum (line ++ rest) front
last_front_is sum line rest front is fits here =
    let more : sum + 0 ≤ body_limit = omega arith in
    size_front sum 0 line rest front is (match_false _ _ _ (le-ltb body_limit (sum + 0) more) here)

-- a line that has not ended is coming within the limit
pub line_coming : (sum : ℕ) (b : List ℕ) → line_end b ≡ None → length b < size_line_limit → FrontIs sum b coming
line_coming sum b none fits =
    let whole : take size_line_limit b ≡ b = take_all size_line_limit b (omega arith) in
    let A : Option ℕ → Type 0 = λ o. LineFront o sum b coming in
    subst A (sym (ap line_end whole ∙ none)) (rw (lt-leb size_line_limit (length b) fits) refl)

-- and is refused at the limit
pub line_long : (sum : ℕ) (b : List ℕ) → line_end (take size_line_limit b) ≡ None → size_line_limit ≤ length b → FrontIs sum b (refused (F 15))
line_long sum b none long =
    let A : Option ℕ → Type 0 = λ o. LineFront o sum b (refused (F 15)) in
    subst A (sym none) (rw (le-leb size_line_limit (length b) long) refl)

-- a line with nothing behind it
alone : (sum : ℕ) (line : List ℕ) (front : Front) → FrontIs sum (line ++ []) front → FrontIs sum line front
alone sum line front is = subst (λ (w : List ℕ). FrontIs sum w front) (append-nil line) is

-- a whole line that is no size line
pub bad_size_line : (c : Chunks) (b : List ℕ) → AtSizeLine c b → NamesNone c.text.items → BodyRefusal Chunked b (F 13)
bad_size_line c b h none = (
  h.pieces,
  after_refused h.pieces 0 b c.text.items (F 13) h.after
      (alone (0 + length (concat h.pieces)) c.text.items (refused (F 13)) (no_size_front _ c.text.items [] h.end h.within none)),
)

named : (c : Chunks) (b : List ℕ) (size : ℕ) → AtSizeLine c b → NamesSize c.text.items size → IsSizeLine c.text.items size
named c b size h is = record { end = h.end; within = h.within; names = is }

-- a size line whose size passes what is left
pub over_size_line : (c : Chunks) (b : List ℕ) (size : ℕ) → AtSizeLine c b → NamesSize c.text.items size
    → body_limit - length c.bytes.items < size → BodyRefusal Chunked b (F 14)
over_size_line c b size h is over =
    let more : body_limit < 0 + length (concat h.pieces) + size = omega (arith, over, ap length h.data_is, h.sum) in (
      h.pieces,
      after_refused h.pieces 0 b c.text.items (F 14) h.after
          (alone (0 + length (concat h.pieces)) c.text.items (refused (F 14)) (over_front _ size c.text.items [] (named c b size h is) more)),
    )

-- the size line of the last chunk
pub last_begins : (old new : Chunks) (b : List ℕ) → AtSizeLine old b → NamesSize old.text.items 0
    → new.bytes.items ≡ old.bytes.items → new.text.items ≡ [] → InTrailer new Start b
unfolding behind ends
last_begins old new b h is bytes empty = record {
  pieces = h.pieces;
  line = old.text.items;
  after = subst (λ (w : List ℕ). After h.pieces 0 b w) (sym (append-nil old.text.items) ∙ ap (λ w. old.text.items ++ w) (sym empty)) h.after;
  size = named old b 0 h is;
  data_is = bytes ∙ h.data_is;
  sum = h.sum;
  state_is = sym (ap (behind Start) empty);
  unended = ap (ends Start) empty;
  within = omega (arith, ap length empty);
}

-- the size line of another
pub chunk_begins : (old new : Chunks) (b : List ℕ) (size : ℕ) → AtSizeLine old b → NamesSize old.text.items size → 0 < size
    → size ≤ body_limit - length old.bytes.items → new.bytes.items ≡ old.bytes.items → new.text.items ≡ []
    → vec_len new.bytes + size ≤ vec_capacity new.bytes → InChunk new size [] b
chunk_begins old new b size h is some fits bytes empty room =
    let all : size ≡ 0 + size = omega arith in
    record {
      pieces = h.pieces;
      line = old.text.items;
      got = [];
      after = subst (λ (w : List ℕ). After h.pieces 0 b w) (sym (append-nil old.text.items)) h.after;
      size = subst (λ (k : ℕ). IsSizeLine old.text.items k) all (named old b size h is);
      some = omega (arith, some);
      data_is = bytes ∙ h.data_is ∙ sym (append-nil (concat h.pieces));
      sum = omega (arith, fits, ap length h.data_is, h.sum);
      empty = empty;
      room = room;
    }

-- where memchr found no line feed
line_end_none : (w : List ℕ) → NoFeedBelow (length w) w → line_end w ≡ None
unfolding line_end
line_end_none [] none = refl
line_end_none (x ∷ w) none =
    let later : NoFeedBelow (length w) w = λ j below. none (suc j) (omega arith) in
    rw (none 0 (omega arith)) (ap (option_map suc) (line_end_none w later))

-- where it found one
line_end_at : (w : List ℕ) (k : ℕ) → k < length w → NoFeedBelow k w → (get_or w k 0 == 10) ≡ true → line_end w ≡ Some (suc k)
unfolding line_end
line_end_at [] k below none here = absurd (omega arith)
line_end_at (x ∷ w) zero below none here = rw here refl
line_end_at (x ∷ w) (suc k) below none here =
    let later : NoFeedBelow k w = λ j lower. none (suc j) (omega arith) in
    let inside : k < length w = omega arith in
    rw (none 0 (omega arith)) (ap (option_map suc) (line_end_at w k inside later here))

-- inside a size line, and some bytes more
in_line_more : (c : Chunks) (b more : List ℕ) (h : InSizeLine c b) → After h.pieces 0 (b ++ more) (c.text.items ++ more)
in_line_more c b more h = after_more h.pieces 0 b c.text.items more h.after

-- bytes without a line feed are of the same line
pub line_goes_on : (old new : Chunks) (b near : List ℕ) → InSizeLine old b → Nowhere (Passes (is_byte 10) near) 0 (length near)
    → length near < size_line_limit - length old.text.items
    → new.bytes.items ≡ old.bytes.items → new.text.items ≡ old.text.items ++ near → InSizeLine new (b ++ near)
line_goes_on old new b near h none room bytes text = record {
  pieces = h.pieces;
  after = subst (λ (w : List ℕ). After h.pieces 0 (b ++ near) w) (sym text) (in_line_more old b near h);
  data_is = bytes ∙ h.data_is;
  sum = h.sum;
  unended = ap line_end text ∙ line_end_more old.text.items near h.unended
      ∙ ap (option_map (λ n. length old.text.items + n)) (line_end_none near (none_below near (length near) none));
  within = omega (arith, ap length text, length-append old.text.items near, room);
}

-- the line feed at byte k of the bytes that the line may have
pub line_ends : (old new : Chunks) (b near : List ℕ) (k : ℕ) → InSizeLine old b → Nowhere (Passes (is_byte 10) near) 0 k
    → Passes (is_byte 10) near k → k < length near → length near ≤ size_line_limit - length old.text.items
    → new.bytes.items ≡ old.bytes.items → new.text.items ≡ old.text.items ++ take (k + 1) near → AtSizeLine new (b ++ take (k + 1) near)
line_ends old new b near k h none here below room bytes text =
    let one : k + 1 ≡ suc k = omega arith in
    let size : length (take (k + 1) near) ≡ k + 1 = length-take (k + 1) near ∙ omega (arith, below) in
    let end : line_end near ≡ Some (suc k) = line_end_at near k below (none_below near k none) here in
    let end_in : line_end (take (suc k) near) ≡ Some (suc k) = line_end_take near (suc k) end in
    let all : length new.text.items ≡ length old.text.items + suc k = omega (arith, ap length text, length-append old.text.items (take (k + 1) near), size) in
    record {
      pieces = h.pieces;
      after = subst (λ (w : List ℕ). After h.pieces 0 (b ++ take (k + 1) near) w) (sym text) (in_line_more old b (take (k + 1) near) h);
      data_is = bytes ∙ h.data_is;
      sum = h.sum;
      end = ap line_end text ∙ line_end_more old.text.items (take (k + 1) near) h.unended
          ∙ ap (λ j. option_map (λ n. length old.text.items + n) (line_end (take j near))) one
          ∙ ap (option_map (λ n. length old.text.items + n)) end_in ∙ ap Some (sym all);
      within = omega (arith, all, below, room, h.within);
    }

-- bytes without a line feed up to the limit
pub line_is_long : (c : Chunks) (b piece near : List ℕ) (m : ℕ) → InSizeLine c b → near ≡ take m piece → Nowhere (Passes (is_byte 10) near) 0 (length near)
    → m ≡ size_line_limit - length c.text.items → m ≤ length piece → BodyRefusal Chunked (b ++ piece) (F 15)
line_is_long c b piece near m h is none room long =
    let order : length c.text.items ≤ size_line_limit = omega (arith, h.within) in
    let front : take size_line_limit (c.text.items ++ piece) ≡ c.text.items ++ near =
    take_past c.text.items piece size_line_limit order ∙ ap (λ k. c.text.items ++ take k piece) (sym room) ∙ ap (λ w. c.text.items ++ w) (sym is) in
    let unended : line_end (c.text.items ++ near) ≡ None =
    line_end_more c.text.items near h.unended
    ∙ ap (option_map (λ n. length c.text.items + n)) (line_end_none near (none_below near (length near) none)) in
    let full : size_line_limit ≤ length (c.text.items ++ piece) = omega (arith, length-append c.text.items piece, room, long) in (
      h.pieces,
      after_refused h.pieces 0 (b ++ piece) (c.text.items ++ piece) (F 15) (in_line_more c b piece h)
          (line_long _ (c.text.items ++ piece) (ap line_end front ∙ unended) full),
    )

-- a step that began a chunk, or was refused at its size line
pub begins_step : (old mid new : Chunks) (piece : List ℕ) (n : ℕ) (result : Result Step AllocError) → OpensChunk mid n result new
    → 0 < n → n ≤ length piece → ((b : List ℕ) → HasRead old b → AtSizeLine mid (b ++ take n piece)) → ((b : List ℕ) → HasRead old b → EndsInLine b)
    → Steps old piece result new
begins_step old mid new piece n (Ok (step.On m)) h some fits at inside = (
  omega (arith, h.0),
  omega (arith, h.0),
  λ b fed. subst (λ (k : ℕ). HasRead new (b ++ take k piece)) h.0 (h.1 (b ++ take n piece) (at b fed)),
)
begins_step old mid new piece n (Ok (step.Whole m)) h some fits at inside = absurd h
begins_step old mid new piece n (Ok (step.Refused f)) h some fits at inside = λ b fed. refused_in_piece b piece n f (h (b ++ take n piece) (at b fed))
begins_step old mid new piece n (Err e) h some fits at inside = inside

-- inside a size line
pub size_line_ends : (c : Chunks) (b : List ℕ) → InSizeLine c b → EndsInLine b
size_line_ends c b h = (h.pieces, c.text.items, h.after, inl h.unended)

-- inside the trailer
pub trailer_ends_in : (c : Chunks) (state : Line) (b : List ℕ) → InTrailer c state b → EndsInLine b
trailer_ends_in c state b h = (
  h.pieces,
  h.line ++ c.text.items,
  h.after,
  inr (length h.line, line_end_stays h.line c.text.items (length h.line) h.size.end, subst (λ (w : List ℕ). NamesSize w 0) (sym (take-append_seam h.line c.text.items)) h.size.names),
)
