-- The data of a chunk in the reader, and the line end behind it.
use Rattle.std.proofs.Common.{◌≡◌, ℕ, ◌+◌, ◌-◌, ◌<◌, ◌≤◌, false, ◌==◌, List, [], ◌∷◌, ◌++◌, length, take, drop, refl, ap, sym, ◌∙◌, arith, ◌≢◌, get_or, subst, length-append, length-take, append_assoc}
use Rattle.std.proofs.lemmas.List.{drop_all, append-nil}
use Rattle.std.proofs.Math.Seq.{take-append_seam, drop-append_seam}
use Rattle.std.specs.List.{concat}
use Rattle.std.specs.Prelude.{vec_len, vec_capacity}
use Rattle.std.proofs.lemmas.List.Folds.{concat-append}
use Rattle.rack_types.specs.declared.fault.Fault.TheVariants.{F}
use Rattle.message_framing.specs.Framing.{body_limit}
use Rattle.message_framing.specs.Chunks.{Front, coming, refused, data_front, FrontIs, line_end, chunk, After}
use Rattle.message_framing.specs.Decoding.{IsSizeLine, InSizeLine, InChunk}
use Rattle.message_framing.specs.declared.chunks.Chunks.{Chunks}
use Rattle.message_framing.specs.declared.fields.Framing.TheVariants.{Chunked}
use Rattle.message_framing.specs.HeadText.{cr}
use Rattle.message_framing.specs.Body.{BodyRefusal}
use Rattle.message_framing.proofs.SizeLineLemmas.{chunk_front_is, not_same}
use Rattle.message_framing.proofs.ChunkLemmas.{after_more, after_chunk, after_refused}
use Rattle.message_framing.proofs.ReaderLemmas.{tail_more, first_byte}

-- data that is cut is coming
pub data_coming : (sum size : ℕ) (line got : List ℕ) → IsSizeLine line size → length got < size → sum + size ≤ body_limit
    → FrontIs sum (line ++ got) coming
data_coming sum size line got is cut fits =
    let some : 0 < size = omega arith in
    let all : length got ≤ size = omega arith in
    chunk_front_is sum size line got coming is some fits
    (sym (ap (data_front (length line + (size + 2)) (take size got)) (drop_all size got all)))

-- behind the data of a chunk
pub data_behind : (sum size : ℕ) (line got tail : List ℕ) (front : Front) → IsSizeLine line size → size ≡ length got → 0 < size
    → sum + size ≤ body_limit → front ≡ data_front (length line + (size + 2)) got tail → FrontIs sum (line ++ (got ++ tail)) front
data_behind sum size line got tail front is all some fits here =
    let bytes : take size (got ++ tail) ≡ got = ap (λ k. take k (got ++ tail)) all ∙ take-append_seam got tail in
    let rest : drop size (got ++ tail) ≡ tail = ap (λ k. drop k (got ++ tail)) all ∙ drop-append_seam got tail in
    chunk_front_is sum size line (got ++ tail) front is some fits
    (here ∙ sym (ap (λ w. data_front (length line + (size + 2)) w (drop size (got ++ tail))) bytes ∙ ap (data_front (length line + (size + 2)) got) rest))

-- a byte other than a carriage return behind the data
other_return : (len : ℕ) (bytes rest : List ℕ) (x : ℕ) → (x == 13) ≡ false → refused (F 13) ≡ data_front len bytes (x ∷ rest)
other_return len bytes [] x other = rw other refl
other_return len bytes (y ∷ rest) x other = rw other refl

-- behind the data of a chunk and some bytes more
in_chunk_more : (c : Chunks) (left : ℕ) (tail b more : List ℕ) (h : InChunk c left tail b)
    → After h.pieces 0 (b ++ more) (h.line ++ (h.got ++ (tail ++ more)))
in_chunk_more c left tail b more h =
    subst (λ (w : List ℕ). After h.pieces 0 (b ++ more) w) (tail_more h.line h.got tail more) (after_more h.pieces 0 b _ more h.after)

-- some of the data that was to come
pub data_taken : (old new : Chunks) (left n : ℕ) (b piece : List ℕ) → InChunk old left [] b → n ≤ left → n ≤ length piece
    → new.bytes.items ≡ old.bytes.items ++ take n piece → new.text.items ≡ old.text.items → vec_capacity old.bytes ≤ vec_capacity new.bytes
    → InChunk new (left - n) [] (b ++ take n piece)
data_taken old new left n b piece h part fits bytes text room =
    let size : length (take n piece) ≡ n = length-take n piece ∙ omega (arith, fits) in
    let all : length h.got + left ≡ length (h.got ++ take n piece) + (left - n) = omega (arith, size, part, length-append h.got (take n piece)) in
    record {
      pieces = h.pieces;
      line = h.line;
      got = h.got ++ take n piece;
      after = subst (λ (w : List ℕ). After h.pieces 0 (b ++ take n piece) (h.line ++ w)) (sym (append-nil (h.got ++ take n piece)))
          (in_chunk_more old left [] b (take n piece) h);
      size = subst (λ (k : ℕ). IsSizeLine h.line k) all h.size;
      some = omega (arith, all, h.some);
      data_is = bytes ∙ ap (λ w. w ++ take n piece) h.data_is ∙ append_assoc (concat h.pieces) h.got (take n piece);
      sum = omega (arith, all, h.sum);
      empty = text ∙ h.empty;
      room = omega (arith, h.room, room, part, size, ap length bytes, length-append old.bytes.items (take n piece), old.bytes.ok.0, new.bytes.ok.0);
    }

-- data that is to come has its room
pub data_has_room : (c : Chunks) (left n : ℕ) (b : List ℕ) → InChunk c left [] b → n ≤ left → vec_capacity c.bytes < vec_len c.bytes + n → ⊥
data_has_room c left n b h part full = omega (arith, h.room, part, full)

-- what stands behind data that came whole
pub data_front_now : (c : Chunks) (tail b : List ℕ) (front : Front) (h : InChunk c 0 tail b) (more : List ℕ)
    → front ≡ data_front (length h.line + (length h.got + 0 + 2)) h.got (tail ++ more)
    → FrontIs (0 + length (concat h.pieces)) (h.line ++ (h.got ++ (tail ++ more))) front
data_front_now c tail b front h more is =
    let all : length h.got + 0 ≡ length h.got = omega arith in
    let fits : 0 + length (concat h.pieces) + (length h.got + 0) ≤ body_limit = omega (arith, h.sum) in
    data_behind (0 + length (concat h.pieces)) (length h.got + 0) h.line h.got (tail ++ more) front h.size all h.some fits is

-- the carriage return behind the data
pub return_taken : (old new : Chunks) (b piece : List ℕ) → InChunk old 0 [] b → 0 < length piece → get_or piece 0 0 ≡ 13
    → new.bytes ≡ old.bytes → new.text.items ≡ old.text.items → InChunk new 0 (cr ∷ []) (b ++ take 1 piece)
return_taken old new b piece h some is bytes text =
    let first : take 1 piece ≡ 13 ∷ [] = first_byte piece some ∙ ap (λ x. x ∷ []) is in
    record {
      pieces = h.pieces;
      line = h.line;
      got = h.got;
      after = subst (λ (w : List ℕ). After h.pieces 0 (b ++ take 1 piece) (h.line ++ (h.got ++ w))) first (in_chunk_more old 0 [] b (take 1 piece) h);
      size = h.size;
      some = h.some;
      data_is = ap (λ v. v.items) bytes ∙ h.data_is;
      sum = h.sum;
      empty = text ∙ h.empty;
      room = subst (λ v. vec_len v + 0 ≤ vec_capacity v) (sym bytes) h.room;
    }

-- another byte there
pub return_missing : (c : Chunks) (b piece : List ℕ) → InChunk c 0 [] b → 0 < length piece → get_or piece 0 0 ≢ 13
    → BodyRefusal Chunked (b ++ piece) (F 13)
return_missing c b [] h some other = absurd (omega (arith, some))
return_missing c b (x ∷ piece) h some other = (
  h.pieces,
  after_refused h.pieces 0 (b ++ (x ∷ piece)) _ (F 13) (in_chunk_more c 0 [] b (x ∷ piece) h)
      (data_front_now c [] b (refused (F 13)) h (x ∷ piece) (other_return _ h.got piece x (not_same x 13 other))),
)

-- the line feed behind it: the chunk is whole
pub feed_taken : (old new : Chunks) (b piece : List ℕ) → InChunk old 0 (cr ∷ []) b → 0 < length piece → get_or piece 0 0 ≡ 10
    → new.bytes.items ≡ old.bytes.items → new.text.items ≡ old.text.items → InSizeLine new (b ++ take 1 piece)
unfolding line_end
feed_taken old new b piece h some is bytes text =
    let first : take 1 piece ≡ 10 ∷ [] = first_byte piece some ∙ ap (λ x. x ∷ []) is in
    let n : ℕ = length h.line + (length h.got + 0 + 2) in
    let rest : List ℕ = h.line ++ (h.got ++ (13 ∷ 10 ∷ [])) in
    let after : After h.pieces 0 (b ++ take 1 piece) rest =
    subst (λ (w : List ℕ). After h.pieces 0 (b ++ take 1 piece) (h.line ++ (h.got ++ (13 ∷ w)))) first (in_chunk_more old 0 (cr ∷ []) b (take 1 piece) h) in
    let front : FrontIs (0 + length (concat h.pieces)) rest (chunk n h.got) =
    data_front_now old (cr ∷ []) b (chunk n h.got) h (10 ∷ []) refl in
    let size : length rest ≡ n =
    length-append h.line (h.got ++ (13 ∷ 10 ∷ [])) ∙ ap (λ k. length h.line + k) (length-append h.got (13 ∷ 10 ∷ []) ∙ omega arith) in
    let order : length rest ≤ n = omega (arith, size) in
    let joined : concat (h.pieces ++ (h.got ∷ [])) ≡ concat h.pieces ++ h.got =
    concat-append h.pieces (h.got ∷ []) ∙ ap (λ w. concat h.pieces ++ w) (append-nil h.got) in
    let empty : new.text.items ≡ [] = text ∙ h.empty in
    record {
      pieces = h.pieces ++ (h.got ∷ []);
      after = subst (λ (w : List ℕ). After (h.pieces ++ (h.got ∷ [])) 0 (b ++ take 1 piece) w) (drop_all n rest order ∙ sym empty)
          (after_chunk h.pieces 0 (b ++ take 1 piece) rest n h.got after front);
      data_is = bytes ∙ h.data_is ∙ sym joined;
      sum = omega (arith, ap length joined, length-append (concat h.pieces) h.got, h.sum);
      unended = ap line_end empty;
      within = omega (arith, ap length empty);
    }

-- another byte there
pub feed_missing : (c : Chunks) (b piece : List ℕ) → InChunk c 0 (cr ∷ []) b → 0 < length piece → get_or piece 0 0 ≢ 10
    → BodyRefusal Chunked (b ++ piece) (F 13)
feed_missing c b [] h some other = absurd (omega (arith, some))
feed_missing c b (x ∷ piece) h some other = (
  h.pieces,
  after_refused h.pieces 0 (b ++ (x ∷ piece)) _ (F 13) (in_chunk_more c 0 (cr ∷ []) b (x ∷ piece) h)
      (data_front_now c (cr ∷ []) b (refused (F 13)) h (x ∷ piece) (rw (not_same x 10 other) refl)),
)
