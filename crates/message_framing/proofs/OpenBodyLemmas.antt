-- Chunks that are neither whole nor refused are bounded.
use Rattle.std.proofs.Common.{◌≡◌, ℕ, zero, suc, ◌+◌, ◌-◌, ◌*◌, ◌<◌, ◌≤◌, ◌⊎◌, Bool, true, false, ◌&&◌, ◌==◌, List, [], ◌∷◌, ◌++◌, length, take, drop, Option, None, Some, inl, inr, refl, ap, sym, ◌∙◌, subst, arith, length-append, length-take, length-drop, append_assoc, le-leb}
use Rattle.std.proofs.lemmas.Bool.{cases_lt, eqb-true}
use Rattle.std.proofs.lemmas.List.{take-append-drop, take-take}
use Rattle.std.proofs.Math.Seq.{drop-append_seam}
use Rattle.httparse.specs.Grammar.{chunk_size}
use Rattle.rack_types.specs.declared.fault.Fault.{Fault}
use Rattle.rack_types.specs.declared.fault.Fault.TheVariants.{F}
use Rattle.message_framing.specs.declared.scan.Line.TheVariants.{Start}
use Rattle.message_framing.specs.Scan.{ends}
use Rattle.message_framing.specs.Framing.{body_limit}
use Rattle.message_framing.specs.Chunks.{size_line_limit, trailer_limit, line_end, size_line_within, trailer_within, NamesSize, IsTrailer, has_too_many_fields, chunk, last, refused, LineFront, FrontIs, ChunksAt, ChunksRefused}
use Rattle.message_framing.specs.Decoding.{IsSizeLine, TrailerFault, trailer_front}
use Rattle.message_framing.proofs.LineEndLemmas.{line_at, line_end_take, trailer_at, trailer_end_is}
use Rattle.message_framing.proofs.FrontLemmas.{front_stays, refused_is_whole}
use Rattle.message_framing.proofs.ScanLemmas.{ends_take}
use Rattle.message_framing.proofs.SizeLineLemmas.{no_size_front, over_front}
use Rattle.message_framing.proofs.TrailerLemmas.{text_front, trailer_long}
use Rattle.message_framing.proofs.DataLemmas.{data_behind}
use Rattle.message_framing.proofs.ReaderLemmas.{tail_more}

-- where a contradiction is wanted, each fact holds or fails
pub either_way : (P : Type 0) → (P ⊎ (P → ⊥) → ⊥) → ⊥
either_way P wrong = wrong (inr (λ p. wrong (inl p)))

-- x, behind chunks that have `sum` bytes of data, begins with no chunks up to the last, and is not refused
pub record IsOpenBody (sum : ℕ) (x : List ℕ) : Type 0 where
  pub whole : (y rest : List ℕ) (ps : List (List ℕ)) → x ≡ y ++ rest → ChunksAt ps sum y (length y) → ⊥
  pub refused : (ps : List (List ℕ)) (f : Fault) → ChunksRefused ps sum x f → ⊥

here_refused : (sum : ℕ) (x : List ℕ) (f : Fault) → IsOpenBody sum x → FrontIs sum x (refused f) → ⊥
unfolding ChunksRefused
here_refused sum x f h front = h.refused [] f front

here_last : (sum : ℕ) (x y rest : List ℕ) → IsOpenBody sum x → x ≡ y ++ rest → FrontIs sum y (last (length y)) → ⊥
unfolding ChunksAt
here_last sum x y rest h is front = h.whole y rest [] is front

-- a chunk with its line end
abbrev chunk_text : List ℕ → List ℕ → List ℕ → List ℕ
chunk_text line got rest = line ++ (got ++ (13 ∷ 10 ∷ rest))

-- what stands behind it
behind_chunk : (line got rest : List ℕ) (size : ℕ) → size ≡ length got → drop (length line + (size + 2)) (chunk_text line got rest) ≡ rest
behind_chunk line got rest size is =
    let front : List ℕ = line ++ (got ++ (13 ∷ 10 ∷ [])) in
    let n : length line + (size + 2) ≡ length front = omega (arith, is, length-append line (got ++ (13 ∷ 10 ∷ [])), length-append got (13 ∷ 10 ∷ [])) in
    ap (drop (length line + (size + 2))) (sym (tail_more line got (13 ∷ 10 ∷ []) rest)) ∙ ap (λ k. drop k (front ++ rest)) n ∙ drop-append_seam front rest

chunk_here : (sum size : ℕ) (line got rest : List ℕ) → IsSizeLine line size → size ≡ length got → 0 < size → sum + size ≤ body_limit
    → FrontIs sum (chunk_text line got rest) (chunk (length line + (size + 2)) got)
chunk_here sum size line got rest is all some fits =
    data_behind sum size line got (13 ∷ 10 ∷ rest) (chunk (length line + (size + 2)) got) is all some fits refl

-- behind a chunk the rest is as open
later_open : (sum size : ℕ) (line got rest : List ℕ) → IsSizeLine line size → size ≡ length got → 0 < size → sum + size ≤ body_limit
    → IsOpenBody sum (chunk_text line got rest) → IsOpenBody (sum + size) rest
unfolding ChunksAt ChunksRefused
later_open sum size line got rest is all some fits h = record {
  whole = λ y more ps split chunks.
      h.whole (chunk_text line got y) more (got ∷ ps)
      (ap (chunk_text line got) split ∙ sym (tail_more line got (13 ∷ 10 ∷ y) more)) (
        length line + (size + 2),
        length y,
        chunk_here sum size line got y is all some fits,
        subst (λ (d : List ℕ). ChunksAt ps (sum + length got) d (length y)) (sym (behind_chunk line got y size all))
            (subst (λ (k : ℕ). ChunksAt ps (sum + k) y (length y)) all chunks),
        omega (arith, all, length-append line (got ++ (13 ∷ 10 ∷ y)), length-append got (13 ∷ 10 ∷ y)),
      );
  refused = λ ps f r.
      h.refused (got ∷ ps) f (
        length line + (size + 2),
        chunk_here sum size line got rest is all some fits,
        subst (λ (d : List ℕ). ChunksRefused ps (sum + length got) d f) (sym (behind_chunk line got rest size all))
            (subst (λ (k : ℕ). ChunksRefused ps (sum + k) rest f) all r),
      );
}

-- the trailer behind a size line that names 0, whose text is whole
module _ (sum : ℕ) (line rest : List ℕ) (is : IsSizeLine line 0) (fits : sum ≤ body_limit) (h : IsOpenBody sum (line ++ rest)) (m : ℕ)
    (found : trailer_within rest ≡ Some m) where
  abbrev text : List ℕ
  text = take m rest

  text_size : length text ≡ m
  text_size = length-take m rest ∙ omega (arith, (trailer_at rest m found).inside)

  text_end : ends Start text ≡ Some (length text)
  text_end =
      let order : m ≤ trailer_limit = (trailer_at rest m found).limit in
      let here : ends Start (take trailer_limit rest) ≡ Some m = sym (trailer_end_is (take trailer_limit rest)) ∙ found in
      let same : m ≤ m = omega arith in
      ap (ends Start) (sym (take-take m trailer_limit rest order)) ∙ ends_take Start (take trailer_limit rest) m m here same ∙ ap Some (sym text_size)

  text_within : length text ≤ trailer_limit
  text_within = omega (arith, text_size, (trailer_at rest m found).limit)

  text_split : line ++ rest ≡ (line ++ text) ++ drop m rest
  text_split = ap (λ w. line ++ w) (sym (take-append-drop m rest)) ∙ sym (append_assoc line text (drop m rest))

  front : (fault : Option Fault) → TrailerFault fault text → FrontIs sum (line ++ text) (trailer_front fault (length (line ++ text)))
  front fault tells = text_front sum line text fault is fits text_end text_within tells

  bad : (f : Fault) → TrailerFault (Some f) text → ⊥
  bad f tells =
      here_refused sum (line ++ rest) f h
      (subst (λ (w : List ℕ). FrontIs sum w (refused f)) (sym text_split)
      (front_stays sum (line ++ text) (drop m rest) (refused f) (front (Some f) tells) (refused_is_whole f)))

  few : has_too_many_fields text ≡ false → IsTrailer text ⊎ (IsTrailer text → ⊥) → ⊥
  few is_few (inl trailer) =
      here_last sum (line ++ rest) (line ++ text) (drop m rest) h text_split (front None (λ len. rw is_few (inl (trailer, refl))))
  few is_few (inr none) = bad (F 13) (λ len. rw is_few (inr (none, refl)))

  by_lines : (many : Bool) → has_too_many_fields text ≡ many → ⊥
  by_lines true is_many = bad (F 16) (λ len. rw is_many refl)
  by_lines false is_few = either_way (IsTrailer text) (few is_few)

-- the trailer behind a size line that names 0
trailer_bounded : (sum : ℕ) (line rest : List ℕ) → IsSizeLine line 0 → sum ≤ body_limit → IsOpenBody sum (line ++ rest) → trailer_limit < length rest → ⊥
trailer_bounded sum line rest is fits h long = go (trailer_within rest) refl
  where
    go : (o : Option ℕ) → trailer_within rest ≡ o → ⊥
    go None none =
        here_refused sum (line ++ rest) (F 16) h
        (trailer_long sum line rest is fits (sym (trailer_end_is (take trailer_limit rest)) ∙ none) long)
    go (Some m) found = by_lines sum line rest is fits h m found (has_too_many_fields (take m rest)) refl

-- the data behind a size line that names more than 0, of which enough came
data_bounded : (sum size : ℕ) (line rest : List ℕ) → IsSizeLine line size → 0 < size → sum + size ≤ body_limit → IsOpenBody sum (line ++ rest)
    → size + 2 ≤ length rest
    → ((w : List ℕ) → IsOpenBody (sum + size) w → length rest ≡ size + 2 + length w → ⊥) → ⊥
data_bounded sum size line rest is some fits h enough next =
    go (drop size rest) (sym (take-append-drop size rest)) (omega (arith, enough, length-drop size rest)) (length-drop size rest)
  where
    got : List ℕ
    got = take size rest

    all : size ≡ length got
    all = sym (length-take size rest ∙ omega (arith, enough))

    wrong : (x y : ℕ) (w : List ℕ) → rest ≡ got ++ (x ∷ y ∷ w) → ((x == 13) && (y == 10)) ≡ false → ⊥
    wrong x y w split other =
        here_refused sum (line ++ rest) (F 13) h
        (subst (λ (v : List ℕ). FrontIs sum (line ++ v) (refused (F 13))) (sym split)
        (data_behind sum size line got (x ∷ y ∷ w) (refused (F 13)) is all some fits (rw other refl)))

    right : (x y : ℕ) (w : List ℕ) → rest ≡ got ++ (x ∷ y ∷ w) → x ≡ 13 → y ≡ 10 → length (x ∷ y ∷ w) ≡ length rest - size → ⊥
    right x y w split first second long =
        let here : rest ≡ got ++ (13 ∷ 10 ∷ w) = split ∙ ap (λ k. got ++ (k ∷ y ∷ w)) first ∙ ap (λ k. got ++ (13 ∷ k ∷ w)) second in
        next w (later_open sum size line got w is all some fits (subst (λ (v : List ℕ). IsOpenBody sum (line ++ v)) here h)) (omega (arith, long, enough))

    by_bytes : (x y : ℕ) (w : List ℕ) (a b : Bool) → (x == 13) ≡ a → (y == 10) ≡ b → rest ≡ got ++ (x ∷ y ∷ w)
        → length (x ∷ y ∷ w) ≡ length rest - size → ⊥
    by_bytes x y w true true a b split long = right x y w split (eqb-true x 13 a) (eqb-true y 10 b) long
    by_bytes x y w true false a b split long = wrong x y w split (rw (a, b) refl)
    by_bytes x y w false b a c split long = wrong x y w split (rw a refl)

    go : (tail : List ℕ) → rest ≡ got ++ tail → 2 ≤ length tail → length tail ≡ length rest - size → ⊥
    go [] split two long = absurd (omega (arith, two))
    go (x ∷ []) split two long = absurd (omega (arith, two))
    go (x ∷ y ∷ w) split two long = by_bytes x y w (x == 13) (y == 10) refl refl split long

-- behind a whole size line
line_bounded : (fuel sum : ℕ) (line rest : List ℕ) → sum + fuel ≡ body_limit → line_end line ≡ Some (length line) → length line ≤ size_line_limit
    → IsOpenBody sum (line ++ rest) → 1027 * fuel + 9216 < length (line ++ rest)
    → ((size : ℕ) → 0 < size → size ≤ fuel → (w : List ℕ) → IsOpenBody (sum + size) w → 1027 * (fuel - size) + 9216 < length w → ⊥) → ⊥
line_bounded fuel sum line rest budget end within h over next = either_way ((size : ℕ) × NamesSize line size) named
  where
    long : length line + length rest ≡ length (line ++ rest)
    long = sym (length-append line rest)

    by_size : (size : ℕ) → NamesSize line size → sum + size ≤ body_limit → ⊥
    by_size zero names fits =
        trailer_bounded sum line rest (record { end = end; within = within; names = names }) (omega (arith, fits)) h (omega (arith, over, long, within))
    by_size (suc k) names fits =
        let size : ℕ = suc k in
        elim (cases_lt (length rest) (size + 2)) [
          | inl short ↦ omega (arith, short, over, long, within, budget, fits)
          | inr enough ↦
              data_bounded sum size line rest (record { end = end; within = within; names = names }) (omega arith) fits h enough
              (λ w later left. next size (omega arith) (omega (arith, budget, fits)) w later (omega (arith, left, over, long, within, budget, fits)))
        ]

    named : ((size : ℕ) × NamesSize line size) ⊎ ((size : ℕ) × NamesSize line size → ⊥) → ⊥
    named (inr none) =
        here_refused sum (line ++ rest) (F 13) h (no_size_front sum line rest end within (λ l reads. none (chunk_size l, (l, reads, refl))))
    named (inl some) = elim (cases_lt body_limit (sum + some.0)) [
      | inl above ↦
          here_refused sum (line ++ rest) (F 14) h (over_front sum some.0 line rest (record { end = end; within = within; names = some.1 }) above)
      | inr fits ↦ by_size some.0 some.1 fits
    ]

-- by where its size line ends
body_at : (fuel sum : ℕ) (x : List ℕ) → sum + fuel ≡ body_limit → IsOpenBody sum x → 1027 * fuel + 9216 < length x
    → ((size : ℕ) → 0 < size → size ≤ fuel → (w : List ℕ) → IsOpenBody (sum + size) w → 1027 * (fuel - size) + 9216 < length w → ⊥) → ⊥
body_at fuel sum x budget h over next = go (size_line_within x) refl
  where
    go : (o : Option ℕ) → size_line_within x ≡ o → ⊥
    go None none =
        let long : size_line_limit ≤ length x = omega (arith, over) in
        here_refused sum x (F 15) h (subst (λ (o : Option ℕ). LineFront o sum x (refused (F 15))) (sym none) (rw (le-leb size_line_limit (length x) long) refl))
    go (Some n) found =
        let at = line_at x n found in
        let line : List ℕ = take n x in
        let size : length line ≡ n = length-take n x ∙ omega (arith, at.inside) in
        let split : line ++ drop n x ≡ x = take-append-drop n x in
        let end : line_end line ≡ Some (length line) =
        ap line_end (sym (take-take n size_line_limit x at.limit)) ∙ line_end_take (take size_line_limit x) n found ∙ ap Some (sym size) in
        line_bounded fuel sum line (drop n x) budget end (omega (arith, size, at.limit)) (subst (λ (w : List ℕ). IsOpenBody sum w) (sym split) h)
        (omega (arith, over, ap length split)) next

-- with so many bytes of data to come, at most
pub body_bounded : (steps fuel sum : ℕ) (x : List ℕ) → fuel ≤ steps → sum + fuel ≡ body_limit → IsOpenBody sum x → 1027 * fuel + 9216 < length x → ⊥
body_bounded zero fuel sum x order budget h over =
    body_at fuel sum x budget h over (λ size some below w later more. omega (arith, some, below, order))
body_bounded (suc n) fuel sum x order budget h over =
    body_at fuel sum x budget h over
    (λ size some below w later more.
    body_bounded n (fuel - size) (sum + size) w (omega (arith, some, below, order)) (omega (arith, below, budget)) later more)
