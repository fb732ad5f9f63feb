-- What a reader of chunks holds by its place, and the parts of a piece.
use Rattle.std.proofs.Common.{◌≡◌, ℕ, ◌+◌, ◌-◌, ◌<◌, List, [], ◌∷◌, ◌++◌, length, take, drop, get_or, refl, ap, sym, ◌∙◌, subst, arith, append_assoc}
use Rattle.std.proofs.lemmas.List.{append-nil, take-append-drop}
use Rattle.std.proofs.Math.Seq.{take-add}
use Rattle.rack_types.specs.declared.fault.Fault.{Fault}
use Rattle.message_framing.specs.declared.chunks.Chunks.{Chunks}
use Rattle.message_framing.specs.declared.chunks.Place.{Place}
use Rattle.message_framing.specs.declared.fields.Framing.TheVariants.{Chunked}
use Rattle.message_framing.specs.Body.{BodyRefusal}
use Rattle.message_framing.specs.Decoding.{HasReadAt, HasRead}
use Rattle.message_framing.proofs.ChunkLemmas.{body_refusal_stays}
use Rattle.message_framing.specs.declared.chunks.Place.TheVariants as place

-- the place that the reader is at
pub at_place : (c : Chunks) (p : Place) (b : List ℕ) → c.place ≡ p → HasRead c b → HasReadAt p c b
at_place c p b is fed = subst (λ (q : Place). HasReadAt q c b) is fed

pub fed_at : (c : Chunks) (p : Place) (b : List ℕ) → c.place ≡ p → HasReadAt p c b → HasRead c b
fed_at c p b is fed = subst (λ (q : Place). HasReadAt q c b) (sym is) fed

-- lists in a row
pub tail_more : (line got tail more : List ℕ) → (line ++ (got ++ tail)) ++ more ≡ line ++ (got ++ (tail ++ more))
tail_more line got tail more = append_assoc line (got ++ tail) more ∙ ap (λ w. line ++ w) (append_assoc got tail more)

pub nothing_behind : (line got : List ℕ) → line ++ (got ++ []) ≡ line ++ got
nothing_behind line got = ap (λ w. line ++ w) (append-nil got)

-- the first byte of a piece, and what stands behind it
pub first_byte : (piece : List ℕ) → 0 < length piece → take 1 piece ≡ get_or piece 0 0 ∷ []
first_byte [] some = absurd (omega arith)
first_byte (x ∷ piece) some = refl

-- the two parts of a piece behind the bytes so far
pub parts_join : (b piece : List ℕ) (n : ℕ) → (b ++ take n piece) ++ drop n piece ≡ b ++ piece
parts_join b piece n = append_assoc b (take n piece) (drop n piece) ∙ ap (λ w. b ++ w) (take-append-drop n piece)

-- the bytes that two steps took
pub steps_join : (b piece : List ℕ) (at n : ℕ) → (b ++ take at piece) ++ take n (drop at piece) ≡ b ++ take (at + n) piece
steps_join b piece at n = append_assoc b (take at piece) (take n (drop at piece)) ∙ ap (λ w. b ++ w) (sym (take-add at n piece))

-- a refusal within the piece is one of the whole piece
pub refused_in_piece : (b piece : List ℕ) (n : ℕ) (f : Fault) → BodyRefusal Chunked (b ++ take n piece) f → BodyRefusal Chunked (b ++ piece) f
refused_in_piece b piece n f is =
    subst (λ (w : List ℕ). BodyRefusal Chunked w f) (parts_join b piece n) (body_refusal_stays Chunked (b ++ take n piece) (drop n piece) f is)
