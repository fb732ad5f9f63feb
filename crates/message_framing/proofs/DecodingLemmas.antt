-- All that a reader of chunks was fed, and one step more.
use Rattle.std.proofs.Common.{◌≡◌, ℕ, zero, suc, ◌+◌, ◌-◌, ◌<◌, ◌≤◌, true, false, ◌==◌, List, [], ◌∷◌, ◌++◌, length, take, drop, inl, inr, refl, ap, sym, ◌∙◌, subst, arith, length-append}
use Rattle.std.specs.List.{concat}
use Rattle.std.proofs.lemmas.Bool.Decides.{eqb_tells}
use Rattle.rack_types.specs.declared.fault.Fault.{Fault}
use Rattle.message_framing.specs.declared.chunks.Chunks.{Chunks}
use Rattle.message_framing.specs.declared.chunks.Place.{Place}
use Rattle.message_framing.specs.declared.fields.Framing.TheVariants.{Chunked}
use Rattle.message_framing.specs.HeadText.{cr}
use Rattle.message_framing.specs.Framing.{body_limit}
use Rattle.message_framing.specs.Chunks.{coming, FrontIs, After}
use Rattle.message_framing.specs.Body.{IsBody, BodyRefusal}
use Rattle.message_framing.specs.Decoding.{InChunk, HasReadAt, HasRead}
use Rattle.message_framing.proofs.DataLemmas.{data_coming, data_front_now}
use Rattle.message_framing.proofs.SizeLineLemmas.{line_coming}
use Rattle.message_framing.proofs.ReaderLemmas.{nothing_behind, parts_join, steps_join}
use Rattle.message_framing.proofs.TrailerLemmas.{trailer_coming}
use Rattle.message_framing.specs.declared.chunks.Place.TheVariants as place
use Rattle.message_framing.specs.declared.chunks.Step.TheVariants as step

-- what a reader was fed is open: chunks, and a front that is coming
pub record IsComing (b : List ℕ) : Type 0 where
  pub pieces : List (List ℕ)
  pub rest : List ℕ
  pub after : After pieces 0 b rest
  pub front : FrontIs (0 + length (concat pieces)) rest coming
  pub sum : length (concat pieces) ≤ body_limit
  pub short : length rest ≤ 1100000

-- data that is cut, or whole with nothing or a carriage return behind it
data_open : (c : Chunks) (left : ℕ) (b : List ℕ) (h : InChunk c left [] b) → FrontIs (0 + length (concat h.pieces)) (h.line ++ (h.got ++ [])) coming
data_open c zero b h = data_front_now c [] b coming h [] refl
data_open c (suc left) b h =
    let fits : 0 + length (concat h.pieces) + (length h.got + suc left) ≤ body_limit = omega (arith, h.sum) in
    let cut : length h.got < length h.got + suc left = omega arith in
    subst (λ (w : List ℕ). FrontIs (0 + length (concat h.pieces)) w coming) (sym (nothing_behind h.line h.got))
    (data_coming (0 + length (concat h.pieces)) (length h.got + suc left) h.line h.got h.size cut fits)

-- the bytes of a chunk and of its size line
chunk_short : (c : Chunks) (left : ℕ) (tail b : List ℕ) (h : InChunk c left tail b) → length tail ≤ 1 → length (h.line ++ (h.got ++ tail)) ≤ 1100000
chunk_short c left tail b h one =
    omega (arith, length-append h.line (h.got ++ tail), length-append h.got tail, one, h.size.within, h.sum)

coming_at : (p : Place) (c : Chunks) (b : List ℕ) → HasReadAt p c b → IsComing b
coming_at place.Size c b h = record {
  pieces = h.pieces;
  rest = c.text.items;
  after = h.after;
  front = line_coming (0 + length (concat h.pieces)) c.text.items h.unended h.within;
  sum = h.sum;
  short = omega (arith, h.within);
}
coming_at (place.Data left) c b h = record {
  pieces = h.pieces;
  rest = h.line ++ (h.got ++ []);
  after = h.after;
  front = data_open c left b h;
  sum = omega (arith, h.sum);
  short = chunk_short c left [] b h (omega arith);
}
coming_at place.Return c b h = record {
  pieces = h.pieces;
  rest = h.line ++ (h.got ++ (cr ∷ []));
  after = h.after;
  front = data_front_now c (cr ∷ []) b coming h [] refl;
  sum = omega (arith, h.sum);
  short = chunk_short c 0 (cr ∷ []) b h (omega arith);
}
coming_at (place.Trailer line) c b h = record {
  pieces = h.pieces;
  rest = h.line ++ c.text.items;
  after = h.after;
  front = trailer_coming (0 + length (concat h.pieces)) h.line c.text.items h.size (omega (arith, h.sum)) h.unended h.within;
  sum = h.sum;
  short = omega (arith, length-append h.line c.text.items, h.size.within, h.within);
}

pub fed_coming : (c : Chunks) (b : List ℕ) → HasRead c b → IsComing b
fed_coming c b fed = coming_at c.place c b fed

-- what a test for nothing tells
pub tells_nothing : (n : ℕ) → (n == 0) ≡ true → n ≡ 0
tells_nothing n is = elim (eqb_tells n 0) [
  | inl here ↦ here.1
  | inr other ↦ absurd (let clash : true ≡ false = sym is ∙ other.0 in cc)
]

pub tells_some : (n : ℕ) → (n == 0) ≡ false → 0 < n
tells_some zero is = cc
tells_some (suc n) is = omega arith

-- ---- the pieces of a step, joined

-- all that a reader was fed, and one step more
pub fed_on : (first old new : Chunks) (piece rest : List ℕ) (at n : ℕ) → rest ≡ drop at piece
    → ((b : List ℕ) → HasRead first b → HasRead old (b ++ take at piece))
    → ((b : List ℕ) → HasRead old b → HasRead new (b ++ take n rest)) → (b : List ℕ) → HasRead first b → HasRead new (b ++ take (at + n) piece)
fed_on first old new piece rest at n is before step b fed =
    subst (λ (w : List ℕ). HasRead new w) (ap (λ w. (b ++ take at piece) ++ take n w) is ∙ steps_join b piece at n)
    (step (b ++ take at piece) (before b fed))

-- the last step, to a whole body
pub fed_whole : (first old : Chunks) (piece rest bytes : List ℕ) (at n : ℕ) → rest ≡ drop at piece
    → ((b : List ℕ) → HasRead first b → HasRead old (b ++ take at piece))
    → ((b : List ℕ) → HasRead old b → IsBody Chunked (b ++ take n rest) bytes) → (b : List ℕ) → HasRead first b
    → IsBody Chunked (b ++ take (at + n) piece) bytes
fed_whole first old piece rest bytes at n is before step b fed =
    subst (λ (w : List ℕ). IsBody Chunked w bytes) (ap (λ w. (b ++ take at piece) ++ take n w) is ∙ steps_join b piece at n)
    (step (b ++ take at piece) (before b fed))

-- the last step, to a refusal
pub fed_refused : (first old : Chunks) (piece rest : List ℕ) (at : ℕ) (f : Fault) → rest ≡ drop at piece
    → ((b : List ℕ) → HasRead first b → HasRead old (b ++ take at piece))
    → ((b : List ℕ) → HasRead old b → BodyRefusal Chunked (b ++ rest) f) → (b : List ℕ) → HasRead first b → BodyRefusal Chunked (b ++ piece) f
fed_refused first old piece rest at f is before step b fed =
    subst (λ (w : List ℕ). BodyRefusal Chunked w f) (ap (λ w. (b ++ take at piece) ++ w) is ∙ parts_join b piece at)
    (step (b ++ take at piece) (before b fed))
