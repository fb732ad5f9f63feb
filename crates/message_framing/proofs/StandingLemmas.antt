-- What stands in an intake behind a piece, by the answer.
use Rattle.std.proofs.Common.{◌≡◌, ℕ, ◌≤◌, List, ◌++◌, length, take, true, false, Ok, Err, refl, sym, ap}
use Rattle.std.specs.declared.alloc.AllocError.{AllocError}
use Rattle.rack_types.specs.declared.fault.Fault.{Fault}
use Rattle.rack_types.specs.Request.{Parts, framed}
use Rattle.message_framing.specs.declared.fields.Framing.TheVariants as framing
use Rattle.message_framing.specs.declared.intake.Feed.TheVariants.{More, Whole, Refused}
use Rattle.message_framing.specs.declared.standing.ChunkedBody.{ChunkedBody}
use Rattle.message_framing.specs.declared.standing.StatedBody.{StatedBody}
use Rattle.message_framing.specs.declared.standing.Standing.{Standing}
use Rattle.message_framing.specs.declared.standing.Standing.TheVariants as at
use Rattle.message_framing.specs.Body.{IsBody, BodyRefusal}
use Rattle.message_framing.specs.Decoding.{HasRead, LacksIn}
use Rattle.message_framing.specs.Standing.{StatedGoesOn, ChunkedGoesOn}

-- what stood behind a piece of a stated body, by the answer
pub stated_more : (old : StatedBody) (piece : List ℕ) (s : Standing) → StatedGoesOn old piece (Ok More) s → (body : StatedBody) × (s ≡ at.Stated body) × (body.request ≡ old.request) × (body.length ≡ old.length) × (body.bytes.items ≡ old.bytes.items ++ piece)
stated_more old piece at.Open h = absurd h
stated_more old piece (at.Stated body) h = (body, refl, h.0, h.1, h.2)
stated_more old piece (at.Chunked body) h = absurd h
stated_more old piece (at.Whole r) h = absurd h
stated_more old piece (at.Refused f) h = absurd h
stated_more old piece at.Lacking h = absurd h

pub stated_whole : (old : StatedBody) (piece : List ℕ) (n : ℕ) (s : Standing) → StatedGoesOn old piece (Ok (Whole n)) s → (r : Parts) × (s ≡ at.Whole r) × (n ≤ length piece) × (old.length ≡ length (old.bytes.items ++ take n piece)) × (r ≡ framed (old.bytes.items ++ take n piece) false old.request)
stated_whole old piece n at.Open h = absurd h
stated_whole old piece n (at.Stated body) h = absurd h
stated_whole old piece n (at.Chunked body) h = absurd h
stated_whole old piece n (at.Whole r) h = (r, refl, h.0, h.1, h.2)
stated_whole old piece n (at.Refused f) h = absurd h
stated_whole old piece n at.Lacking h = absurd h

pub stated_refused : (old : StatedBody) (piece : List ℕ) (g : Fault) (s : Standing) → StatedGoesOn old piece (Ok (Refused g)) s → ⊥
stated_refused old piece g at.Open h = absurd h
stated_refused old piece g (at.Stated body) h = absurd h
stated_refused old piece g (at.Chunked body) h = absurd h
stated_refused old piece g (at.Whole r) h = absurd h
stated_refused old piece g (at.Refused f) h = absurd h
stated_refused old piece g at.Lacking h = absurd h

pub stated_lacks : (old : StatedBody) (piece : List ℕ) (e : AllocError) (s : Standing) → StatedGoesOn old piece (Err e) s → ⊥
stated_lacks old piece e at.Open h = absurd h
stated_lacks old piece e (at.Stated body) h = absurd h
stated_lacks old piece e (at.Chunked body) h = absurd h
stated_lacks old piece e (at.Whole r) h = absurd h
stated_lacks old piece e (at.Refused f) h = absurd h
stated_lacks old piece e at.Lacking h = absurd h

-- the same of chunks
pub chunked_more : (old : ChunkedBody) (piece : List ℕ) (s : Standing) → ChunkedGoesOn old piece (Ok More) s → (body : ChunkedBody) × (s ≡ at.Chunked body) × (body.request ≡ old.request) × ((b : List ℕ) → HasRead old.chunks b → HasRead body.chunks (b ++ piece))
chunked_more old piece at.Open h = absurd h
chunked_more old piece (at.Stated body) h = absurd h
chunked_more old piece (at.Chunked body) h = (body, refl, h.0, h.1)
chunked_more old piece (at.Whole r) h = absurd h
chunked_more old piece (at.Refused f) h = absurd h
chunked_more old piece at.Lacking h = absurd h

pub chunked_whole : (old : ChunkedBody) (piece : List ℕ) (n : ℕ) (s : Standing) → ChunkedGoesOn old piece (Ok (Whole n)) s → (r : Parts) × (s ≡ at.Whole r) × (n ≤ length piece) × ((b : List ℕ) → HasRead old.chunks b → IsBody framing.Chunked (b ++ take n piece) r.body) × (r ≡ framed r.body true old.request)
chunked_whole old piece n at.Open h = absurd h
chunked_whole old piece n (at.Stated body) h = absurd h
chunked_whole old piece n (at.Chunked body) h = absurd h
chunked_whole old piece n (at.Whole r) h = (r, refl, h.0, h.1, h.2)
chunked_whole old piece n (at.Refused f) h = absurd h
chunked_whole old piece n at.Lacking h = absurd h

pub chunked_refused : (old : ChunkedBody) (piece : List ℕ) (g : Fault) (s : Standing) → ChunkedGoesOn old piece (Ok (Refused g)) s → (s ≡ at.Refused g) × ((b : List ℕ) → HasRead old.chunks b → BodyRefusal framing.Chunked (b ++ piece) g)
chunked_refused old piece g at.Open h = absurd h
chunked_refused old piece g (at.Stated body) h = absurd h
chunked_refused old piece g (at.Chunked body) h = absurd h
chunked_refused old piece g (at.Whole r) h = absurd h
chunked_refused old piece g (at.Refused f) h = (ap at.Refused (sym h.0), h.1)
chunked_refused old piece g at.Lacking h = absurd h

pub chunked_lacks : (old : ChunkedBody) (piece : List ℕ) (e : AllocError) (s : Standing) → ChunkedGoesOn old piece (Err e) s → (s ≡ at.Lacking) × ((b : List ℕ) → HasRead old.chunks b → LacksIn b piece)
chunked_lacks old piece e at.Open h = absurd h
chunked_lacks old piece e (at.Stated body) h = absurd h
chunked_lacks old piece e (at.Chunked body) h = absurd h
chunked_lacks old piece e (at.Whole r) h = absurd h
chunked_lacks old piece e (at.Refused f) h = absurd h
chunked_lacks old piece e at.Lacking h = (refl, h)
