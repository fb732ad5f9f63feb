-- What a link in memory gives, by the place where it stands in its text.
use Rattle.std.proofs.Common.{◌≡◌, ◌<◌, ◌≤◌, ℕ, ◌+◌, List, ◌++◌, length, take, drop, refl, sym, ap, ◌∙◌, arith, length-append, length-drop, length-take-le, Option, None, Some}
use Rattle.std.proofs.Math.Seq.{take-add, take-append_seam}
use Rattle.rack_outside.specs.Told.{appended}
use Rattle.rack_outside.specs.Source.{IsPrefix, IsWhole}

-- n bytes of the text, copied to the front of the room, are the next ones
pub gave_next : (text room copied : List ℕ) (read n : ℕ) → read + n ≤ length text → copied ≡ take n (drop read text)
    → take (read + n) text ≡ take read text ++ take n (copied ++ drop n room)
gave_next text room copied read n within is =
    let many : length copied ≡ n = ap length is ∙ length-take-le n (drop read text) (omega (arith, length-drop read text)) in
    let front : take n (copied ++ drop n room) ≡ copied = rw (← many) (take-append_seam copied (drop (length copied) room)) in
    take-add read n text ∙ ap (λ (x : List ℕ). take read text ++ x) (sym (front ∙ is))

-- where all of the input was given, no more of it comes
pub still_whole : (before now input : Option (List ℕ)) (more : List ℕ) → 0 < length more → now ≡ appended before more
    → IsPrefix now input → IsWhole before input → IsWhole now input
still_whole None now input more some is prefix whole = λ xs ys e d. cc
still_whole (Some zs) now input more some is prefix whole = λ xs ys e d.
    let all : ys ≡ zs = whole zs ys refl d in
    let front : (rest : List ℕ) × (ys ≡ xs ++ rest) = prefix xs ys e d in
    let longer : xs ≡ zs ++ more = cc in
    absurd (omega (arith, ap length all, ap length front.1, ap length longer, length-append xs front.0, length-append zs more))
