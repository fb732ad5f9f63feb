-- The hexadecimal digits of a number, from the last one on.
use Rattle.std.proofs.Common.{◌≡◌, ◌≢◌, ℕ, zero, suc, ◌-◌, ◌/◌, ◌%◌, ◌<◌, ◌≤◌, false, List, [], ◌∷◌, length, drop, set, refl, ap, arith, get_or-set_same, drop-cons, length-set}
use Rattle.std.proofs.lemmas.Bool.{ne_eqb}
use Rattle.std.proofs.Math.Seq.{drop-set-lt}
use Rattle.std.specs.Fmt.{digits, digits_onto, digit_glyph}

pub digits_from_none : (n : ℕ) → digits_onto 64 16 false n [] ≡ digits 16 false n
unfolding digits
digits_from_none n = refl

-- the first digit, where nothing is left above it
pub digits_first : (places n : ℕ) (behind : List ℕ) → 0 < places → n / 16 ≡ 0
    → digits_onto places 16 false n behind ≡ digit_glyph false (n % 16) ∷ behind
digits_first zero n behind some none = absurd (omega arith)
digits_first (suc places) n behind some none = rw none refl

-- the last digit, where more are left above it
pub digits_last : (places n : ℕ) (behind : List ℕ) → 0 < places → n / 16 ≢ 0
    → digits_onto places 16 false n behind ≡ digits_onto (places - 1) 16 false (n / 16) (digit_glyph false (n % 16) ∷ behind)
digits_last zero n behind some more = absurd (omega arith)
digits_last (suc places) n behind some more =
    let fewer : suc places - 1 ≡ places = omega arith in
    rw (fewer, ne_eqb (n / 16) 0 more) refl

-- one more byte stands before those that are written
pub put_before : (room : List ℕ) (start byte : ℕ) → 0 < start → start ≤ length room
    → drop (start - 1) (set room (start - 1) byte) ≡ byte ∷ drop start room
put_before room zero byte some fits = absurd (omega arith)
put_before room (suc place) byte some fits =
    let at : suc place - 1 ≡ place = omega arith in
    let inside : place < length room = omega arith in
    let still : place < length (set room place byte) = omega (arith, length-set room place byte) in
    rw (at, drop-cons (set room place byte) place 0, get_or-set_same room place byte 0 inside)
    (ap (λ behind. byte ∷ behind) (drop-set-lt (suc place) room place byte (omega arith)))
