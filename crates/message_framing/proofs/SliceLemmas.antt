-- Parts of a slice.
use Rattle.std.proofs.Common.{◌≡◌, ℕ, ◌+◌, ◌-◌, ◌≤◌, List, length, take, drop, ap, sym, ◌∙◌, arith, length-drop, length-take}
use Rattle.std.proofs.lemmas.List.{drop-take, drop-drop, take-take}
use Rattle.std.specs.List.{slice_range}

-- the front of a slice
pub slice_front : (w : List ℕ) (s e n : ℕ) → s + n ≤ e → slice_range w s (s + n) ≡ take n (slice_range w s e)
slice_front w s e n fits =
    let here : s + n - s ≡ n = omega arith in
    let least : n ≤ e - s = omega arith in
    ap (λ k. take k (drop s w)) here ∙ sym (take-take n (e - s) (drop s w) least)

-- the rest of a slice
pub slice_rest : (w : List ℕ) (s e n : ℕ) → s + n ≤ e → slice_range w (s + n) e ≡ drop n (slice_range w s e)
slice_rest w s e n fits =
    let size : e - s ≡ n + (e - (s + n)) = omega arith in
    sym (ap (λ k. drop n (take k (drop s w))) size ∙ drop-take n (e - (s + n)) (drop s w) ∙ ap (take (e - (s + n))) (drop-drop n s w))

-- the length of a slice
pub length-slice : (w : List ℕ) (s e : ℕ) → s ≤ e → e ≤ length w → length (slice_range w s e) ≡ e - s
length-slice w s e order fits = length-take (e - s) (drop s w) ∙ omega (arith, length-drop s w)

-- a slice of a slice
pub slice_slice : (w : List ℕ) (s e a b : ℕ) → a ≤ b → s + b ≤ e → slice_range w (s + a) (s + b) ≡ slice_range (slice_range w s e) a b
slice_slice w s e a b order fits =
    let start : s + a ≤ e = omega (arith, order, fits) in
    let sum : s + b ≡ s + a + (b - a) = omega (arith, order) in
    let room : s + a + (b - a) ≤ e = omega (arith, order, fits) in
    ap (slice_range w (s + a)) sum ∙ slice_front w (s + a) e (b - a) room ∙ ap (take (b - a)) (slice_rest w s e a start)
