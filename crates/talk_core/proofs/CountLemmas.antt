-- Counts of several events, and lists that have something in them.
use Rattle.std.proofs.Common.{◌≡◌, ◌≢◌, ℕ, zero, suc, ◌+◌, ◌-◌, ◌^◌, ◌<◌, min, List, [], ◌∷◌, ◌++◌, length, length-append, refl, ap, ◌∙◌, arith}
use Rattle.rack_outside.specs.Told.{counted}
use Rattle.talk_core.specs.Counts.{counted_by}

-- one more event
pub counted_next : (n count : ℕ) → counted (counted_by n count) ≡ counted_by (suc n) count
counted_next zero count = refl
counted_next (suc n) count = counted_next n (counted count)

-- more events
pub counted_more : (n m count : ℕ) → counted_by m (counted_by n count) ≡ counted_by (n + m) count
counted_more zero m count = let e : m ≡ 0 + m = omega arith in ap (λ i. counted_by i count) e
counted_more (suc n) m count =
    let e : suc (n + m) ≡ suc n + m = omega arith in counted_more n m (counted count) ∙ ap (λ i. counted_by i count) e

-- what begins with something is something
pub lacks_some : {A : Type 0} (xs ys : List A) → 0 < length xs → xs ++ ys ≢ []
lacks_some [] ys some e = omega (arith, some)
lacks_some (x ∷ xs) ys some e = cc

-- how many bytes were taken, behind more of them
pub taken_more : (given more : List ℕ) (taken : ℕ) → taken ≡ min (length given) (2 ^ 64 - 1)
    → min (taken + length more) (2 ^ 64 - 1) ≡ min (length (given ++ more)) (2 ^ 64 - 1)
taken_more given more taken e = omega (arith, e, length-append given more)
