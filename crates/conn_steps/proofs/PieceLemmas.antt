-- Parts of a piece.
use Rattle.std.proofs.Common.{◌≡◌, ℕ, ◌+◌, ◌-◌, ◌≤◌, min, Bool, true, false, nat_le, List, length, take, drop, refl, ap, sym, ◌∙◌, arith, length-take}
use Rattle.std.proofs.lemmas.Bool.Decides.{nat_tests}
use Rattle.std.proofs.lemmas.List.{drop-take, drop_all}

-- what stands from a place on, which may lie behind the end
drop_least : (k m j : ℕ) (xs : List ℕ) → length xs ≤ m → j ≡ min k m → drop j xs ≡ drop k xs
drop_least k m j xs few is = go (nat_le k m) refl
  where
    go : (b : Bool) → nat_le k m ≡ b → drop j xs ≡ drop k xs
    go true e =
        let same : j ≡ k = grind (arith, nat_tests, e, is) in ap (λ n. drop n xs) same
    go false e =
        let j_behind : length xs ≤ j = grind (arith, nat_tests, e, is, few) in
        let k_behind : length xs ≤ k = grind (arith, nat_tests, e, few) in
        drop_all j xs j_behind ∙ sym (drop_all k xs k_behind)

pub between : (from to m : ℕ) (xs : List ℕ) → to ≤ length xs → m ≡ min from to → take (to - m) (drop m xs) ≡ drop from (take to xs)
between from to m xs within is =
    let sum : m + (to - m) ≡ to = omega (arith, is) in
    let size : length (take to xs) ≤ to = omega (arith, length-take to xs) in
    sym (drop-take m (to - m) xs) ∙ ap (λ n. drop m (take n xs)) sum ∙ drop_least from to m (take to xs) size is
