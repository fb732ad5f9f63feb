-- Maxima over what is left of a list.
use Rattle.std.proofs.Common.{◌≡◌, ℕ, zero, suc, ◌+◌, ◌<◌, ◌≤◌, List, [], ◌∷◌, length, drop, get_or, drop-cons, map, max, refl, sym, ap, ◌∙◌, arith, add-one, ◌++◌, sum}
use Rattle.std.specs.List.{remove}
use Rattle.std.proofs.lemmas.Grind.{common_steps}
use Rattle.builder_core.specs.Counts.{greatest}

pub greatest_left : {A : Type 0} (f : A → ℕ) (xs : List A) (i : ℕ) (x : A) → i < length xs → x ≡ get_or xs i x → greatest (map f (drop i xs)) ≡ max (f x) (greatest (map f (drop (i + 1) xs)))
greatest_left f xs i x h e =
    rw add-one (ap (λ ys. greatest (map f ys)) (drop-cons xs i x h) ∙ ap (λ y. greatest (map f (y ∷ drop (suc i) xs))) (sym e))

pub greatest_end : {A : Type 0} (f : A → ℕ) (xs : List A) (i : ℕ) → length xs ≤ i → greatest (map f (drop i xs)) ≡ 0
greatest_end f [] zero h = refl
greatest_end f [] (suc i) h = refl
greatest_end f (x ∷ xs) zero h = absurd (omega arith)
greatest_end f (x ∷ xs) (suc i) h = greatest_end f xs i (omega arith)

pub sum-cons : (x : ℕ) (xs : List ℕ) → sum (x ∷ xs) ≡ x + sum xs
sum-cons x xs = grind (arith, common_steps)

-- one more at the end
pub sum-snoc : {A : Type 0} (f : A → ℕ) (xs : List A) (x : A) → sum (map f (xs ++ x ∷ [])) ≡ sum (map f xs) + f x
sum-snoc f [] x = grind (arith, common_steps)
sum-snoc f (y ∷ xs) x =
    omega (arith, sum-snoc f xs x, sum-cons (f y) (map f (xs ++ x ∷ [])), sum-cons (f y) (map f xs))

-- and with one less
pub sum-remove : {A : Type 0} (f : A → ℕ) (xs : List A) (i : ℕ) → sum (map f (remove xs i)) ≤ sum (map f xs)
sum-remove f [] zero = omega arith
sum-remove f [] (suc i) = omega arith
sum-remove f (x ∷ xs) zero = omega (arith, sum-cons (f x) (map f xs))
sum-remove f (x ∷ xs) (suc i) =
    omega (arith, sum-remove f xs i, sum-cons (f x) (map f xs), sum-cons (f x) (map f (remove xs i)))

pub sum_left : {A : Type 0} (f : A → ℕ) (xs : List A) (i : ℕ) (x : A) → i < length xs → x ≡ get_or xs i x → sum (map f (drop i xs)) ≡ f x + sum (map f (drop (i + 1) xs))
sum_left f xs i x h e =
    rw add-one (ap (λ ys. sum (map f ys)) (drop-cons xs i x h) ∙ ap (λ y. sum (map f (y ∷ drop (suc i) xs))) (sym e) ∙ sum-cons (f x) (map f (drop (suc i) xs)))

pub sum_end : {A : Type 0} (f : A → ℕ) (xs : List A) (i : ℕ) → length xs ≤ i → sum (map f (drop i xs)) ≡ 0
sum_end f [] zero h = refl
sum_end f [] (suc i) h = refl
sum_end f (x ∷ xs) zero h = absurd (omega arith)
sum_end f (x ∷ xs) (suc i) h = sum_end f xs i (omega arith)
