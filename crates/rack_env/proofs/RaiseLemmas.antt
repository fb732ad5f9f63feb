-- A list that is mapped from its front, one after the other.
use Rattle.std.proofs.Common.{◌≡◌, ℕ, zero, suc, ◌+◌, ◌<◌, ◌≤◌, List, [], ◌∷◌, ◌++◌, drop, get_or, length, map, set, take, refl, ap, ◌∙◌, arith}
use Rattle.rack_env.specs.Fields.{name_byte}

-- the first i are mapped
abbrev mapped : List ℕ → ℕ → List ℕ
mapped ys i = map name_byte (take i ys) ++ drop i ys

one : (ys : List ℕ) (i : ℕ) → i < length ys → set (mapped ys i) i (name_byte (get_or (mapped ys i) i 0)) ≡ mapped ys (suc i)
one [] i below = absurd (omega (arith, below))
one (y ∷ ys) zero below = refl
one (y ∷ ys) (suc i) below = ap (λ (zs : List ℕ). name_byte y ∷ zs) (one ys i (omega (arith, below)))

-- one more is
pub one_more : (xs ys : List ℕ) (i v : ℕ) → xs ≡ mapped ys i → i < length ys → v ≡ name_byte (get_or xs i 0) → set xs i v ≡ mapped ys (i + 1)
one_more xs ys i v so_far below is =
    let next : suc i ≡ i + 1 = omega arith in
    ap (set xs i) is
    ∙ ap (λ (zs : List ℕ). set zs i (name_byte (get_or zs i 0))) so_far
    ∙ one ys i below
    ∙ ap (mapped ys) next

-- all are
pub all_mapped : (xs ys : List ℕ) (i : ℕ) → xs ≡ mapped ys i → length ys ≤ i → xs ≡ map name_byte ys
all_mapped xs ys i so_far past = so_far ∙ all ys i past
  where
    all : (zs : List ℕ) (k : ℕ) → length zs ≤ k → mapped zs k ≡ map name_byte zs
    all [] zero past = refl
    all [] (suc k) past = refl
    all (z ∷ zs) zero past = absurd (omega (arith, past))
    all (z ∷ zs) (suc k) past = ap (λ (ws : List ℕ). name_byte z ∷ ws) (all zs k (omega (arith, past)))
