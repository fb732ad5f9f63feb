-- The first line of some bytes, by the place of its line feed.
use Rattle.std.proofs.Common.{◌≡◌, ℕ, zero, suc, ◌<◌, Bool, true, false, cond, eqb, List, [], ◌∷◌, length, get_or, take, refl, ap, ◌∙◌, arith}
use borrow.Author.Tests.{eqb-true}
use Rattle.rack_types.specs.Input.{first_line}

-- where a byte is no line feed, the line goes on behind it
first_line-more : (b : ℕ) (bs : List ℕ) → (b ≡ 10 → ⊥) → first_line (b ∷ bs) ≡ b ∷ first_line bs
first_line-more b bs other = by (eqb b 10) refl
  where
    by : (t : Bool) → eqb b 10 ≡ t → cond t (b ∷ []) (b ∷ first_line bs) ≡ b ∷ first_line bs
    by true e = absurd (other (eqb-true b 10 e))
    by false e = refl

-- the line ends with the first line feed
pub first_line-found : (bs : List ℕ) (i : ℕ) → i < length bs → ((k : ℕ) → k < i → get_or bs k 0 ≡ 10 → ⊥) → get_or bs i 0 ≡ 10 → first_line bs ≡ take (suc i) bs
first_line-found [] i within before here = absurd (omega arith)
first_line-found (b ∷ bs) zero within before here = ap (λ x. cond (eqb x 10) (b ∷ []) (b ∷ first_line bs)) here
first_line-found (b ∷ bs) (suc i) within before here =
    first_line-more b bs (before 0 (omega arith)) ∙ ap (λ l. b ∷ l) (first_line-found bs i (omega arith) (λ k below. before (suc k) (omega arith)) here)

-- and with none it is all
pub first_line-none : (bs : List ℕ) → ((k : ℕ) → k < length bs → get_or bs k 0 ≡ 10 → ⊥) → first_line bs ≡ bs
first_line-none [] before = refl
first_line-none (b ∷ bs) before =
    first_line-more b bs (before 0 (omega arith)) ∙ ap (λ l. b ∷ l) (first_line-none bs (λ k below. before (suc k) (omega arith)))
