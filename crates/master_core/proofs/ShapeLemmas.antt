-- Slots of which the front is alike and the back is alike, as they are while they are replaced one by one.
use Rattle.std.proofs.Common.{◌≡◌, ℕ, zero, suc, ◌+◌, ◌≤◌, List, [], ◌∷◌, ◌++◌, Bool, true, false, cond, None, Some, refl, sym, ◌∙◌, ap, arith}
use Rattle.std.specs.Prelude.{position, slice_get, slice_set, replicate, count_by, not}
use Rattle.std.specs.Option.{option_map, is_some}
use Rattle.std.specs.List.{list_any}
use Rattle.std.proofs.lemmas.List.Sums.{sum_by-append}
use Rattle.std.proofs.lemmas.Bool.Decides.{nat_tests}
use Rattle.master_core.specs.declared.slot.Slot.{Slot}
use Rattle.master_core.specs.declared.slot.Slot.TheVariants.{Serving, Draining}
use Rattle.master_core.specs.Slots.{is_serving, is_below}
use Rattle.master_core.proofs.SlotLemmas.{position_first, position_later, position_any, none_where_not_any}

pub any_replicate : (p : Slot → Bool) (n : ℕ) (y : Slot) → p y ≡ false → list_any p (replicate n y) ≡ false
any_replicate p zero y e = refl
any_replicate p (suc n) y e = rw e (any_replicate p n y e)

any_nowhere : (p : Slot → Bool) (a b : ℕ) (y x z : Slot) → p y ≡ false → p x ≡ false → p z ≡ false → list_any p (replicate a y ++ x ∷ replicate b z) ≡ false
any_nowhere p zero b y x z e f g = rw f (any_replicate p b z g)
any_nowhere p (suc a) b y x z e f g = rw e (any_nowhere p a b y x z e f g)

-- no slot passes
pub nowhere : (p : Slot → Bool) (a b : ℕ) (y x z : Slot) → p y ≡ false → p x ≡ false → p z ≡ false → position p (replicate a y ++ x ∷ replicate b z) ≡ None
nowhere p a b y x z e f g = none_where_not_any p _ (any_nowhere p a b y x z e f g)

-- the one behind the front is the lowest that passes
pub first_at : (p : Slot → Bool) (a : ℕ) (y x : Slot) (ys : List Slot) → p y ≡ false → p x ≡ true → position p (replicate a y ++ x ∷ ys) ≡ Some a
first_at p zero y x ys e f = position_first p x ys f
first_at p (suc a) y x ys e f = position_later p y (replicate a y ++ x ∷ ys) e ∙ ap (λ o. option_map (λ (i : ℕ). suc i) o) (first_at p a y x ys e f)

pub any_at : (p : Slot → Bool) (a : ℕ) (y x : Slot) (ys : List Slot) → p y ≡ false → p x ≡ true → list_any p (replicate a y ++ x ∷ ys) ≡ true
any_at p a y x ys e f = sym (position_any p _) ∙ ap (λ o. is_some o) (first_at p a y x ys e f)

pub slot_at : (a : ℕ) (y x : Slot) (ys : List Slot) → slice_get (replicate a y ++ x ∷ ys) a ≡ Some x
slot_at zero y x ys = refl
slot_at (suc a) y x ys = slot_at a y x ys

pub put_at : (a : ℕ) (y x w : Slot) (ys : List Slot) → slice_set (replicate a y ++ x ∷ ys) a w ≡ replicate a y ++ w ∷ ys
put_at zero y x w ys = refl
put_at (suc a) y x w ys = ap (λ l. y ∷ l) (put_at a y x w ys)

-- one more that is alike
pub shift : (a : ℕ) (y : Slot) (ys : List Slot) → replicate a y ++ y ∷ ys ≡ replicate (suc a) y ++ ys
shift zero y ys = refl
shift (suc a) y ys = ap (λ l. y ∷ l) (shift a y ys)

pub none_drains : (n q i r : ℕ) → slice_get (replicate n (Serving q)) i ≡ Some (Draining r) → ⊥
none_drains zero q i r e = cc
none_drains (suc n) q zero r e = cc
none_drains (suc n) q (suc i) r e = none_drains n q i r e

-- where one drains, it is the one behind the front
pub drains_only_at : (a b t q i r : ℕ) (x : Slot) → slice_get (replicate a (Serving t) ++ x ∷ replicate b (Serving q)) i ≡ Some (Draining r) → (i ≡ a) × (x ≡ Draining r)
drains_only_at zero b t q zero r x e = (refl, cc)
drains_only_at zero b t q (suc i) r x e = absurd (none_drains b q i r e)
drains_only_at (suc a) b t q zero r x e = absurd (cc)
drains_only_at (suc a) b t q (suc i) r x e =
    let deep = drains_only_at a b t q i r x e in
    (ap (λ k. suc k) deep.0, deep.1)

away_behind : (a t : ℕ) (ys : List Slot) → count_by (λ slot. not (is_serving slot)) (replicate a (Serving t) ++ ys) ≡ count_by (λ slot. not (is_serving slot)) ys
away_behind zero t ys = refl
away_behind (suc a) t ys = let deep = away_behind a t ys in omega arith

pub none_away : (n q : ℕ) → count_by (λ slot. not (is_serving slot)) (replicate n (Serving q)) ≡ 0
none_away zero q = refl
none_away (suc n) q = let deep = none_away n q in omega arith

one_of : (b : Bool) (n : ℕ) → n ≡ 0 → (0 + cond b 1 0) + n ≤ 1
one_of true n e = omega arith
one_of false n e = omega arith

-- at most the one behind the front doesn't serve
pub one_away : (a b t q : ℕ) (x : Slot) → count_by (λ slot. not (is_serving slot)) (replicate a (Serving t) ++ x ∷ replicate b (Serving q)) ≤ 1
one_away a b t q x =
    rw (away_behind a t (x ∷ replicate b (Serving q)), sum_by-append (λ slot. cond (not (is_serving slot)) 1 0) (x ∷ []) (replicate b (Serving q)))
    (one_of (not (is_serving x)) (count_by (λ slot. not (is_serving slot)) (replicate b (Serving q))) (none_away b q))

pub below_next : (p : ℕ) → is_below (suc p) (Serving p) ≡ true
below_next p = grind (arith, nat_tests)

pub not_below_own : (p : ℕ) → is_below p (Serving p) ≡ false
not_below_own p = grind (arith, nat_tests)
