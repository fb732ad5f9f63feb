-- The lowest slot that passes a test.
use Rattle.std.proofs.Common.{◌≡◌, ℕ, suc, ◌+◌, ◌≤◌, List, [], ◌∷◌, length, Bool, true, false, cond, Option, None, Some, refl, sym, ◌∙◌, ap, arith}
use Rattle.std.specs.Prelude.{position, nat_lt, slice_get, ◌||◌, ◌&&◌}
use Rattle.std.specs.Option.{option_map, is_some}
use Rattle.std.specs.List.{list_any, list_all, position_or_len}
use Rattle.std.proofs.lemmas.List.Quantifiers.{position-Some}
use Rattle.std.proofs.lemmas.List.Sums.{fails_before_first}
use Rattle.std.proofs.lemmas.Option.{slice_get-get_or, slice_get_within, get_or_from_slice_get}
use Rattle.std.proofs.lemmas.Bool.Decides.{nat_tests}
use Rattle.master_core.specs.declared.slot.Slot.{Slot}
use Rattle.master_core.specs.declared.slot.Slot.TheVariants.{Vacant, Serving, Draining}
use Rattle.master_core.specs.Slots.{is_vacant, is_serving, is_draining, is_below}

lt_suc : (k n : ℕ) → nat_lt (1 + k) (suc n) ≡ nat_lt k n
lt_suc k n = grind (arith, nat_tests)

lifted : (b : Bool) (k : ℕ) → cond b (Some (1 + k)) None ≡ option_map (λ i. suc i) (cond b (Some k) None)
lifted true k = let e : 1 + k ≡ suc k = omega arith in ap (λ i. Some i) e
lifted false k = refl

pub position_first : (p : Slot → Bool) (x : Slot) (xs : List Slot) → p x ≡ true → position p (x ∷ xs) ≡ Some 0
position_first p x xs e = rw e (grind (arith, nat_tests))

pub position_later : (p : Slot → Bool) (x : Slot) (xs : List Slot) → p x ≡ false → position p (x ∷ xs) ≡ option_map (λ i. suc i) (position p xs)
position_later p x xs e =
    rw (e, lt_suc (position_or_len p xs) (length xs)) (lifted (nat_lt (position_or_len p xs) (length xs)) (position_or_len p xs))

-- the slot there passes
pub position_passes : (p : Slot → Bool) (xs : List Slot) (i : ℕ) → position p xs ≡ Some i → (x : Slot) × (slice_get xs i ≡ Some x) × (p x ≡ true)
position_passes p xs i e =
    let found = position-Some p xs i Vacant e in
    (_, slice_get-get_or xs i Vacant found.0, found.1)

cond_none : (b : Bool) (k : ℕ) → cond b (Some k) None ≡ None → b ≡ false
cond_none true k e = absurd (cc)
cond_none false k e = refl

not_less : (a b : ℕ) → nat_lt a b ≡ false → b ≤ a
not_less a b e = grind (arith, nat_tests)

-- where no slot passes, none does at any place
pub none_passes : (p : Slot → Bool) (xs : List Slot) (i : ℕ) (x : Slot) → position p xs ≡ None → slice_get xs i ≡ Some x → p x ≡ false
none_passes p xs i x none at =
    let within = slice_get_within xs i x at in
    let beyond = not_less _ _ (cond_none (nat_lt (position_or_len p xs) (length xs)) _ none) in
    rw (get_or_from_slice_get xs i x Vacant at) at (fails_before_first p xs i Vacant (omega arith))

serves_as : (x : Slot) → is_serving x ≡ true → (phase : ℕ) × (x ≡ Serving phase)
serves_as Vacant e = absurd (cc)
serves_as (Serving phase) e = (phase, refl)
serves_as (Draining phase) e = absurd (cc)

drains_as : (x : Slot) → is_draining x ≡ true → (phase : ℕ) × (x ≡ Draining phase)
drains_as Vacant e = absurd (cc)
drains_as (Serving phase) e = absurd (cc)
drains_as (Draining phase) e = (phase, refl)

below_as : (t : ℕ) (x : Slot) → is_below t x ≡ true → is_draining x ≡ false → (phase : ℕ) × (x ≡ Serving phase)
below_as t Vacant e f = absurd (cc)
below_as t (Serving phase) e f = (phase, refl)
below_as t (Draining phase) e f = absurd (cc)

-- the lowest slot that serves, serves
pub serving_there : (xs : List Slot) (i : ℕ) → position is_serving xs ≡ Some i → (phase : ℕ) × (slice_get xs i ≡ Some (Serving phase))
serving_there xs i e =
    let there = position_passes is_serving xs i e in
    let as_is = serves_as there.0 there.2 in
    (as_is.0, there.1 ∙ ap (λ x. Some x) as_is.1)

-- the lowest slot that drains, drains
pub draining_there : (xs : List Slot) (i : ℕ) → position is_draining xs ≡ Some i → (phase : ℕ) × (slice_get xs i ≡ Some (Draining phase))
draining_there xs i e =
    let there = position_passes is_draining xs i e in
    let as_is = drains_as there.0 there.2 in
    (as_is.0, there.1 ∙ ap (λ x. Some x) as_is.1)

-- the lowest slot below a phase serves, where none drains
pub below_there : (t : ℕ) (xs : List Slot) (i : ℕ) → position is_draining xs ≡ None → position (is_below t) xs ≡ Some i → (phase : ℕ) × (slice_get xs i ≡ Some (Serving phase))
below_there t xs i none e =
    let there = position_passes (is_below t) xs i e in
    let as_is = below_as t there.0 there.2 (none_passes is_draining xs i there.0 none there.1) in
    (as_is.0, there.1 ∙ ap (λ x. Some x) as_is.1)

lifted_is_some : (o : Option ℕ) → is_some (option_map (λ (i : ℕ). suc i) o) ≡ is_some o
lifted_is_some None = refl
lifted_is_some (Some i) = refl

any_step : (p : Slot → Bool) (x : Slot) (xs : List Slot) (b : Bool) → p x ≡ b → is_some (position p xs) ≡ list_any p xs → is_some (position p (x ∷ xs)) ≡ list_any p (x ∷ xs)
any_step p x xs true e ih = ap is_some (position_first p x xs e) ∙ sym (rw e)
any_step p x xs false e ih = ap is_some (position_later p x xs e) ∙ lifted_is_some (position p xs) ∙ ih ∙ sym (rw e)

-- a slot passes exactly where there is a lowest one
pub position_any : (p : Slot → Bool) (xs : List Slot) → is_some (position p xs) ≡ list_any p xs
position_any p [] = refl
position_any p (x ∷ xs) = any_step p x xs (p x) refl (position_any p xs)

-- no answer
pub is_none : (o : Option ℕ) → is_some o ≡ false → o ≡ None
is_none None e = refl
is_none (Some i) e = absurd (cc)

pub none_where_not_any : (p : Slot → Bool) (xs : List Slot) → list_any p xs ≡ false → position p xs ≡ None
none_where_not_any p xs e = is_none (position p xs) (position_any p xs ∙ e)

vacant_serves_not : (x : Slot) (rest some : Bool) → (is_vacant x && rest) ≡ true → (rest ≡ true → some ≡ false) → (is_serving x || some) ≡ false
vacant_serves_not Vacant rest some e f = f e
vacant_serves_not (Serving phase) rest some e f = absurd (cc)
vacant_serves_not (Draining phase) rest some e f = absurd (cc)

none_serves : (xs : List Slot) → list_all is_vacant xs ≡ true → list_any is_serving xs ≡ false
none_serves [] e = refl
none_serves (x ∷ xs) e = vacant_serves_not x _ _ e (none_serves xs)

-- where all slots are vacant none serves
pub vacant_none_serves : (xs : List Slot) → list_all is_vacant xs ≡ true → position is_serving xs ≡ None
vacant_none_serves xs e = none_where_not_any is_serving xs (none_serves xs e)
