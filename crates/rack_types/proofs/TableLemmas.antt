-- Pairs in a list of which the first so many stand: where a name is first, and what a write there does.
use Rattle.std.proofs.Common.{◌≡◌, ℕ, zero, suc, ◌+◌, ◌-◌, ◌<◌, ◌≤◌, Bool, true, false, cond, List, [], ◌∷◌, ◌++◌, length, take, Some, None, slice_get, set, get_or, not, ◌==◌, refl, sym, ap, subst, ◌∙◌, arith, bytes_eq}
use Rattle.std.specs.List.{AllByRecursion, IsDistinct, position_or_len, remove, swap}
use Rattle.std.specs.Map.{keys_of, lookup, values_of}
use Rattle.std.proofs.lemmas.Slice.Eq.{bytes_eq-Decides}
use Rattle.std.proofs.lemmas.Option.{slice_get-get_or}
use Rattle.indexmap.specs.IndexMap.{insert_entry}
use Rattle.indexmap.specs.Layout.{set_value_at}
use Rattle.rack_types.specs.Env.{Pairs, get_pair, set_pair, extend_pair, add_pair, remove_pair, AreDistinct}
use Rattle.rack_types.specs.Table.{IsFirstAt, counted}
use Rattle.rack_types.proofs.PairLaws.{set_pair-new}

module _ (name : List ℕ) where
  -- what a name has where it is first
  pub get_first : (es : Pairs) (n i : ℕ) (k v : List ℕ) → IsFirstAt name es i → i < n → slice_get es i ≡ Some (k, v) → get_pair name (take n es) ≡ Some v
  get_first [] n i k v first below at = absurd first
  get_first (e ∷ es) zero i k v first below at = absurd (omega (arith, below))
  get_first (e ∷ es) (suc n) zero k v first below at =
      let value : e.1 ≡ v = cc in
      ap (λ b. cond b (Some e.1) (get_pair name (take n es))) first ∙ ap (λ (x : List ℕ). Some x) value
  get_first (e ∷ es) (suc n) (suc i) k v first below at =
      ap (λ b. cond b (Some e.1) (get_pair name (take n es))) first.0 ∙ get_first es n i k v first.1 (omega (arith, below)) at

  -- a write where the name stands
  pub set_first : (es : Pairs) (n i : ℕ) (w : List ℕ) → IsFirstAt name es i → i < n → take n (set_value_at es i w) ≡ set_pair name w (take n es)
  set_first [] n i w first below = absurd first
  set_first (e ∷ es) zero i w first below = absurd (omega (arith, below))
  set_first (e ∷ es) (suc n) zero w first below =
      sym (ap (λ b. cond b ((e.0, w) ∷ take n es) (e ∷ set_pair name w (take n es))) first)
  set_first (e ∷ es) (suc n) (suc i) w first below =
      ap (λ (ps : Pairs). e ∷ ps) (set_first es n i w first.1 (omega (arith, below)))
      ∙ sym (ap (λ b. cond b ((e.0, w) ∷ take n es) (e ∷ set_pair name w (take n es))) first.0)

  -- a write behind what stands
  set_next : (es : Pairs) (n : ℕ) (w : List ℕ) → IsFirstAt name es n → take (suc n) (set_value_at es n w) ≡ set_pair name w (take n es)
  set_next [] n w first = absurd first
  set_next (e ∷ es) zero w first = ap (λ (x : List ℕ). (x, w) ∷ []) (sym ((bytes_eq-Decides name e.0).0 first))
  set_next (e ∷ es) (suc n) w first =
      ap (λ (ps : Pairs). e ∷ ps) (set_next es n w first.1)
      ∙ sym (ap (λ b. cond b ((e.0, w) ∷ take n es) (e ∷ set_pair name w (take n es))) first.0)

  -- the value goes on
  pub extend_first : (es : Pairs) (n i : ℕ) (k v w more : List ℕ) → IsFirstAt name es i → i < n → slice_get es i ≡ Some (k, v) → w ≡ v ++ more → take n (set_value_at es i w) ≡ extend_pair name more (take n es)
  extend_first [] n i k v w more first below at longer = absurd first
  extend_first (e ∷ es) zero i k v w more first below at longer = absurd (omega (arith, below))
  extend_first (e ∷ es) (suc n) zero k v w more first below at longer =
      let value : v ≡ e.1 = cc in
      ap (λ (x : List ℕ). (e.0, x) ∷ take n es) (longer ∙ ap (λ (x : List ℕ). x ++ more) value)
      ∙ sym (ap (λ b. cond b ((e.0, e.1 ++ more) ∷ take n es) (e ∷ extend_pair name more (take n es))) first)
  extend_first (e ∷ es) (suc n) (suc i) k v w more first below at longer =
      ap (λ (ps : Pairs). e ∷ ps) (extend_first es n i k v w more first.1 (omega (arith, below)) at longer)
      ∙ sym (ap (λ b. cond b ((e.0, e.1 ++ more) ∷ take n es) (e ∷ extend_pair name more (take n es))) first.0)

  -- a name that is there goes on
  pub add_there : (separator more v : List ℕ) (ps : Pairs) → get_pair name ps ≡ Some v → add_pair name separator more ps ≡ extend_pair name (separator ++ more) ps
  add_there separator more v [] there = cc
  add_there separator more v (p ∷ ps) there = by (bytes_eq name p.0) (add_there separator more v ps) there
    where
      by : (t : Bool) → (get_pair name ps ≡ Some v → add_pair name separator more ps ≡ extend_pair name (separator ++ more) ps) → cond t (Some p.1) (get_pair name ps) ≡ Some v
          → cond t ((p.0, p.1 ++ (separator ++ more)) ∷ ps) (p ∷ add_pair name separator more ps) ≡ cond t ((p.0, p.1 ++ (separator ++ more)) ∷ ps) (p ∷ extend_pair name (separator ++ more) ps)
      by true rest there = refl
      by false rest there = ap (λ (qs : Pairs). p ∷ qs) (rest there)

  -- and one that isn't is set
  pub add_absent : (separator more : List ℕ) (ps : Pairs) → get_pair name ps ≡ None → add_pair name separator more ps ≡ set_pair name more ps
  add_absent separator more [] absent = refl
  add_absent separator more (p ∷ ps) absent = by (bytes_eq name p.0) (add_absent separator more ps) absent
    where
      by : (t : Bool) → (get_pair name ps ≡ None → add_pair name separator more ps ≡ set_pair name more ps) → cond t (Some p.1) (get_pair name ps) ≡ None
          → cond t ((p.0, p.1 ++ (separator ++ more)) ∷ ps) (p ∷ add_pair name separator more ps) ≡ cond t ((p.0, more) ∷ ps) (p ∷ set_pair name more ps)
      by true rest absent = cc
      by false rest absent = ap (λ (qs : Pairs). p ∷ qs) (rest absent)

  -- a name that comes first behind what stands does not stand
  pub absent_before : (es : Pairs) (n i : ℕ) → IsFirstAt name es i → n ≤ i → get_pair name (take n es) ≡ None
  absent_before [] n i first past = absurd first
  absent_before (e ∷ es) zero i first past = refl
  absent_before (e ∷ es) (suc n) zero first past = absurd (omega (arith, past))
  absent_before (e ∷ es) (suc n) (suc i) first past =
      ap (λ b. cond b (Some e.1) (get_pair name (take n es))) first.0 ∙ absent_before es n i first.1 (omega (arith, past))

  -- nor does one that is nowhere
  pub absent_take : (es : Pairs) (n : ℕ) → lookup (bytes_eq name) es ≡ None → get_pair name (take n es) ≡ None
  absent_take [] zero absent = refl
  absent_take [] (suc n) absent = refl
  absent_take (e ∷ es) zero absent = refl
  absent_take (e ∷ es) (suc n) absent = by (bytes_eq name e.0) (absent_take es n) absent
    where
      by : (t : Bool) → (lookup (bytes_eq name) es ≡ None → get_pair name (take n es) ≡ None) → cond t (Some e.1) (lookup (bytes_eq name) es) ≡ None → cond t (Some e.1) (get_pair name (take n es)) ≡ None
      by true rest absent = cc
      by false rest absent = rest absent

  -- a pair that stands is taken out
  pub remove_first : (es : Pairs) (n i : ℕ) → IsFirstAt name es i → i ≤ n → take n (remove es i) ≡ remove_pair name (take (suc n) es)
  remove_first [] n i first below = absurd first
  remove_first (e ∷ es) n zero first below = sym (ap (λ b. cond b (take n es) (e ∷ remove_pair name (take n es))) first)
  remove_first (e ∷ es) zero (suc i) first below = absurd (omega (arith, below))
  remove_first (e ∷ es) (suc n) (suc i) first below =
      ap (λ (ps : Pairs). e ∷ ps) (remove_first es n i first.1 (omega (arith, below)))
      ∙ sym (ap (λ b. cond b (take (suc n) es) (e ∷ remove_pair name (take (suc n) es))) first.0)

  key_at : (other : List ℕ) (es : Pairs) (i : ℕ) (k v : List ℕ) → AllByRecursion (λ y. bytes_eq other y ≡ false) (keys_of es) → slice_get es i ≡ Some (k, v) → bytes_eq other k ≡ false
  key_at other [] i k v apart at = cc
  key_at other (e ∷ es) zero k v apart at =
      let same : k ≡ e.0 = cc in
      ap (bytes_eq other) same ∙ apart.0
  key_at other (e ∷ es) (suc i) k v apart at = key_at other es i k v apart.1 at

  -- in distinct pairs a name is first where it is
  pub first_at : (es : Pairs) (i : ℕ) (k v : List ℕ) → IsDistinct bytes_eq (keys_of es) → slice_get es i ≡ Some (k, v) → bytes_eq name k ≡ true → IsFirstAt name es i
  unfolding IsDistinct
  first_at [] i k v distinct at same = cc
  first_at (e ∷ es) zero k v distinct at same =
      let here : k ≡ e.0 = cc in
      sym (ap (bytes_eq name) here) ∙ same
  first_at (e ∷ es) (suc i) k v distinct at same =
      (by (bytes_eq name e.0) refl, first_at es i k v distinct.1 at same)
    where
      by : (t : Bool) → bytes_eq name e.0 ≡ t → t ≡ false
      by false is = refl
      by true is =
          let here : e.0 ≡ k = sym ((bytes_eq-Decides name e.0).0 is) ∙ (bytes_eq-Decides name k).0 same in
          sym ((bytes_eq-Decides e.0 k).1 here) ∙ key_at e.0 es i k v distinct.0 at

-- a write keeps what stands before it
pub same_before : (es : Pairs) (n i : ℕ) (w : List ℕ) → n ≤ i → take n (set_value_at es i w) ≡ take n es
same_before [] n i w past = refl
same_before (e ∷ es) zero i w past = refl
same_before (e ∷ es) (suc n) zero w past = absurd (omega (arith, past))
same_before (e ∷ es) (suc n) (suc i) w past = ap (λ (ps : Pairs). e ∷ ps) (same_before es n i w (omega (arith, past)))

-- a write of what is there changes nothing
pub same_value : (es : Pairs) (i : ℕ) (k v w : List ℕ) → slice_get es i ≡ Some (k, v) → w ≡ v → set_value_at es i w ≡ es
same_value [] i k v w at same = refl
same_value (e ∷ es) zero k v w at same =
    let value : v ≡ e.1 = cc in
    ap (λ (x : List ℕ). (e.0, x) ∷ es) (same ∙ value)
same_value (e ∷ es) (suc i) k v w at same = ap (λ (ps : Pairs). e ∷ ps) (same_value es i k v w at same)

-- a write where a name stands, or behind what stands
pub set_counted : (name : List ℕ) (es : Pairs) (n i : ℕ) (w : List ℕ) → IsFirstAt name es i → i ≤ n → take (counted i n) (set_value_at es i w) ≡ set_pair name w (take n es)
set_counted name es n i w first below = by (i == n) refl
  where
    by : (t : Bool) → (i == n) ≡ t → take (cond t (n + 1) n) (set_value_at es i w) ≡ set_pair name w (take n es)
    by true is =
        let same : i ≡ n = grind (arith, is) in
        let next : i + 1 ≡ suc i = omega arith in
        subst (λ (m : ℕ). take (m + 1) (set_value_at es i w) ≡ set_pair name w (take m es)) same
        (ap (λ (m : ℕ). take m (set_value_at es i w)) next ∙ set_next name es i w first)
    by false is = set_first name es n i w first (grind (arith, is, below))

-- distinct names stay so in what stands
pub AreDistinct-take : (es : Pairs) (n : ℕ) → IsDistinct bytes_eq (keys_of es) → AreDistinct (take n es)
unfolding IsDistinct
AreDistinct-take [] zero distinct = tt
AreDistinct-take [] (suc n) distinct = tt
AreDistinct-take (e ∷ es) zero distinct = tt
AreDistinct-take (e ∷ es) (suc n) distinct = (absent e.0 es n distinct.0, AreDistinct-take es n distinct.1)
  where
    absent : (k : List ℕ) (fs : Pairs) (m : ℕ) → AllByRecursion (λ y. bytes_eq k y ≡ false) (keys_of fs) → get_pair k (take m fs) ≡ None
    absent k [] zero apart = refl
    absent k [] (suc m) apart = refl
    absent k (f ∷ fs) zero apart = refl
    absent k (f ∷ fs) (suc m) apart =
        ap (λ b. cond b (Some f.1) (get_pair k (take m fs))) apart.0 ∙ absent k fs m apart.1

-- what stands at a place
pub get_take : (es : Pairs) (n i : ℕ) → i < n → slice_get (take n es) i ≡ slice_get es i
get_take es zero i below = absurd (omega (arith, below))
get_take [] (suc n) i below = refl
get_take (e ∷ es) (suc n) zero below = refl
get_take (e ∷ es) (suc n) (suc i) below = get_take es n i (omega (arith, below))

-- one more stands
take_next : (es : Pairs) (n : ℕ) (p : List ℕ × List ℕ) → slice_get es n ≡ Some p → take (suc n) es ≡ take n es ++ p ∷ []
take_next [] n p at = cc
take_next (e ∷ es) zero p at =
    let here : e ≡ p = cc in
    ap (λ (q : List ℕ × List ℕ). q ∷ []) here
take_next (e ∷ es) (suc n) p at = ap (λ (ps : Pairs). e ∷ ps) (take_next es n p at)

-- a new pair stands behind the others
pub put_next : (es ps : Pairs) (n : ℕ) (name value : List ℕ) → take n es ≡ ps → slice_get es n ≡ Some (name, value) → get_pair name ps ≡ None
    → take (n + 1) es ≡ set_pair name value ps
put_next es ps n name value same at absent =
    let next : n + 1 ≡ suc n = omega arith in
    ap (λ (m : ℕ). take m es) next ∙ take_next es n (name, value) at ∙ ap (λ (qs : Pairs). qs ++ (name, value) ∷ []) same ∙ sym (set_pair-new name value ps absent)

-- an insertion of a name that does not stand keeps what stands
pub insert_keeps : (es : Pairs) (n : ℕ) (k v : List ℕ) → get_pair k (take n es) ≡ None → n ≤ length es → take n (insert_entry bytes_eq es k v) ≡ take n es
insert_keeps es zero k v absent within = refl
insert_keeps [] (suc n) k v absent within = absurd (omega (arith, within))
insert_keeps (e ∷ es) (suc n) k v absent within =
    by (bytes_eq k e.0) (λ none. insert_keeps es n k v none (omega (arith, within))) absent
  where
    by : (t : Bool) → (get_pair k (take n es) ≡ None → take n (insert_entry bytes_eq es k v) ≡ take n es) → cond t (Some e.1) (get_pair k (take n es)) ≡ None
        → take (suc n) (cond t ((e.0, v) ∷ es) (e ∷ insert_entry bytes_eq es k v)) ≡ e ∷ take n es
    by true rest none = cc
    by false rest none = ap (λ (ps : Pairs). e ∷ ps) (rest none)

-- one of a name that stands writes its value there
pub insert_there : (es : Pairs) (n : ℕ) (k v : List ℕ) → position_or_len (bytes_eq k) (keys_of es) < n → n ≤ length es → take n (insert_entry bytes_eq es k v) ≡ set_pair k v (take n es)
insert_there es zero k v before within = absurd (omega (arith, before))
insert_there [] (suc n) k v before within = absurd (omega (arith, within))
insert_there (e ∷ es) (suc n) k v before within =
    by (bytes_eq k e.0) (λ rest. insert_there es n k v rest (omega (arith, within))) before
  where
    by : (t : Bool) → (position_or_len (bytes_eq k) (keys_of es) < n → take n (insert_entry bytes_eq es k v) ≡ set_pair k v (take n es))
        → cond (not t) (1 + position_or_len (bytes_eq k) (keys_of es)) 0 < suc n
        → take (suc n) (cond t ((e.0, v) ∷ es) (e ∷ insert_entry bytes_eq es k v)) ≡ cond t ((e.0, v) ∷ take n es) (e ∷ set_pair k v (take n es))
    by true rest before = refl
    by false rest before = ap (λ (ps : Pairs). e ∷ ps) (rest (omega (arith, before)))

-- a name whose place is behind what stands does not stand
pub absent_behind : (es : Pairs) (n : ℕ) (k : List ℕ) → n ≤ position_or_len (bytes_eq k) (keys_of es) → n ≤ length es → get_pair k (take n es) ≡ None
absent_behind es zero k past within = refl
absent_behind [] (suc n) k past within = absurd (omega (arith, within))
absent_behind (e ∷ es) (suc n) k past within =
    by (bytes_eq k e.0) (λ rest. absent_behind es n k rest (omega (arith, within))) past
  where
    by : (t : Bool) → (n ≤ position_or_len (bytes_eq k) (keys_of es) → get_pair k (take n es) ≡ None)
        → suc n ≤ cond (not t) (1 + position_or_len (bytes_eq k) (keys_of es)) 0
        → cond t (Some e.1) (get_pair k (take n es)) ≡ None
    by true rest past = absurd (omega (arith, past))
    by false rest past = rest (omega (arith, past))

-- where an insertion puts its value
insert_at : (es : Pairs) (k v : List ℕ) → slice_get (insert_entry bytes_eq es k v) (position_or_len (bytes_eq k) (keys_of es)) ≡ Some (k, v)
insert_at [] k v = refl
insert_at (e ∷ es) k v = by (bytes_eq k e.0) refl (insert_at es k v)
  where
    by : (t : Bool) → bytes_eq k e.0 ≡ t → slice_get (insert_entry bytes_eq es k v) (position_or_len (bytes_eq k) (keys_of es)) ≡ Some (k, v)
        → slice_get (cond t ((e.0, v) ∷ es) (e ∷ insert_entry bytes_eq es k v)) (cond (not t) (1 + position_or_len (bytes_eq k) (keys_of es)) 0) ≡ Some (k, v)
    by true is rest = ap (λ (x : List ℕ). Some (x, v)) (sym ((bytes_eq-Decides k e.0).0 is))
    by false is rest =
        let at = position_or_len (bytes_eq k) (keys_of es) in
        let next : 1 + at ≡ suc at = omega arith in
        ap (λ (m : ℕ). slice_get (e ∷ insert_entry bytes_eq es k v) m) next ∙ rest

pub inserted : (es fs : Pairs) (i : ℕ) (k v : List ℕ) → fs ≡ insert_entry bytes_eq es k v → i ≡ position_or_len (bytes_eq k) (keys_of es) → slice_get fs i ≡ Some (k, v)
inserted es fs i k v are place =
    ap (λ (gs : Pairs). slice_get gs i) are ∙ ap (slice_get (insert_entry bytes_eq es k v)) place ∙ insert_at es k v

take_set : (es : Pairs) (n i : ℕ) (p : List ℕ × List ℕ) → n ≤ i → take n (set es i p) ≡ take n es
take_set [] n i p past = refl
take_set (e ∷ es) zero i p past = refl
take_set (e ∷ es) (suc n) zero p past = absurd (omega (arith, past))
take_set (e ∷ es) (suc n) (suc i) p past = ap (λ (ps : Pairs). e ∷ ps) (take_set es n i p (omega (arith, past)))

-- a swap behind what stands keeps it
pub swap_keeps : (es : Pairs) (n i : ℕ) → n ≤ i → take n (swap es n i) ≡ take n es
swap_keeps [] n i past = refl
swap_keeps (e ∷ es) n i past =
    take_set (set (e ∷ es) n (get_or (e ∷ es) i e)) n i (get_or (e ∷ es) n e) past
    ∙ take_set (e ∷ es) n n (get_or (e ∷ es) i e) (omega arith)

get_set : (es : Pairs) (i : ℕ) (p : List ℕ × List ℕ) → i < length es → slice_get (set es i p) i ≡ Some p
get_set [] i p within = absurd (omega (arith, within))
get_set (e ∷ es) zero p within = refl
get_set (e ∷ es) (suc i) p within = get_set es i p (omega (arith, within))

get_set_other : (es : Pairs) (n i : ℕ) (p : List ℕ × List ℕ) → n < i → slice_get (set es i p) n ≡ slice_get es n
get_set_other [] n i p apart = refl
get_set_other (e ∷ es) n zero p apart = absurd (omega (arith, apart))
get_set_other (e ∷ es) zero (suc i) p apart = refl
get_set_other (e ∷ es) (suc n) (suc i) p apart = get_set_other es n i p (omega (arith, apart))

set_same : (es : Pairs) (i : ℕ) (d : List ℕ × List ℕ) → set es i (get_or es i d) ≡ es
set_same [] i d = refl
set_same (e ∷ es) zero d = refl
set_same (e ∷ es) (suc i) d = ap (λ (ps : Pairs). e ∷ ps) (set_same es i d)

-- and brings an entry there
pub swap_brings : (es : Pairs) (n i : ℕ) → n ≤ i → i < length es → slice_get (swap es n i) n ≡ slice_get es i
swap_brings [] n i past within = absurd (omega (arith, within))
swap_brings (e ∷ es) n i past within = by (n == i) refl
  where
    by : (t : Bool) → (n == i) ≡ t → slice_get (swap (e ∷ es) n i) n ≡ slice_get (e ∷ es) i
    by true is =
        let same : n ≡ i = grind (arith, is) in
        subst (λ (m : ℕ). slice_get (swap (e ∷ es) n m) n ≡ slice_get (e ∷ es) m) same
        (ap (λ (ps : Pairs). slice_get (set ps n (get_or (e ∷ es) n e)) n) (set_same (e ∷ es) n e) ∙ ap (λ (ps : Pairs). slice_get ps n) (set_same (e ∷ es) n e))
    by false is =
        let apart : n < i = grind (arith, is, past) in
        let inside : n < length (e ∷ es) = omega (arith, apart, within) in
        get_set_other (set (e ∷ es) n (get_or (e ∷ es) i e)) n i (get_or (e ∷ es) n e) apart
        ∙ get_set (e ∷ es) n (get_or (e ∷ es) i e) inside
        ∙ sym (slice_get-get_or (e ∷ es) i e within)

-- an entry by its value
pub record EntryAt (es : Pairs) (i : ℕ) (v : List ℕ) : Type 0 where
  pub name : List ℕ
  pub is : slice_get es i ≡ Some (name, v)

pub entry_at : (es : Pairs) (i : ℕ) (v : List ℕ) → slice_get (values_of es) i ≡ Some v → EntryAt es i v
entry_at [] i v at = cc
entry_at (e ∷ es) zero v at =
    let same : e.1 ≡ v = cc in
    record { name = e.0; is = ap (λ (x : List ℕ). Some (e.0, x)) same }
entry_at (e ∷ es) (suc i) v at =
    let rest = entry_at es i v at in
    record { name = rest.name; is = rest.is }

-- the entry where a name is first
pub record FirstEntry (name : List ℕ) (es : Pairs) (i : ℕ) : Type 0 where
  pub key : List ℕ
  pub value : List ℕ
  pub is : slice_get es i ≡ Some (key, value)
  pub same : bytes_eq name key ≡ true

pub first_entry : (name : List ℕ) (es : Pairs) (i : ℕ) → IsFirstAt name es i → FirstEntry name es i
first_entry name [] i first = absurd first
first_entry name (e ∷ es) zero first = record { key = e.0; value = e.1; is = refl; same = first }
first_entry name (e ∷ es) (suc i) first =
    let rest = first_entry name es i first.1 in
    record { key = rest.key; value = rest.value; is = rest.is; same = rest.same }

-- with no such name there is nothing to go on with
pub extend_pair-absent : (name more : List ℕ) (ps : Pairs) → get_pair name ps ≡ None → extend_pair name more ps ≡ ps
extend_pair-absent name more [] absent = refl
extend_pair-absent name more (p ∷ ps) absent = by (bytes_eq name p.0) (extend_pair-absent name more ps) absent
  where
    by : (t : Bool) → (get_pair name ps ≡ None → extend_pair name more ps ≡ ps) → cond t (Some p.1) (get_pair name ps) ≡ None → cond t ((p.0, p.1 ++ more) ∷ ps) (p ∷ extend_pair name more ps) ≡ p ∷ ps
    by true rest absent = cc
    by false rest absent = ap (λ (qs : Pairs). p ∷ qs) (rest absent)

-- nor to take out
pub remove_pair-absent : (name : List ℕ) (ps : Pairs) → get_pair name ps ≡ None → remove_pair name ps ≡ ps
remove_pair-absent name [] absent = refl
remove_pair-absent name (p ∷ ps) absent = by (bytes_eq name p.0) (remove_pair-absent name ps) absent
  where
    by : (t : Bool) → (get_pair name ps ≡ None → remove_pair name ps ≡ ps) → cond t (Some p.1) (get_pair name ps) ≡ None → cond t ps (p ∷ remove_pair name ps) ≡ p ∷ ps
    by true rest absent = cc
    by false rest absent = ap (λ (qs : Pairs). p ∷ qs) (rest absent)

-- what stands once the pair at a place does
pub stood : (name : List ℕ) (es fs : Pairs) (n m i : ℕ) (w : List ℕ) → IsFirstAt name es i → i ≤ n → m ≡ counted i n → fs ≡ set_value_at es i w
    → take m fs ≡ set_pair name w (take n es)
stood name es fs n m i w first below count are =
    ap (λ (k : ℕ). take k fs) count ∙ ap (take (counted i n)) are ∙ set_counted name es n i w first below

-- a pair that stands is taken out, and one less stands
pub removed : (name : List ℕ) (es : Pairs) (n i : ℕ) → IsFirstAt name es i → i < n → take (n - 1) (remove es i) ≡ remove_pair name (take n es)
removed name es n i first below =
    let whole : suc (n - 1) ≡ n = omega (arith, below) in
    remove_first name es (n - 1) i first (omega (arith, below)) ∙ ap (λ (k : ℕ). remove_pair name (take k es)) whole
