-- The lives of a connection that is placed: the last one is looked up by its number in the list.
use Rattle.std.proofs.Common.{◌≡◌, ◌≢◌, ℕ, zero, suc, ◌-◌, ◌<◌, ◌≤◌, ◌==◌, Bool, true, false, List, [], ◌∷◌, ◌++◌, length, slice_index_or, slice_set, refl, ap, sym, ◌∙◌, length-append, arith}
use Rattle.std.proofs.lemmas.Bool.Decides.{nat_tests}
use Rattle.talk_core.specs.declared.ended.Life.{Life}
use Rattle.talk_core.specs.Lives.{lives_limit, placed_by, placed_lives}

-- the last life has the phase already
by_same : (same unused : Bool) (phase calls : ℕ) (life : Life) → same ≡ true → life ∷ [] ≡ placed_by same unused phase calls life
by_same true unused phase calls life e = refl
by_same false unused phase calls life e = cc

-- nothing was run in it
by_unused : (same unused : Bool) (phase calls : ℕ) (life : Life) → same ≡ false → unused ≡ true
    → record { first = life.first; phase = phase } ∷ [] ≡ placed_by same unused phase calls life
by_unused true unused phase calls life e f = cc
by_unused false true phase calls life e f = refl
by_unused false false phase calls life e f = cc

-- neither
by_more : (same unused : Bool) (phase calls : ℕ) (life : Life) → same ≡ false → unused ≡ false
    → life ∷ record { first = calls; phase = phase } ∷ [] ≡ placed_by same unused phase calls life
by_more true unused phase calls life e f = cc
by_more false true phase calls life e f = cc
by_more false false phase calls life e f = refl

-- the last of some lives, one further on
abbrev last_of : List Life → Life → Life
last_of lives d = slice_index_or lives (length lives - 1) d

last_behind : (x y : Life) (lives : List Life) (d : Life) → last_of (x ∷ y ∷ lives) d ≡ last_of (y ∷ lives) d
last_behind x y lives d =
    let next : suc (suc (length lives)) - 1 ≡ suc (suc (length lives) - 1) = omega arith in
    ap (λ (n : ℕ). slice_index_or (x ∷ y ∷ lives) n d) next

placed_same : (lives : List Life) (d : Life) (phase calls : ℕ) → length lives ≢ 0 → (last_of lives d).phase ≡ phase
    → lives ≡ placed_lives phase calls lives
placed_same [] d phase calls some e = absurd (some refl)
placed_same (x ∷ []) d phase calls some e = by_same (x.phase == phase) (x.first == calls) phase calls x (grind (arith, nat_tests, e))
placed_same (x ∷ y ∷ lives) d phase calls some e =
    ap (λ (z : List Life). x ∷ z)
    (placed_same (y ∷ lives) d phase calls (λ e. cc) (sym (ap (λ (l : Life). l.phase) (last_behind x y lives d)) ∙ e))

placed_more : (lives : List Life) (d : Life) (phase calls : ℕ) → length lives ≢ 0 → (last_of lives d).phase ≢ phase → (last_of lives d).first ≢ calls
    → lives ++ record { first = calls; phase = phase } ∷ [] ≡ placed_lives phase calls lives
placed_more [] d phase calls some e f = absurd (some refl)
placed_more (x ∷ []) d phase calls some e f =
    by_more (x.phase == phase) (x.first == calls) phase calls x (grind (arith, nat_tests, e)) (grind (arith, nat_tests, f))
placed_more (x ∷ y ∷ lives) d phase calls some e f =
    ap (λ (z : List Life). x ∷ z)
    (placed_more (y ∷ lives) d phase calls (λ e. cc) (λ g. e (ap (λ (l : Life). l.phase) (last_behind x y lives d) ∙ g))
    (λ g. f (ap (λ (l : Life). l.first) (last_behind x y lives d) ∙ g)))

placed_unused : (lives : List Life) (d : Life) (phase calls : ℕ) → length lives ≢ 0 → (last_of lives d).phase ≢ phase → (last_of lives d).first ≡ calls
    → slice_set lives (length lives - 1) (record { first = calls; phase = phase }) ≡ placed_lives phase calls lives
placed_unused [] d phase calls some e f = absurd (some refl)
placed_unused (x ∷ []) d phase calls some e f =
    ap (λ (n : ℕ). record { first = n; phase = phase } ∷ []) (sym f)
    ∙ by_unused (x.phase == phase) (x.first == calls) phase calls x (grind (arith, nat_tests, e)) (grind (arith, nat_tests, f))
placed_unused (x ∷ y ∷ lives) d phase calls some e f =
    let next : suc (suc (length lives)) - 1 ≡ suc (suc (length lives) - 1) = omega arith in
    let new : Life = record { first = calls; phase = phase } in
    ap (λ (n : ℕ). slice_set (x ∷ y ∷ lives) n new) next
    ∙ ap (λ (z : List Life). x ∷ z)
    (placed_unused (y ∷ lives) d phase calls (λ e. cc) (λ g. e (ap (λ (l : Life). l.phase) (last_behind x y lives d) ∙ g))
    (sym (ap (λ (l : Life). l.first) (last_behind x y lives d)) ∙ f))

-- a life that was looked up there is the last one, whatever stands where there is none
in_list : (lives : List Life) (i : ℕ) (v w : Life) → i < length lives → slice_index_or lives i v ≡ slice_index_or lives i w
in_list [] i v w lt = absurd (omega (arith, lt))
in_list (x ∷ lives) zero v w lt = refl
in_list (x ∷ lives) (suc i) v w lt = let less : i < length lives = omega (arith, lt) in in_list lives i v w less

-- a list of so many lives, the last of which is this one
pub record IsLast (lives : List Life) (n : ℕ) (v : Life) : Type 0 where
  pub count : n ≡ length lives
  pub some : n ≢ 0
  pub value : v ≡ slice_index_or lives (n - 1) v

some_lives : (lives : List Life) (n : ℕ) (v : Life) → IsLast lives n v → length lives ≢ 0
some_lives lives n v h none = h.some (h.count ∙ none)

is_last_of : (lives : List Life) (n : ℕ) (v : Life) → IsLast lives n v → last_of lives v ≡ v
is_last_of lives n v h = sym (h.value ∙ ap (λ (i : ℕ). slice_index_or lives (i - 1) v) h.count)

same_last : (lives : List Life) (n : ℕ) (v w : Life) → IsLast lives n v → IsLast lives n w → w ≡ v
same_last lives n v w h i =
    let less : n - 1 < length lives = omega (arith, h.count, h.some) in
    i.value ∙ in_list lives (n - 1) w v less ∙ sym h.value

pub last_same : (lives : List Life) (n phase calls : ℕ) (v : Life) → IsLast lives n v → v.phase ≡ phase → lives ≡ placed_lives phase calls lives
last_same lives n phase calls v h e =
    placed_same lives v phase calls (some_lives lives n v h) (ap (λ (l : Life). l.phase) (is_last_of lives n v h) ∙ e)

pub last_more : (lives : List Life) (n phase calls : ℕ) (v w : Life) → IsLast lives n v → IsLast lives n w → v.phase ≢ phase → w.first ≢ calls
    → lives ++ record { first = calls; phase = phase } ∷ [] ≡ placed_lives phase calls lives
last_more lives n phase calls v w h i e f =
    let last = is_last_of lives n v h in
    placed_more lives v phase calls (some_lives lives n v h) (λ g. e (sym (ap (λ (l : Life). l.phase) last) ∙ g))
    (λ g. f (ap (λ (l : Life). l.first) (same_last lives n v w h i ∙ sym last) ∙ g))

-- where one more is appended, there were fewer than 64
pub last_room : (lives : List Life) (n phase calls : ℕ) (v w : Life) → IsLast lives n v → IsLast lives n w → v.phase ≢ phase → w.first ≢ calls
    → length (placed_lives phase calls lives) ≤ lives_limit → length lives < lives_limit
last_room lives n phase calls v w h i e f few =
    let new : Life = record { first = calls; phase = phase } in
    let all : length (lives ++ new ∷ []) ≡ length (placed_lives phase calls lives) = ap length (last_more lives n phase calls v w h i e f) in
    omega (arith, few, all, length-append lives (new ∷ []))

pub last_unused : (lives : List Life) (n phase calls : ℕ) (v w u : Life) → IsLast lives n v → IsLast lives n w → IsLast lives n u → v.phase ≢ phase
    → w.first ≡ calls → slice_set lives (n - 1) (record { first = u.first; phase = phase }) ≡ placed_lives phase calls lives
last_unused lives n phase calls v w u h i j e f =
    let last = is_last_of lives n v h in
    let first : u.first ≡ calls = ap (λ (l : Life). l.first) (same_last lives n w u i j) ∙ f in
    ap (λ (k : ℕ). slice_set lives (k - 1) (record { first = u.first; phase = phase })) h.count
    ∙ ap (λ (k : ℕ). slice_set lives (length lives - 1) (record { first = k; phase = phase })) first
    ∙ placed_unused lives v phase calls (some_lives lives n v h) (λ g. e (sym (ap (λ (l : Life). l.phase) last) ∙ g))
    (ap (λ (l : Life). l.first) (last ∙ sym (same_last lives n v w h i)) ∙ f)
