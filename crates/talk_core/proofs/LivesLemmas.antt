-- The lives of a connection, as requests are run and as it is placed.
use Rattle.std.proofs.Common.{◌≡◌, ◌≢◌, ℕ, suc, ◌<◌, ◌≤◌, ◌==◌, nat_le, Bool, true, false, if◌then◌else◌, List, [], ◌∷◌, length, filter, refl, ap, sym, subst, ◌∙◌, arith}
use Rattle.std.proofs.lemmas.Bool.Decides.{nat_tests}
use Rattle.talk_core.specs.declared.ended.Life.{Life}
use Rattle.talk_core.specs.Lives.{lives_limit, GoOnFrom, AreLives, placed_by, placed_lives, StayBelow}
use Rattle.talk_core.specs.Teller.{last_phase, phase_at}

-- the life begins at request k or before it
abbrev begun_at : ℕ → Life → Bool
begun_at k life = nat_le life.first k

-- by a life that is kept or left out
abbrev kept_if : Bool → Life → List Life → List Life
kept_if keeps life lives = if keeps then life ∷ lives else lives

-- they are lives still where more requests were run
go_on_later : (last : Life) (lives : List Life) (calls n : ℕ) → calls ≤ n → GoOnFrom last lives calls → GoOnFrom last lives n
go_on_later last [] calls n le h = tt
go_on_later last (life ∷ lives) calls n le h =
    let few : life.first ≤ n = omega (arith, le, h.1) in
    (h.0, few, h.2, go_on_later life lives calls n le h.3)

pub lives_later : (lives : List Life) (calls n : ℕ) → calls ≤ n → AreLives lives calls → AreLives lives n
lives_later [] calls n le h = absurd h
lives_later (life ∷ lives) calls n le h = (h.0, h.1, go_on_later life lives calls n le h.2)

-- the last one has the greatest phase
pub phases_up : (last : Life) (lives : List Life) (calls : ℕ) → GoOnFrom last lives calls → last.phase ≤ last_phase (last ∷ lives)
phases_up last [] calls h = omega arith
phases_up last (life ∷ lives) calls h =
    let rest : life.phase ≤ last_phase (life ∷ lives) = phases_up life lives calls h.3 in
    omega (arith, rest, h.2)

-- also among some of them
some_below : (k : ℕ) (last : Life) (lives : List Life) (calls : ℕ) → GoOnFrom last lives calls
    → last_phase (filter (begun_at k) (last ∷ lives)) ≤ last_phase (last ∷ lives)
some_below k last [] calls h = alone (begun_at k last)
  where
    alone : (b : Bool) → last_phase (kept_if b last []) ≤ last.phase
    alone true = omega arith
    alone false = omega arith
some_below k last (life ∷ lives) calls h = one (begun_at k last) (filter (begun_at k) (life ∷ lives)) (some_below k life lives calls h.3)
  where
    one : (b : Bool) (rest : List Life) → last_phase rest ≤ last_phase (life ∷ lives) → last_phase (kept_if b last rest) ≤ last_phase (life ∷ lives)
    one true [] below = phases_up last (life ∷ lives) calls h
    one true (x ∷ xs) below = below
    one false rest below = below

-- no request is answered in a greater phase than the last
pub phase_below : (lives : List Life) (calls k : ℕ) → AreLives lives calls → phase_at lives k ≤ last_phase lives
phase_below [] calls k h = absurd h
phase_below (life ∷ lives) calls k h = some_below k life lives calls h.2

-- each life begins at a request that was not run yet, or before it
all_begin : (last : Life) (lives : List Life) (calls k : ℕ) → calls ≤ k → last.first ≤ k → GoOnFrom last lives calls
    → filter (begun_at k) (last ∷ lives) ≡ last ∷ lives
all_begin last [] calls k le first h =
    let yes : nat_le last.first k ≡ true = grind (arith, nat_tests, first) in
    ap (λ (b : Bool). kept_if b last []) yes
all_begin last (life ∷ lives) calls k le first h =
    let yes : nat_le last.first k ≡ true = grind (arith, nat_tests, first) in
    let next : life.first ≤ k = omega (arith, le, h.1) in
    let rest = all_begin life lives calls k le next h.3 in
    ap (λ (b : Bool). kept_if b last (filter (begun_at k) (life ∷ lives))) yes ∙ ap (λ (x : List Life). last ∷ x) rest

-- so the last one answers it
pub phase_behind : (lives : List Life) (calls k : ℕ) → calls ≤ k → AreLives lives calls → phase_at lives k ≡ last_phase lives
phase_behind [] calls k le h = absurd h
phase_behind (life ∷ lives) calls k le h =
    let first : life.first ≤ k = omega (arith, h.0) in ap last_phase (all_begin life lives calls k le first h.2)

-- placing changes no request that was run
filter_placed_by : (same unused : Bool) (phase calls k : ℕ) (life : Life) → ((unused ≡ true) → life.first ≡ calls) → k < calls
    → filter (begun_at k) (placed_by same unused phase calls life) ≡ filter (begun_at k) (life ∷ [])
filter_placed_by true unused phase calls k life is lt = refl
filter_placed_by false true phase calls k life is lt =
    let first : life.first ≡ calls = is refl in
    let no : nat_le life.first k ≡ false = grind (arith, nat_tests, lt, first) in
    let moved : Life = record { first = life.first; phase = phase } in
    ap (λ (b : Bool). kept_if b moved []) no ∙ sym (ap (λ (b : Bool). kept_if b life []) no)
filter_placed_by false false phase calls k life is lt =
    let no : nat_le calls k ≡ false = grind (arith, nat_tests, lt) in
    let new : Life = record { first = calls; phase = phase } in
    let none : kept_if (nat_le calls k) new [] ≡ [] = ap (λ (b : Bool). kept_if b new []) no in
    ap (λ (x : List Life). kept_if (nat_le life.first k) life x) none

filter_placed : (lives : List Life) (phase calls k : ℕ) → k < calls
    → filter (begun_at k) (placed_lives phase calls lives) ≡ filter (begun_at k) lives
filter_placed [] phase calls k lt = refl
filter_placed (life ∷ []) phase calls k lt =
    filter_placed_by (life.phase == phase) (life.first == calls) phase calls k life (λ yes. grind (arith, nat_tests, yes)) lt
filter_placed (life ∷ next ∷ lives) phase calls k lt =
    ap (λ (x : List Life). kept_if (nat_le life.first k) life x) (filter_placed (next ∷ lives) phase calls k lt)

pub placed_agrees : (lives : List Life) (phase calls k : ℕ) → k < calls → phase_at (placed_lives phase calls lives) k ≡ phase_at lives k
placed_agrees lives phase calls k lt = ap last_phase (filter_placed lives phase calls k lt)

-- the next request is answered in the phase in which the connection was placed
last_placed_by : (same unused : Bool) (phase calls : ℕ) (life : Life) → (same ≡ true → life.phase ≡ phase)
    → last_phase (placed_by same unused phase calls life) ≡ phase
last_placed_by true unused phase calls life is = is refl
last_placed_by false true phase calls life is = refl
last_placed_by false false phase calls life is = refl

last_of_more : (life : Life) (lives : List Life) → lives ≢ [] → last_phase (life ∷ lives) ≡ last_phase lives
last_of_more life [] some = absurd (some refl)
last_of_more life (next ∷ lives) some = refl

some_placed_by : (same unused : Bool) (phase calls : ℕ) (life : Life) → placed_by same unused phase calls life ≢ []
some_placed_by true unused phase calls life e = cc
some_placed_by false true phase calls life e = cc
some_placed_by false false phase calls life e = cc

some_placed : (life : Life) (lives : List Life) (phase calls : ℕ) → placed_lives phase calls (life ∷ lives) ≢ []
some_placed life [] phase calls e = some_placed_by (life.phase == phase) (life.first == calls) phase calls life e
some_placed life (next ∷ lives) phase calls e = cc

pub placed_phase : (life : Life) (lives : List Life) (phase calls : ℕ) → last_phase (placed_lives phase calls (life ∷ lives)) ≡ phase
placed_phase life [] phase calls =
    last_placed_by (life.phase == phase) (life.first == calls) phase calls life (λ yes. grind (arith, nat_tests, yes))
placed_phase life (next ∷ lives) phase calls =
    last_of_more life (placed_lives phase calls (next ∷ lives)) (some_placed next lives phase calls) ∙ placed_phase next lives phase calls

-- behind a placing they are lives again
go_on_by : (same unused : Bool) (last life : Life) (phase calls : ℕ) → (unused ≡ false → life.first ≢ calls) → last.phase ≤ phase
    → GoOnFrom last (life ∷ []) calls → StayBelow phase (placed_by same unused phase calls life)
    → GoOnFrom last (placed_by same unused phase calls life) calls
go_on_by true unused last life phase calls used below h stay = h
go_on_by false true last life phase calls used below h stay = (h.0, h.1, below, tt)
go_on_by false false last life phase calls used below h stay =
    let other : life.first ≢ calls = used refl in
    let less : life.first < calls = omega (arith, h.1, other) in
    let at : calls ≤ calls = omega arith in
    (h.0, h.1, h.2, (less, at, stay.0, tt))

go_on_placed : (last : Life) (lives : List Life) (phase calls : ℕ) → last.phase ≤ phase → GoOnFrom last lives calls
    → StayBelow phase (placed_lives phase calls lives) → GoOnFrom last (placed_lives phase calls lives) calls
go_on_placed last [] phase calls below h stay = tt
go_on_placed last (life ∷ []) phase calls below h stay =
    go_on_by (life.phase == phase) (life.first == calls) last life phase calls (λ no e. grind (arith, nat_tests, no, e)) below h stay
go_on_placed last (life ∷ next ∷ lives) phase calls below h stay =
    (h.0, h.1, h.2, go_on_placed life (next ∷ lives) phase calls stay.0 h.3 stay.1)

are_by : (same unused : Bool) (life : Life) (phase calls : ℕ) → (unused ≡ false → life.first ≢ calls) → AreLives (life ∷ []) calls
    → length (placed_by same unused phase calls life) ≤ lives_limit → StayBelow phase (placed_by same unused phase calls life)
    → AreLives (placed_by same unused phase calls life) calls
are_by true unused life phase calls used h few stay = h
are_by false true life phase calls used h few stay = (h.0, few, tt)
are_by false false life phase calls used h few stay =
    let other : life.first ≢ calls = used refl in
    let less : life.first < calls = omega (arith, h.0, other) in
    let at : calls ≤ calls = omega arith in
    (h.0, few, (less, at, stay.0, tt))

pub placed_are : (lives : List Life) (phase calls : ℕ) → AreLives lives calls → length (placed_lives phase calls lives) ≤ lives_limit
    → StayBelow phase (placed_lives phase calls lives) → AreLives (placed_lives phase calls lives) calls
placed_are [] phase calls h few stay = absurd h
placed_are (life ∷ []) phase calls h few stay =
    are_by (life.phase == phase) (life.first == calls) life phase calls (λ no e. grind (arith, nat_tests, no, e)) h few stay
placed_are (life ∷ next ∷ lives) phase calls h few stay =
    (h.0, few, go_on_placed life (next ∷ lives) phase calls stay.0 h.2 stay.1)

-- what an owner knows of them is enough for a placing: fewer than 64 lives, and a phase that isn't below the last
longer_by : (same unused : Bool) (phase calls : ℕ) (life : Life) → length (placed_by same unused phase calls life) ≤ 2
longer_by true unused phase calls life = omega arith
longer_by false true phase calls life = omega arith
longer_by false false phase calls life = omega arith

pub placed_longer : (lives : List Life) (phase calls : ℕ) → length (placed_lives phase calls lives) ≤ suc (length lives)
placed_longer [] phase calls = omega arith
placed_longer (life ∷ []) phase calls = longer_by (life.phase == phase) (life.first == calls) phase calls life
placed_longer (life ∷ next ∷ lives) phase calls = let rest = placed_longer (next ∷ lives) phase calls in omega (arith, rest)

stay_by : (same unused : Bool) (phase calls : ℕ) (life : Life) → life.phase ≤ phase → StayBelow phase (placed_by same unused phase calls life)
stay_by true unused phase calls life below = (below, tt)
stay_by false true phase calls life below = let same : phase ≤ phase = omega arith in (same, tt)
stay_by false false phase calls life below = let same : phase ≤ phase = omega arith in (below, (same, tt))

go_on_stay : (last : Life) (lives : List Life) (phase calls n : ℕ) → GoOnFrom last lives n → last_phase (last ∷ lives) ≤ phase
    → StayBelow phase (placed_lives phase calls (last ∷ lives))
go_on_stay last [] phase calls n h below = stay_by (last.phase == phase) (last.first == calls) phase calls last below
go_on_stay last (life ∷ lives) phase calls n h below =
    let up : last.phase ≤ last_phase (last ∷ life ∷ lives) = phases_up last (life ∷ lives) n h in
    let first : last.phase ≤ phase = omega (arith, up, below) in
    (first, go_on_stay life lives phase calls n h.3 below)

pub placed_stay : (lives : List Life) (phase calls : ℕ) → AreLives lives calls → last_phase lives ≤ phase
    → StayBelow phase (placed_lives phase calls lives)
placed_stay [] phase calls h below = absurd h
placed_stay (life ∷ lives) phase calls h below = go_on_stay life lives phase calls calls h.2 below

-- where nothing was run there is one life
pub one_life : (lives : List Life) → AreLives lives 0 → length lives ≡ 1
one_life [] h = absurd h
one_life (life ∷ []) h = refl
one_life (life ∷ next ∷ lives) h = absurd (omega (arith, h.2.0, h.2.1))

-- so it may be placed in any phase
unused_stays : (same : Bool) (phase : ℕ) (life : Life) → (same ≡ true → life.phase ≡ phase) → StayBelow phase (placed_by same true phase 0 life)
unused_stays true phase life is = let e : life.phase ≡ phase = is refl in let le : life.phase ≤ phase = omega (arith, e) in (le, tt)
unused_stays false phase life is = let le : phase ≤ phase = omega arith in (le, tt)

unused_one : (same : Bool) (phase : ℕ) (life : Life) → length (placed_by same true phase 0 life) ≤ lives_limit
unused_one true phase life = omega arith
unused_one false phase life = omega arith

pub unused_placed : (lives : List Life) (phase calls : ℕ) → calls ≡ 0 → AreLives lives calls
    → (length (placed_lives phase calls lives) ≤ lives_limit) × StayBelow phase (placed_lives phase calls lives)
unused_placed lives phase calls none h =
    subst (λ (n : ℕ). (length (placed_lives phase n lives) ≤ lives_limit) × StayBelow phase (placed_lives phase n lives)) (sym none)
    (go lives (subst (λ (n : ℕ). AreLives lives n) none h))
  where
    go : (lives : List Life) → AreLives lives 0 → (length (placed_lives phase 0 lives) ≤ lives_limit) × StayBelow phase (placed_lives phase 0 lives)
    go [] h = absurd h
    go (life ∷ []) h =
        let unused : (life.first == 0) ≡ true = grind (arith, nat_tests, h.0) in
        subst (λ (b : Bool). (length (placed_by (life.phase == phase) b phase 0 life) ≤ lives_limit) × StayBelow phase (placed_by (life.phase == phase) b phase 0 life))
        (sym unused) (unused_one (life.phase == phase) phase life, unused_stays (life.phase == phase) phase life (λ yes. grind (arith, nat_tests, yes)))
    go (life ∷ next ∷ lives) h = absurd (omega (arith, h.2.0, h.2.1))
