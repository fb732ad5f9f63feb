-- Lives worked out by computation.
use Rattle.std.proofs.Common.{◌≡◌, ℕ, zero, suc, ◌+◌, ◌<◌, ◌≤◌, false, List, [], ◌∷◌, length, refl, None, arith}
use Rattle.talk_core.specs.declared.ended.Life.{Life}
use Rattle.talk_core.specs.declared.ended.Why.TheVariants as why
use Rattle.talk_core.specs.Ended.{Past, AreEndedLives}
use Rattle.talk_core.specs.Lives.{GoOnFrom, AreLives, placed_lives, StayBelow}
use Rattle.talk_core.specs.Teller.{phase_at}

abbrev life : ℕ → ℕ → Life
life first phase = record { first = first; phase = phase }

-- so many lives, each of which has one request and its own phase, from this number on
abbrev each : ℕ → ℕ → List Life
each zero i = []
each (suc n) i = life i i ∷ each n (i + 1)

going_on : (n i calls : ℕ) → i + n ≤ calls → GoOnFrom (life i i) (each n (i + 1)) calls
going_on zero i calls few = tt
going_on (suc n) i calls few =
    let up : i < i + 1 = omega arith in
    let at : i + 1 ≤ calls = omega (arith, few) in
    let phase : i ≤ i + 1 = omega arith in
    let less : i + 1 + n ≤ calls = omega (arith, few) in
    (up, at, phase, going_on n (i + 1) calls less)

-- one life, which begins at the first request
one : AreLives (life 0 3 ∷ []) 0
one = let few : 1 ≤ 64 = omega arith in (refl, few, tt)

none : ¬ (AreLives [] 0)
none h = h

late : ¬ (AreLives (life 1 3 ∷ []) 5)
late h = omega (arith, h.0)

-- 64 lives, and one more
all_64 : AreLives (each 64 0) 63
all_64 =
    let few : 64 ≤ 64 = omega arith in
    let last : 0 + 63 ≤ 63 = omega arith in
    (refl, few, going_on 63 0 63 last)

one_more : ¬ (AreLives (each 65 0) 64)
one_more h = omega (arith, h.1)

-- two that begin at one request; one that begins at a request behind the next one; and one of an older generation
equal_first : ¬ (AreLives (life 0 0 ∷ life 0 1 ∷ []) 5)
equal_first h = omega (arith, h.2.0)

begins_next : AreLives (life 0 0 ∷ life 5 1 ∷ []) 5
begins_next =
    let few : 2 ≤ 64 = omega arith in
    let behind : 1 ≤ 5 = omega arith in
    let at : 5 ≤ 5 = omega arith in
    let up : 0 ≤ 1 = omega arith in
    (refl, few, (behind, at, up, tt))

begins_behind : ¬ (AreLives (life 0 0 ∷ life 6 1 ∷ []) 5)
begins_behind h = omega (arith, h.2.1)

phase_back : ¬ (AreLives (life 0 2 ∷ life 3 1 ∷ []) 5)
phase_back h = omega (arith, h.2.2)

phase_kept : AreLives (life 0 2 ∷ life 3 2 ∷ []) 5
phase_kept =
    let few : 2 ≤ 64 = omega arith in
    let behind : 1 ≤ 3 = omega arith in
    let at : 3 ≤ 5 = omega arith in
    let same : 2 ≤ 2 = omega arith in
    (refl, few, (behind, at, same, tt))

-- those of an ended connection
abbrev ran : ℕ → Past
ran calls = record {
  given = [];
  sent = [];
  over = false;
  failed_reads = 0;
  failed_writes = 0;
  calls = calls;
  told = 0;
  closing = None;
}

ended_at_first : AreEndedLives (life 0 3 ∷ []) why.NoMemory (ran 0)
ended_at_first = one

ended_behind : ¬ (AreEndedLives (life 0 0 ∷ life 3 1 ∷ []) why.PeerEnd (ran 2))
ended_behind h = omega (arith, h.2.1)

ended_late : ¬ (AreEndedLives (life 1 3 ∷ []) why.Closed (ran 2))
ended_late h = omega (arith, h.0)

-- placed in its own phase nothing changes; where nothing was run since, the last life gets the phase; else one is appended
placed_same : placed_lives 1 7 (life 0 0 ∷ life 2 1 ∷ []) ≡ life 0 0 ∷ life 2 1 ∷ []
placed_same = refl

placed_same_unused : placed_lives 1 2 (life 0 0 ∷ life 2 1 ∷ []) ≡ life 0 0 ∷ life 2 1 ∷ []
placed_same_unused = refl

placed_unused : placed_lives 4 2 (life 0 0 ∷ life 2 1 ∷ []) ≡ life 0 0 ∷ life 2 4 ∷ []
placed_unused = refl

placed_unread : placed_lives 4 0 (life 0 0 ∷ []) ≡ life 0 4 ∷ []
placed_unread = refl

placed_more : placed_lives 4 3 (life 0 0 ∷ life 2 1 ∷ []) ≡ life 0 0 ∷ life 2 1 ∷ life 3 4 ∷ []
placed_more = refl

-- each request that was run keeps its phase, and the next has the new one
before_placing : phase_at (placed_lives 4 3 (life 0 0 ∷ life 2 1 ∷ [])) 2 ≡ 1
before_placing = refl

behind_placing : phase_at (placed_lives 4 3 (life 0 0 ∷ life 2 1 ∷ [])) 3 ≡ 4
behind_placing = refl

-- a 65th one would be appended to 64
placed_beyond : length (placed_lives 64 64 (each 64 0)) ≡ 65
placed_beyond = refl

placed_full : length (placed_lives 63 64 (each 64 0)) ≡ 64
placed_full = refl

-- only what stays has to be of no greater phase
unused_falls : StayBelow 2 (placed_lives 2 3 (life 0 1 ∷ life 3 5 ∷ []))
unused_falls =
    let first : 1 ≤ 2 = omega arith in
    let last : 2 ≤ 2 = omega arith in
    (first, (last, tt))

used_stays : ¬ (StayBelow 2 (placed_lives 2 4 (life 0 1 ∷ life 3 5 ∷ [])))
used_stays h = omega (arith, h.1)
