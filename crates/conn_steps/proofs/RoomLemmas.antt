-- Whether a connection with some lives may be placed in a phase: by its last life, and those before it.
use Rattle.std.proofs.Common.{◌≡◌, ◌≢◌, ℕ, ◌+◌, ◌<◌, ◌≤◌, ◌==◌, nat_le, nat_lt, Bool, true, false, ◌&&◌, List, [], ◌∷◌, ◌++◌, length, refl, ap, sym, subst, ◌∙◌, length-append, arith, ◌⊎◌, inl, inr, ◌↔◌}
use Rattle.std.specs.Prelude.{IsTrue}
use Rattle.std.specs.List.{list_all}
use Rattle.std.proofs.lemmas.Bool.Decides.{nat_tests}
use Rattle.talk_core.specs.declared.ended.Life.{Life}
use Rattle.talk_core.specs.Lives.{lives_limit, placed_by, placed_lives, StayBelow}
use Rattle.conn_steps.specs.Owner.{HasPlace}

-- placed, the last one changes alone
placed_snoc : (front : List Life) (last : Life) (phase calls : ℕ)
    → placed_lives phase calls (front ++ last ∷ []) ≡ front ++ placed_by (last.phase == phase) (last.first == calls) phase calls last
placed_snoc [] last phase calls = refl
placed_snoc (x ∷ []) last phase calls = refl
placed_snoc (x ∷ y ∷ front) last phase calls = ap (λ (z : List Life). x ∷ z) (placed_snoc (y ∷ front) last phase calls)

below_front : (phase : ℕ) (front rest : List Life) → StayBelow phase (front ++ rest) → StayBelow phase front
below_front phase [] rest h = tt
below_front phase (x ∷ front) rest h = (h.0, below_front phase front rest h.1)

below_rest : (phase : ℕ) (front rest : List Life) → StayBelow phase (front ++ rest) → StayBelow phase rest
below_rest phase [] rest h = h
below_rest phase (x ∷ front) rest h = below_rest phase front rest h.1

below_both : (phase : ℕ) (front rest : List Life) → StayBelow phase front → StayBelow phase rest → StayBelow phase (front ++ rest)
below_both phase [] rest h i = i
below_both phase (x ∷ front) rest h i = (h.0, below_both phase front rest h.1 i)

-- by a test of each of them
abbrev is_below : ℕ → Life → Bool
is_below phase life = nat_le life.phase phase

and_left : (a b : Bool) → (a && b) ≡ true → a ≡ true
and_left true b e = refl
and_left false b e = cc

and_right : (a b : Bool) → (a && b) ≡ true → b ≡ true
and_right true b e = e
and_right false b e = cc

and_both : (a b : Bool) → a ≡ true → b ≡ true → (a && b) ≡ true
and_both true b e f = f
and_both false b e f = cc

all_below : (phase : ℕ) (lives : List Life) → list_all (is_below phase) lives ≡ true → StayBelow phase lives
all_below phase [] e = tt
all_below phase (x ∷ lives) e =
    let one : nat_le x.phase phase ≡ true = and_left _ _ e in
    let le : x.phase ≤ phase = grind (arith, nat_tests, one) in
    (le, all_below phase lives (and_right (is_below phase x) _ e))

below_all : (phase : ℕ) (lives : List Life) → StayBelow phase lives → list_all (is_below phase) lives ≡ true
below_all phase [] h = refl
below_all phase (x ∷ lives) h =
    let le : x.phase ≤ phase = h.0 in
    let one : nat_le x.phase phase ≡ true = grind (arith, nat_tests, le) in
    and_both (is_below phase x) _ one (below_all phase lives h.1)

-- there are no lives
pub no_lives : (phase calls : ℕ) (lives : List Life) → lives ≡ [] → HasPlace phase calls lives
no_lives phase calls lives e = let few : 0 ≤ 64 = omega arith in subst (λ (x : List Life). HasPlace phase calls x) (sym e) (few, tt)

module _ (phase calls : ℕ) (lives front : List Life) (last : Life) (is : lives ≡ front ++ last ∷ []) where
  behind : List Life
  behind = placed_by (last.phase == phase) (last.first == calls) phase calls last

  placed_is : placed_lives phase calls lives ≡ front ++ placed_by (last.phase == phase) (last.first == calls) phase calls last
  placed_is = ap (placed_lives phase calls) is ∙ placed_snoc front last phase calls

  -- one that stays is of a greater phase
  pub above_front : list_all (is_below phase) front ≢ true → ¬ (HasPlace phase calls lives)
  above_front above h =
      above (below_all phase front (below_front phase front _ (subst (StayBelow phase) placed_is h.1)))

  size : length lives ≡ length front + 1
  size = ap length is ∙ length-append front (last ∷ [])

  -- the number of lives stays as it is
  same_size : (a b : Bool) → (a ≡ true) ⊎ (b ≡ true) → (last.phase == phase) ≡ a → (last.first == calls) ≡ b
      → (length (placed_by a b phase calls last) ≡ 1) × StayBelow phase (placed_by a b phase calls last)
  same_size true b o e f =
      let eq : last.phase ≡ phase = grind (arith, nat_tests, e) in
      let le : last.phase ≤ phase = omega (arith, eq) in
      (refl, (le, tt))
  same_size false true o e f = let le : phase ≤ phase = omega arith in (refl, (le, tt))
  same_size false false o e f = absurd (neither o)
    where
      neither : (false ≡ true) ⊎ (false ≡ true) → ⊥
      neither o = elim o [ inl x ↦ cc | inr x ↦ cc ]

  pub kept_place : list_all (is_below phase) front ≡ true → (last.phase ≡ phase) ⊎ (last.first ≡ calls) → length lives ≤ lives_limit ↔ HasPlace phase calls lives
  kept_place below o =
      let s = same_size (last.phase == phase) (last.first == calls)
      (elim o [ inl e ↦ inl (grind (arith, nat_tests, e)) | inr e ↦ inr (grind (arith, nat_tests, e)) ]) refl refl in
      let n : length (placed_lives phase calls lives) ≡ length lives =
      ap length placed_is ∙ length-append front _ ∙ ap (λ (k : ℕ). length front + k) s.0 ∙ sym size in (
        λ few. (omega (arith, few, n), subst (StayBelow phase) (sym placed_is) (below_both phase front _ (all_below phase front below) s.1)),
        λ h. omega (arith, h.0, n),
      )

  -- one is appended
  more_size : (a b : Bool) → a ≡ false → b ≡ false
      → (length (placed_by a b phase calls last) ≡ 2) × (StayBelow phase (placed_by a b phase calls last) → last.phase ≤ phase)
      × (last.phase ≤ phase → StayBelow phase (placed_by a b phase calls last))
  more_size true b e f = cc
  more_size false true e f = cc
  more_size false false e f = let same : phase ≤ phase = omega arith in (refl, (λ h. h.0), (λ le. (le, (same, tt))))

  pub more_place : list_all (is_below phase) front ≡ true → last.phase ≢ phase → last.first ≢ calls
      → ((last.phase ≤ phase) × (length lives < lives_limit)) ↔ HasPlace phase calls lives
  more_place below e f =
      let s = more_size (last.phase == phase) (last.first == calls) (grind (arith, nat_tests, e)) (grind (arith, nat_tests, f)) in
      let n : length (placed_lives phase calls lives) ≡ length front + 2 = ap length placed_is ∙ length-append front _ ∙ ap (λ (k : ℕ). length front + k) s.0 in
      let m = size in (
        λ h. (omega (arith, h.1, n, m), subst (StayBelow phase) (sym placed_is) (below_both phase front _ (all_below phase front below) (s.2 h.0))),
        λ h. (s.1 (below_rest phase front _ (subst (StayBelow phase) placed_is h.1)), omega (arith, h.0, n, m)),
      )

  -- the same by tests
  pub kept_test : list_all (is_below phase) front ≡ true → (last.phase ≡ phase) ⊎ (last.first ≡ calls)
      → IsTrue (nat_le (length lives) 64) ↔ HasPlace phase calls lives
  kept_test below o =
      let k = kept_place below o in (
        λ t. let few : length lives ≤ lives_limit = grind (arith, nat_tests, t) in k.0 few,
        λ h. let few : length lives ≤ lives_limit = k.1 h in grind (arith, nat_tests, few),
      )

  pub more_test : list_all (is_below phase) front ≡ true → last.phase ≢ phase → last.first ≢ calls → last.phase ≤ phase
      → IsTrue (nat_lt (length lives) 64) ↔ HasPlace phase calls lives
  more_test below e f le =
      let k = more_place below e f in (
        λ t. let few : length lives < lives_limit = grind (arith, nat_tests, t) in k.0 (le, few),
        λ h. let few : length lives < lives_limit = (k.1 h).1 in grind (arith, nat_tests, few),
      )

  pub above_test : list_all (is_below phase) front ≡ true → last.phase ≢ phase → last.first ≢ calls → phase < last.phase
      → IsTrue (nat_le last.phase phase) ↔ HasPlace phase calls lives
  above_test below e f above =
      let k = more_place below e f in (
        λ t. let le : last.phase ≤ phase = grind (arith, nat_tests, t) in absurd (omega (arith, le, above)),
        λ h. let le : last.phase ≤ phase = (k.1 h).0 in absurd (omega (arith, le, above)),
      )
