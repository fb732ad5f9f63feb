-- The lives of a connection: which stack answers which of its requests. That a connection may go on in a newer
-- generation is this project's own.
use Rattle.std.specs.Prelude.{◌≡◌, ℕ, ◌<◌, ◌≤◌, ◌==◌, Bool, true, false, List, [], ◌∷◌, length, ⊤}
use Rattle.talk_core.specs.declared.ended.Life.{Life}

-- the most lives of a connection
abbrev pub lives_limit : ℕ
lives_limit = 64

-- behind that life each of these begins at a later request than the one before it, at the number of requests that were
-- run at the latest, and in a phase that isn't below the one before
abbrev pub GoOnFrom : Life → List Life → ℕ → Type 0
GoOnFrom last [] calls = ⊤
GoOnFrom last (life ∷ lives) calls =
    (last.first < life.first) × (life.first ≤ calls) × (last.phase ≤ life.phase) × GoOnFrom life lives calls

-- these are the lives of a connection by which so many requests were run: the first begins at its first request, and it
-- never goes back to an older generation
abbrev pub AreLives : List Life → ℕ → Type 0
AreLives [] calls = ⊥
AreLives (life ∷ lives) calls = (life.first ≡ 0) × (length (life ∷ lives) ≤ lives_limit) × GoOnFrom life lives calls

-- the last life behind a placing in this phase, where so many requests were run: it has that phase already; or nothing
-- was run in it, and it gets that phase; or a life is appended
abbrev pub placed_by : Bool → Bool → ℕ → ℕ → Life → List Life
placed_by true unused phase calls life = life ∷ []
placed_by false true phase calls life = record { first = life.first; phase = phase } ∷ []
placed_by false false phase calls life = life ∷ record { first = calls; phase = phase } ∷ []

-- the lives behind a placing in this phase, where so many requests were run: the last one changes, or one is appended
abbrev pub placed_lives : ℕ → ℕ → List Life → List Life
placed_lives phase calls [] = []
placed_lives phase calls (life ∷ []) = placed_by (life.phase == phase) (life.first == calls) phase calls life
placed_lives phase calls (life ∷ next ∷ lives) = life ∷ placed_lives phase calls (next ∷ lives)

-- none of these lives has a greater phase
abbrev pub StayBelow : ℕ → List Life → Type 0
StayBelow phase [] = ⊤
StayBelow phase (life ∷ lives) = (life.phase ≤ phase) × StayBelow phase lives
