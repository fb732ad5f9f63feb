-- The rule of a lane: what stands of its queue and its passes between any two steps. It serves inner
-- contracts alone.
use Rattle.std.specs.Prelude.{◌≡◌, ℕ, suc, ◌+◌, ◌≤◌, true, false, List, [], ◌∷◌, map, sum_by, All}
use mathlib.Core.Option.{some}
use lib.ListN.{get_elem?}
use Rattle.std.specs.declared.snapshot.Snapshot.{Snapshot}
use Rattle.pool_core.specs.declared.view.Cargo.{Cargo}
use Rattle.pool_core.specs.declared.view.Cargo.TheVariants.{Start, Item}
use Rattle.pool_core.specs.declared.view.Stage.{Stage}
use Rattle.pool_core.specs.declared.view.Stage.TheVariants.{Fresh, Loaded, Open}
use Rattle.pool_core.specs.declared.view.PassView.{PassView}
use Rattle.pool_core.specs.Pass.{FitsStage, with_put, with_taken, AreLeft, IsWhole}

module _ {D : Type 0} where
  -- the first pass of a queue that holds nothing, before the lane is made
  abbrev pub fresh_pass : PassView D
  fresh_pass = record { first = true; live = 1; out = 0; stage = Fresh; met = Fresh; put = []; taken = [] }

  -- the pass at another stage
  abbrev pub at_stage : Stage D → PassView D → PassView D
  at_stage stage v =
      record { first = v.first; live = v.live; out = v.out; stage = stage; met = stage; put = v.put; taken = v.taken }

  -- what is left of a pass that was joined
  abbrev pub spent : PassView D
  spent = record { first = false; live = 0; out = 0; stage = Fresh; met = Fresh; put = []; taken = [] }

  -- what one pass shows fits the rest: one that is not spent shows the lane's stage, a spent one has no
  -- numbers, and the first has this place and counts those that are out
  pub record FitsView (stage : Stage D) (home out id : ℕ) (v : PassView D) : Type 0 where
    pub once : v.live ≤ 1
    pub same : v.live ≡ 1 → (v.stage ≡ stage) × (v.met ≡ stage)
    pub spent : v.live ≡ 0 → (v.put ≡ []) × (v.taken ≡ [])
    pub first : v.first ≡ true → (id ≡ home) × (v.out ≡ out) × (v.live ≡ 1)

-- what the queue holds at each stage: nothing, the data alone, or items that fit them
abbrev pub Holds : {T D : Type 0} → (D → T → Type 0) → Stage D → ℕ → List (Cargo T D) → Type 0
Holds fits Fresh out cargo = (cargo ≡ []) × (out ≡ 0)
Holds {T} {D} fits (Loaded d) out cargo = (s : Snapshot D) × (cargo ≡ Start s ∷ []) × (s.value ≡ d) × (out ≡ 0)
Holds {T} {D} fits (Open d) out cargo = (items : List T) × (cargo ≡ map Item items) × All (fits d) items

module _ {T D : Type 0} (entry : T → ℕ × ℕ) (fits : D → T → Type 0) where
  -- the numbers of the items, with their tags
  abbrev pub entries : List (Cargo T D) → List (ℕ × ℕ)
  entries [] = []
  entries (Start s ∷ cs) = entries cs
  entries (Item x ∷ cs) = entry x ∷ entries cs

  -- the first and those that are out are all that are not spent; what all passes put is what they took and
  -- what the queue holds, with repeats; each pass fits, and the queue holds what it may
  pub record Kept (cargo : List (Cargo T D)) (views : List (PassView D)) : Type 0 where
    pub stage : Stage D
    pub home : ℕ
    pub out : ℕ
    pub count : sum_by (λ v. v.live) views ≡ suc out
    pub balance : (weight : ℕ × ℕ → ℕ) → sum_by (λ v. sum_by weight v.put) views ≡ sum_by (λ v. sum_by weight v.taken) views + sum_by weight (entries cargo)
    pub each : (id : ℕ) (v : PassView D) → get_elem? views id ≡ some v → FitsView stage home out id v
    pub holds : Holds fits stage out cargo

  -- what a step tells of the items that the queue holds: each fits the data, and a whole pass knows them
  -- by what was put and taken
  pub record Knows (v : PassView D) (items : List T) : Type 0 where
    pub fit : All (FitsStage fits v.stage) items
    pub whole : IsWhole v → AreLeft entry fits v items

  -- the queue held this item, and these others
  pub record HeldItem (v : PassView D) (x : T) : Type 0 where
    pub rest : List T
    pub knows : Knows v (x ∷ rest)

  -- the item went in
  abbrev pub Puts : PassView D → Cargo T D → PassView D → Type 0
  Puts v c w = (x : T) × (c ≡ Item x) × (w ≡ with_put (entry x) v)

  -- an item came out, and what the call tells of it
  abbrev pub Takes : PassView D → Cargo T D → PassView D → Type 0
  Takes v c w = (x : T) × (c ≡ Item x) × (w ≡ with_taken (entry x) v) × HeldItem v x

  -- what a call learns of the queue
  abbrev pub Learns : PassView D → List (Cargo T D) → Type 0
  Learns v cargo = (items : List T) × (cargo ≡ map Item items) × Knows v items

  -- the data went in
  abbrev pub PutsData : PassView D → Cargo T D → PassView D → Type 0
  PutsData v c w = (s : Snapshot D) × (c ≡ Start s) × (w ≡ at_stage (Loaded s.value) v)

  -- the data came out, and the lane is open
  abbrev pub TakesData : PassView D → Cargo T D → PassView D → Type 0
  TakesData v c w = (s : Snapshot D) × (c ≡ Start s) × (v.stage ≡ Loaded s.value) × (w ≡ at_stage (Open s.value) v)

-- a pass shows the same data as the one that it was joined with
abbrev pub Agrees : {T D : Type 0} → PassView D → List (Cargo T D) → Type 0
Agrees v cargo = v.met ≡ v.stage
