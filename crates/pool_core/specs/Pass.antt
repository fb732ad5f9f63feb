-- What a pass of a lane shows, and what the calls make of it. This project's own.
use Rattle.std.specs.Prelude.{◌≡◌, ℕ, ◌+◌, ◌-◌, true, false, List, [], ◌∷◌, ◌++◌, length, map, All, Option}
use Rattle.crossbeam_queue.specs.declared.array_queue.Slotted.{Slotted}
use Rattle.crossbeam_queue.specs.declared.array_queue.Doing.{Doing}
use Rattle.crossbeam_queue.specs.Passes as queue
use Rattle.pool_core.specs.declared.view.Cargo.{Cargo}
use Rattle.pool_core.specs.declared.view.Stage.{Stage}
use Rattle.pool_core.specs.declared.view.Stage.TheVariants.{Fresh, Loaded, Open}
use Rattle.pool_core.specs.declared.view.PassView.{PassView}
use Rattle.pool_core.specs.declared.lane.LaneOver.{LaneOver}
use Rattle.pool_core.specs.declared.lane.PassOver.{PassOver}
use Rattle.pool_core.specs.Repeats.{SameElements}

-- the lane takes items
abbrev pub IsOpen : {D : Type 0} → Stage D → Type 0
IsOpen Fresh = ⊥
IsOpen (Loaded d) = ⊥
IsOpen (Open d) = Unit {0}

-- the item fits the data that the pass shows
abbrev pub FitsStage : {T D : Type 0} → (D → T → Type 0) → Stage D → T → Type 0
FitsStage fits Fresh x = ⊥
FitsStage fits (Loaded d) x = ⊥
FitsStage fits (Open d) x = fits d x

module _ {D : Type 0} where
  -- it is the first pass, and no other is out
  abbrev pub IsWhole : PassView D → Type 0
  IsWhole v = (v.first ≡ true) × (v.out ≡ 0)

  -- the first pass of a lane with these data
  abbrev pub first_pass : D → PassView D
  first_pass d =
      record { first = true; live = 1; out = 0; stage = Open d; met = Open d; put = []; taken = [] }

  -- a pass through which an item went in, with this number and tag
  abbrev pub with_put : ℕ × ℕ → PassView D → PassView D
  with_put x v =
      record { first = v.first; live = v.live; out = v.out; stage = v.stage; met = v.met; put = v.put ++ x ∷ []; taken = v.taken }

  -- a pass through which an item came out
  abbrev pub with_taken : ℕ × ℕ → PassView D → PassView D
  with_taken x v =
      record { first = v.first; live = v.live; out = v.out; stage = v.stage; met = v.met; put = v.put; taken = v.taken ++ x ∷ [] }

  -- a pass that was just split off from this one: it shows the same data, and knows no number
  abbrev pub split_off : PassView D → PassView D
  split_off v =
      record { first = false; live = 1; out = 0; stage = v.stage; met = v.stage; put = []; taken = [] }

  -- the pass from which another was split off
  abbrev pub with_one_more_out : PassView D → PassView D
  with_one_more_out v =
      record { first = v.first; live = v.live; out = v.out + 1; stage = v.stage; met = v.met; put = v.put; taken = v.taken }

  -- the pass to which this other was joined
  abbrev pub joined : PassView D → PassView D → PassView D
  joined v u =
      record {
        first = v.first;
        live = v.live;
        out = v.out - 1;
        stage = v.stage;
        met = u.stage;
        put = v.put ++ u.put;
        taken = v.taken ++ u.taken;
      }

module _ {T D : Type 0} (entry : T → ℕ × ℕ) (fits : D → T → Type 0) where
  -- these items, in some order, are what was put and not yet taken, and each fits the lane's data. It is said
  -- of a whole pass alone, whose lists are all that was put and taken
  pub record AreLeft (v : PassView D) (items : List T) : Type 0 where
    pub fit : All (FitsStage fits v.stage) items
    pub balance : SameElements v.put (v.taken ++ map entry items)

  -- n items were put and not yet taken
  pub record HasLeft (v : PassView D) (n : ℕ) : Type 0 where
    pub items : List T
    pub count : length items ≡ n
    pub left : AreLeft v items

  -- this item was put and not yet taken
  pub record IsLeft (v : PassView D) (x : T) : Type 0 where
    pub rest : List T
    pub left : AreLeft v (x ∷ rest)

-- what the pass knows
abbrev pub pass_view : {T D : Type 0} → PassOver (queue.Pass (Cargo T D) (PassView D)) → PassView D
pass_view pass = queue.view pass.pass

module _ {T D P A : Type 0} where
  -- how many items the lane can hold
  abbrev pub lane_room : LaneOver (Slotted (Option (Cargo T D)) (Doing (Cargo T D) (PassView D)) P A) → ℕ
  lane_room lane = queue.ruled_capacity lane.queue

  -- it is a pass of this lane, and not spent
  pub record IsLanePass (lane : LaneOver (Slotted (Option (Cargo T D)) (Doing (Cargo T D) (PassView D)) P A)) (pass : PassOver (queue.Pass (Cargo T D) (PassView D))) : Type 0 where
    pub of : queue.IsPassOf lane.queue pass.pass
    pub live : (pass_view pass).live ≡ 1
    pub opened : IsOpen (pass_view pass).stage
