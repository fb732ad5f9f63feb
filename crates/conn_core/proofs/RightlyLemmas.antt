-- What is read on, stands or is refused at each point of a turn.
use Rattle.std.proofs.Common.{◌≡◌, ℕ, ◌-◌, ◌≤◌, Bool, true, false, List, [], ◌∷◌, ◌++◌, refl, sym, ap, subst, ◌∙◌, arith, ◌⊎◌, inl, inr}
use Rattle.rack_outside.specs.Link.{Seen}
use Rattle.rack_types.specs.declared.body.Body.{Ghosts}
use Rattle.talk_core.specs.Tail.{Voice}
use Rattle.talk_core.specs.Teller.{Teller}
use Rattle.conn_steps.specs.declared.inside.Inside.{Inside}
use Rattle.conn_steps.specs.declared.budget.Budget.{Budget}
use Rattle.conn_steps.specs.declared.budget.Step.{Step}
use Rattle.conn_steps.specs.declared.budget.Step.TheVariants as step
use Rattle.conn_steps.specs.declared.moments.Moments.{Moments}
use Rattle.conn_steps.specs.declared.state.Next.{Next}
use Rattle.conn_core.specs.Calls.{Turns, AreRight, TurnsRightly}
use Rattle.conn_steps.specs.Holds.{HoldsBy}
use Rattle.conn_steps.specs.Inner.{budget_at, MadeTo, StepMoves}
use Rattle.conn_steps.specs.Keeps.{reaching}
use Rattle.conn_steps.specs.Moments.{reached}
use Rattle.conn_steps.specs.Moves.{OwesRightly, Move, Point, Makes, Goes, turn_at, TurnStops}
use Rattle.conn_steps.specs.Owner.{BeginsRightly}
use Rattle.conn_steps.specs.Shown.{Shown, shows}
use Rattle.conn_core.proofs.MovesOfCalls.{full, turn_point, TurnMade}

-- moves that lead from a point to another, at each point of which that is so
abbrev pub GoesRightly : ℕ → List Move → Point → Point → Type 0
GoesRightly now [] m n = (n ≡ m) × BeginsRightly n.seen n.shown
GoesRightly now (move ∷ moves) m n =
    BeginsRightly m.seen m.shown × (next : Point) × Makes now move m next × OwesRightly next.shown × GoesRightly now moves next n

-- they are moves
abbrev pub goes_of : (now : ℕ) (moves : List Move) (m n : Point) → GoesRightly now moves m n → Goes now moves m n
goes_of now [] m n h = h.0
goes_of now (move ∷ moves) m n h = (h.1, h.2, h.3, goes_of now moves h.1 n h.4)

pub right_of : (now : ℕ) (moves : List Move) (m n : Point) (h : GoesRightly now moves m n) → AreRight now moves m n (goes_of now moves m n h)
right_of now [] m n h = h.1
right_of now (move ∷ moves) m n h = (h.0, right_of now moves h.1 n h.4)

-- one more move
goes_rightly : (now : ℕ) (moves : List Move) (move : Move) (m n k : Point) → GoesRightly now moves m n → Makes now move n k → OwesRightly k.shown
    → BeginsRightly k.seen k.shown → GoesRightly now (moves ++ move ∷ []) m k
goes_rightly now [] move m n k h made owes right =
    (subst (λ (x : Point). BeginsRightly x.seen x.shown) h.0 h.1, k, subst (λ (x : Point). Makes now move x k) h.0 made, owes, (refl, right))
goes_rightly now (x ∷ moves) move m n k h made owes right =
    (h.0, h.1, h.2, h.3, goes_rightly now moves move h.1 n k h.4 made owes right)

-- the moves so far
pub record MovingRightly (now : ℕ) (first last : Point) : Type 0 where
  pub moves : List Move
  pub made : GoesRightly now moves first last

pub rightly_step : (now : ℕ) (first m n : Point) → MovingRightly now first m → MadeTo now m n → BeginsRightly n.seen n.shown → MovingRightly now first n
rightly_step now first m n h k right =
    record { moves = h.moves ++ k.0 ∷ []; made = goes_rightly now h.moves k.0 first m n h.made k.1 k.2 right }

-- the first move of a turn
pub rightly_start : (now : ℕ) (o n : Shown) (s : Seen) (l : Budget) → BeginsRightly s o → MadeTo now (budget_at o s full false) (budget_at n s l false)
    → BeginsRightly s n → MovingRightly now (budget_at o s full false) (budget_at n s l false)
rightly_start now o n s l before made right =
    rightly_step now (budget_at o s full false) (budget_at o s full false) (budget_at n s l false) (record { moves = []; made = (refl, before) }) made right

-- all moves of a turn, at each point of which that is so
pub record TurnMadeRightly (now : ℕ) (o n : Shown) (s u : Seen) (runs reads writes : ℕ) : Type 0 where
  pub moves : List Move
  pub waited : Bool
  pub made : GoesRightly now moves (turn_at o s 0 0 0 false) (turn_at n u runs reads writes waited)
  pub stops : TurnStops (turn_at n u runs reads writes waited)

abbrev pub turn_of : (now : ℕ) (o n : Shown) (s u : Seen) (runs reads writes : ℕ) → TurnMadeRightly now o n s u runs reads writes
    → TurnMade now o n s u runs reads writes
turn_of now o n s u runs reads writes h = record {
  moves = h.moves;
  waited = h.waited;
  made = goes_of now h.moves (turn_at o s 0 0 0 false) (turn_at n u runs reads writes h.waited) h.made;
  stops = h.stops;
}

turned_rightly : (now : ℕ) (o n : Shown) (s u : Seen) (l : Budget) (w : Bool) → (l.runs ≤ 10) × (l.reads ≤ 160) × (l.writes ≤ 160)
    → MovingRightly now (budget_at o s full false) (budget_at n u l w) → TurnStops (budget_at n u l w)
    → TurnMadeRightly now o n s u (10 - l.runs) (160 - l.reads) (160 - l.writes)
turned_rightly now o n s u l w few h stops =
    let is = turn_point n u l w few in
    record {
      moves = h.moves;
      waited = w;
      made = subst (λ (m : Point). GoesRightly now h.moves (budget_at o s full false) m) is h.made;
      stops = subst TurnStops is stops;
    }

-- its last step
pub rightly_end : (now : ℕ) (r : Step) (o m n : Shown) (s t u : Seen) (l k : Budget) → (r ≡ step.Waits) ⊎ (r ≡ step.Stops)
    → (k.runs ≤ 10) × (k.reads ≤ 160) × (k.writes ≤ 160) → MovingRightly now (budget_at o s full false) (budget_at m t l false)
    → StepMoves now r m n t u l k → BeginsRightly u n → TurnMadeRightly now o n s u (10 - k.runs) (160 - k.reads) (160 - k.writes)
rightly_end now step.GoesOn o m n s t u l k e few h p right = elim e [ inl x ↦ cc | inr x ↦ cc ]
rightly_end now step.Waits o m n s t u l k e few h p right =
    turned_rightly now o n s u k true few (rightly_step now (budget_at o s full false) (budget_at m t l false) (budget_at n u k true) h p right) (inl refl)
rightly_end now step.Stops o m n s t u l k e few h p right =
    let same : budget_at m t l false ≡ budget_at n u k false =
    ap (λ (x : Shown). budget_at x t l false) (sym p.0) ∙ ap (λ (x : Seen). budget_at n x l false) (sym p.1) ∙ ap (λ (x : Budget). budget_at n u x false) (sym p.2) in
    turned_rightly now o n s u k false few (subst (λ (x : Point). MovingRightly now (budget_at o s full false) x) same h) p.3

-- a turn at another moment
pub rightly_of_same : {B H : Type 0} {g : Ghosts B} (V : Voice H) (T : Teller H) (now : ℕ) (result : Next) (s s' : Seen) (old same : Inside B H g) (t : Moments)
    (new : Inside B H g) → same ≡ old → t ≡ reached now same.moments
    → (HoldsBy V T s same → TurnsRightly now result (record (shows same) { moments = t }) (shows new) s s') → HoldsBy V T s old
    → TurnsRightly now result (reaching now (shows old)) (shows new) s s'
rightly_of_same {B} {H} {g} V T now result s s' old same t new e m turns h =
    subst (λ (x : Inside B H g). TurnsRightly now result (reaching now (shows x)) (shows new) s s') e
    (subst (λ (z : Moments). TurnsRightly now result (record (shows same) { moments = z }) (shows new) s s') m
    (turns (subst (λ (x : Inside B H g). HoldsBy V T s x) (sym e) h)))
