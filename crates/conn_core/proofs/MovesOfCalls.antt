-- The steps of a turn and of a flush as moves, and all moves of a call, one behind the other.
use Rattle.std.proofs.Common.{◌≡◌, ◌≢◌, ℕ, ◌+◌, ◌-◌, ◌<◌, ◌≤◌, Bool, true, false, List, [], ◌∷◌, ◌++◌, refl, sym, ap, subst, ◌∙◌, arith, ◌⊎◌, inl, inr}
use Rattle.rack_outside.specs.Link.{Seen}
use Rattle.rack_outside.specs.declared.link.LinkRead.{LinkRead}
use Rattle.rack_outside.specs.declared.link.LinkRead.TheVariants as read
use Rattle.rack_outside.specs.declared.link.LinkWrite.{LinkWrite}
use Rattle.conn_steps.specs.declared.budget.Budget.{Budget}
use Rattle.conn_steps.specs.declared.budget.SayStep.TheVariants as said
use Rattle.conn_steps.specs.declared.budget.Step.{Step}
use Rattle.conn_steps.specs.declared.budget.Step.TheVariants as step
use Rattle.conn_steps.specs.declared.state.State.{State}
use Rattle.conn_steps.specs.declared.state.State.TheVariants as state
use Rattle.conn_steps.specs.Inner.{IsSpentBudget, TakesUp, SaysOnce, budget_at, MadeTo, StepMoves}
use Rattle.conn_steps.specs.Moves.{read_waits, ReadsOnce, write_waits, WritesOnce, OwesRightly, Move, Point, IsOpen, MayWrite, Spends, Goes, turn_at, StopsIn, TurnStops, flush_at, FlushStops, IsOwing}
use Rattle.conn_steps.specs.Moves.{Run, Refusal, Want, Read, Write}
use Rattle.conn_steps.specs.Keeps.{Keeps}
use Rattle.conn_steps.specs.Shown.{Shown}
use Rattle.conn_steps.proofs.CallerLemmas.{goes_on}

-- a turn may still run, read and write
pub is_open : (o : Shown) (s : Seen) (l : Budget) → (0 < l.runs) × (0 < l.reads) × (0 < l.writes) → IsOpen (budget_at o s l false)
is_open o s l some = record { runs = some.0; reads = some.1; writes = some.2; unwaited = refl }

pub may_write : (o : Shown) (s : Seen) (l : Budget) → l.reads ≢ 0 → l.writes ≢ 0 → MayWrite (budget_at o s l false)
may_write o s l reads writes =
    let some : 0 < l.reads = omega (arith, reads) in
    let more : 0 < l.writes = omega (arith, writes) in
    record { reads = some; writes = more; unwaited = refl }

-- what a turn spends on taking up what stands
takes : (o n : Shown) (s : Seen) (l m : Budget) (k : ℕ) → l.runs - m.runs ≡ k → m ≡ record l { runs = m.runs } → m.runs ≤ l.runs
    → Spends k 0 0 false (budget_at o s l false) (budget_at n s m false)
takes o n s l m k by is few =
    let same_reads : m.reads ≡ l.reads = ap (λ (x : Budget). x.reads) is in
    let same_writes : m.writes ≡ l.writes = ap (λ (x : Budget). x.writes) is in
    let runs : l.runs ≡ m.runs + k = omega (arith, by, few) in
    let reads : l.reads ≡ m.reads + 0 = omega (arith, same_reads) in
    let writes : l.writes ≡ m.writes + 0 = omega (arith, same_writes) in
    record { runs_are = runs; reads_are = reads; writes_are = writes; waits_is = refl }

pub takes_makes : (now : ℕ) (o n : Shown) (s : Seen) (l m : Budget) → TakesUp now (l.runs - m.runs) o n → m ≡ record l { runs = m.runs } → m.runs ≤ l.runs
    → o.state ≡ state.Ready → IsOpen (budget_at o s l false) → OwesRightly n → MadeTo now (budget_at o s l false) (budget_at n s m false)
takes_makes now o n s l m up is few ready may owes =
    elim up [
      | inl run ↦ (Run, ((ready, run.1, may, takes o n s l m 1 run.0 is few, refl, run.2), run.3), owes)
      | inr none ↦ elim none.1 [
        | inl names ↦ (Refusal names.0, ((ready, names.1, may, takes o n s l m 0 none.0 is few, refl, names.2), names.3), owes)
        | inr wants ↦ (Want, ((inl (ready, wants.0, may), takes o n s l m 0 none.0 is few, refl, wants.1), wants.2), owes)
      ]
    ]

-- a read by which the connection ended had not to wait
pub ended_read : (a : LinkRead) → (a ≡ read.End) ⊎ (a ≡ read.Failed) → read_waits a ≡ false
ended_read (read.Bytes n) e = refl
ended_read read.NotYet e = elim e [ inl x ↦ cc | inr x ↦ cc ]
ended_read read.End e = refl
ended_read read.Failed e = refl

pub read_makes : (now : ℕ) (a : LinkRead) (o n : Shown) (s u : Seen) (l : Budget) (came : ℕ) (w : Bool) → read_waits a ≡ w → ReadsOnce a o n s u → Keeps now (Read a) o n
    → o.state ≡ state.Reading → (0 < l.runs) × (0 < l.reads) × (0 < l.writes) → OwesRightly n
    → MadeTo now (budget_at o s l false) (budget_at n u (record { runs = l.runs; reads = l.reads - 1; writes = l.writes; came = came }) w)
read_makes now a o n s u l came w waits once keeps reading some owes =
    let runs : l.runs ≡ l.runs + 0 = omega arith in
    let reads : l.reads ≡ (l.reads - 1) + 1 = omega (arith, some.1) in
    let writes : l.writes ≡ l.writes + 0 = omega arith in
    (Read a, ((reading, is_open o s l some, record { runs_are = runs; reads_are = reads; writes_are = writes; waits_is = sym waits }, once), keeps), owes)

-- memory was refused before a write
pub want_makes : (now : ℕ) (o n : Shown) (s u : Seen) (l : Budget) → SaysOnce now said.Unwritten o n s u → MayWrite (budget_at o s l false) → OwesRightly n
    → MadeTo now (budget_at o s l false) (budget_at n u l false)
want_makes now o n s u l h may owes =
    let runs : l.runs ≡ l.runs + 0 = omega arith in
    let reads : l.reads ≡ l.reads + 0 = omega arith in
    let writes : l.writes ≡ l.writes + 0 = omega arith in
    (Want, ((inr (h.1, h.2, may), record { runs_are = runs; reads_are = reads; writes_are = writes; waits_is = refl }, h.0, h.3), h.4), owes)

pub write_makes : (now : ℕ) (a : LinkWrite) (o n : Shown) (s u : Seen) (l : Budget) (w : Bool) → write_waits a ≡ w → WritesOnce a o n s u → Keeps now (Write a) o n
    → IsOwing o → MayWrite (budget_at o s l false) → OwesRightly n
    → MadeTo now (budget_at o s l false) (budget_at n u (record { runs = l.runs; reads = l.reads; writes = l.writes - 1; came = l.came }) w)
write_makes now a o n s u l w waits once keeps owing may owes =
    let runs : l.runs ≡ l.runs + 0 = omega arith in
    let reads : l.reads ≡ l.reads + 0 = omega arith in
    let writes : l.writes ≡ (l.writes - 1) + 1 = omega (arith, may.writes) in
    (Write a, ((owing, may, record { runs_are = runs; reads_are = reads; writes_are = writes; waits_is = sym waits }, once), keeps), owes)

-- why a turn stops, by what is left
pub over_stops : (n : Shown) (s : Seen) (l : Budget) → n.state ≡ state.Over → TurnStops (budget_at n s l false)
over_stops n s l over = inr (subst (λ (b : State). StopsIn b (budget_at n s l false)) (sym over) tt)

-- a hijacker has the connection, and nothing is owed
pub handed_stops : (n : Shown) (s : Seen) (l : Budget) → n.state ≡ state.Hijacked → n.owed ≡ [] → TurnStops (budget_at n s l false)
handed_stops n s l unfed none = inr (subst (λ (b : State). StopsIn b (budget_at n s l false)) (sym unfed) (inl none))

pub spent_stops : (n : Shown) (s : Seen) (l : Budget) → (n.state ≡ state.Reading) ⊎ (n.state ≡ state.Ready) → IsSpentBudget l
    → TurnStops (budget_at n s l false)
spent_stops n s l e spent =
    elim e [
      | inl reading ↦ inr (subst (λ (b : State). StopsIn b (budget_at n s l false)) (sym reading) spent)
      | inr ready ↦ inr (subst (λ (b : State). StopsIn b (budget_at n s l false)) (sym ready) spent)
    ]

pub unwritten_stops : (n : Shown) (s : Seen) (l : Budget) → IsOwing n → (l.reads ≡ 0) ⊎ (l.writes ≡ 0) → TurnStops (budget_at n s l false)
unwritten_stops n s l owing none =
    elim owing [
      | inl saying ↦ inr (subst (λ (b : State). StopsIn b (budget_at n s l false)) (sym saying) none)
      | inr unfed ↦ inr (subst (λ (b : State). StopsIn b (budget_at n s l false)) (sym unfed.0) (inr none))
    ]

-- the moves so far
pub record Moving (now : ℕ) (first last : Point) : Type 0 where
  pub moves : List Move
  pub made : Goes now moves first last

pub moving_none : (now : ℕ) (m : Point) → Moving now m m
moving_none now m = record { moves = []; made = refl }

pub moving_step : (now : ℕ) (first m n : Point) → Moving now first m → MadeTo now m n → Moving now first n
moving_step now first m n h k = record { moves = h.moves ++ k.0 ∷ []; made = goes_on now h.moves k.0 first m n h.made k.1 k.2 }

-- what a turn may do
abbrev pub full : Budget
full = record { runs = 10; reads = 160; writes = 160; came = 0 }

full_open : (o : Shown) (s : Seen) → IsOpen (budget_at o s full false)
full_open o s =
    let ten : 0 < 10 = omega arith in
    let many : 0 < 160 = omega arith in
    record { runs = ten; reads = many; writes = many; unwaited = refl }

-- the first move of a turn
pub start_makes : (now : ℕ) (o n : Shown) (s : Seen) (f l : Budget) → f ≡ full → TakesUp now (f.runs - l.runs) o n → l ≡ record f { runs = l.runs } → l.runs ≤ f.runs
    → o.state ≡ state.Ready → OwesRightly n → MadeTo now (budget_at o s full false) (budget_at n s l false)
start_makes now o n s f l all up is few ready owes =
    let made : MadeTo now (budget_at o s f false) (budget_at n s l false) =
    takes_makes now o n s f l up is few ready (subst (λ (x : Budget). IsOpen (budget_at o s x false)) (sym all) (full_open o s)) owes in
    subst (λ (x : Budget). MadeTo now (budget_at o s x false) (budget_at n s l false)) all made

pub moving_start : (now : ℕ) (o n : Shown) (s : Seen) (l : Budget) → MadeTo now (budget_at o s full false) (budget_at n s l false)
    → Moving now (budget_at o s full false) (budget_at n s l false)
moving_start now o n s l made =
    moving_step now (budget_at o s full false) (budget_at o s full false) (budget_at n s l false) (moving_none now (budget_at o s full false)) made

-- all moves of a turn
pub record TurnMade (now : ℕ) (o n : Shown) (s u : Seen) (runs reads writes : ℕ) : Type 0 where
  pub moves : List Move
  pub waited : Bool
  pub made : Goes now moves (turn_at o s 0 0 0 false) (turn_at n u runs reads writes waited)
  pub stops : TurnStops (turn_at n u runs reads writes waited)

-- what is left, by what was made
pub turn_point : (n : Shown) (u : Seen) (l : Budget) (w : Bool) → (l.runs ≤ 10) × (l.reads ≤ 160) × (l.writes ≤ 160)
    → budget_at n u l w ≡ turn_at n u (10 - l.runs) (160 - l.reads) (160 - l.writes) w
turn_point n u l w few =
    let runs : l.runs ≡ 10 - (10 - l.runs) = omega (arith, few.0) in
    let reads : l.reads ≡ 160 - (160 - l.reads) = omega (arith, few.1) in
    let writes : l.writes ≡ 160 - (160 - l.writes) = omega (arith, few.2) in
    ap (λ (x : ℕ). record { shown = n; seen = u; runs = x; reads = l.reads; writes = l.writes; waited = w }) runs
    ∙ ap (λ (x : ℕ). record { shown = n; seen = u; runs = 10 - (10 - l.runs); reads = x; writes = l.writes; waited = w }) reads
    ∙ ap (λ (x : ℕ). record { shown = n; seen = u; runs = 10 - (10 - l.runs); reads = 160 - (160 - l.reads); writes = x; waited = w }) writes

turn_made : (now : ℕ) (o n : Shown) (s u : Seen) (l : Budget) (w : Bool) → (l.runs ≤ 10) × (l.reads ≤ 160) × (l.writes ≤ 160)
    → Moving now (budget_at o s full false) (budget_at n u l w) → TurnStops (budget_at n u l w) → TurnMade now o n s u (10 - l.runs) (160 - l.reads) (160 - l.writes)
turn_made now o n s u l w few h stops =
    let is = turn_point n u l w few in
    record {
      moves = h.moves;
      waited = w;
      made = subst (λ (m : Point). Goes now h.moves (budget_at o s full false) m) is h.made;
      stops = subst TurnStops is stops;
    }

-- its last step
pub moving_end : (now : ℕ) (r : Step) (o m n : Shown) (s t u : Seen) (l k : Budget) → (r ≡ step.Waits) ⊎ (r ≡ step.Stops)
    → (k.runs ≤ 10) × (k.reads ≤ 160) × (k.writes ≤ 160) → Moving now (budget_at o s full false) (budget_at m t l false) → StepMoves now r m n t u l k
    → TurnMade now o n s u (10 - k.runs) (160 - k.reads) (160 - k.writes)
moving_end now step.GoesOn o m n s t u l k e few h p = elim e [ inl x ↦ cc | inr x ↦ cc ]
moving_end now step.Waits o m n s t u l k e few h p =
    turn_made now o n s u k true few (moving_step now (budget_at o s full false) (budget_at m t l false) (budget_at n u k true) h p) (inl refl)
moving_end now step.Stops o m n s t u l k e few h p =
    let same : budget_at m t l false ≡ budget_at n u k false =
    ap (λ (x : Shown). budget_at x t l false) (sym p.0) ∙ ap (λ (x : Seen). budget_at n x l false) (sym p.1) ∙ ap (λ (x : Budget). budget_at n u x false) (sym p.2) in
    turn_made now o n s u k false few (subst (λ (x : Point). Moving now (budget_at o s full false) x) same h) p.3

-- all moves of a flush
pub record FlushMade (now : ℕ) (o n : Shown) (s u : Seen) (writes : ℕ) : Type 0 where
  pub moves : List Move
  pub waited : Bool
  pub made : Goes now moves (flush_at o s 0 false) (flush_at n u writes waited)
  pub stops : FlushStops (flush_at n u writes waited)

flush_may : (o : Shown) (s : Seen) (x : ℕ) → x < 16 → MayWrite (flush_at o s x false)
flush_may o s x few =
    let one : 0 < 1 = omega arith in
    let some : 0 < 16 - x = omega (arith, few) in
    record { reads = one; writes = some; unwaited = refl }

-- one write of a flush
pub flush_moving_step : (now : ℕ) (a : LinkWrite) (first : Point) (m n : Shown) (t u : Seen) (x : ℕ) (w : Bool) → write_waits a ≡ w → WritesOnce a m n t u → Keeps now (Write a) m n
    → IsOwing m → x < 16 → OwesRightly n → Moving now first (flush_at m t x false) → Moving now first (flush_at n u (x + 1) w)
flush_moving_step now a first m n t u x w waits once keeps owing few owes h =
    let writes : 16 - x ≡ (16 - (x + 1)) + 1 = omega (arith, few) in
    let spends : Spends 0 0 1 (write_waits a) (flush_at m t x false) (flush_at n u (x + 1) w) =
    record { runs_are = refl; reads_are = refl; writes_are = writes; waits_is = sym waits } in
    moving_step now first (flush_at m t x false) (flush_at n u (x + 1) w) h (Write a, ((owing, flush_may m t x few, spends, once), keeps), owes)

-- memory was refused in a flush
pub flush_wants : (now : ℕ) (first : Point) (m n : Shown) (t u : Seen) (x : ℕ) → SaysOnce now said.Unwritten m n t u → x < 16 → OwesRightly n
    → Moving now first (flush_at m t x false) → Moving now first (flush_at n u x false)
flush_wants now first m n t u x says few owes h =
    let writes : 16 - x ≡ (16 - x) + 0 = omega arith in
    let spends : Spends 0 0 0 false (flush_at m t x false) (flush_at n u x false) =
    record { runs_are = refl; reads_are = refl; writes_are = writes; waits_is = refl } in
    moving_step now first (flush_at m t x false) (flush_at n u x false) h
    (Want, ((inr (says.1, says.2, flush_may m t x few), spends, says.0, says.3), says.4), owes)

pub flush_made : (now : ℕ) (o n : Shown) (s u : Seen) (x : ℕ) (w : Bool) → Moving now (flush_at o s 0 false) (flush_at n u x w) → FlushStops (flush_at n u x w)
    → FlushMade now o n s u x
flush_made now o n s u x w h stops = record { moves = h.moves; waited = w; made = h.made; stops = stops }
