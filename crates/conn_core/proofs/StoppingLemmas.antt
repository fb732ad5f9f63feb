-- Where a turn and a flush leave a connection, in words of its link; and that a flush makes a write.
use Rattle.std.proofs.Common.{◌≡◌, ◌≢◌, ℕ, zero, suc, ◌+◌, ◌-◌, ◌≤◌, ◌<◌, Bool, true, false, List, [], ◌∷◌, ◌++◌, take, refl, sym, ap, subst, ◌∙◌, arith, Option, None, Some, ◌⊎◌, inl, inr}
use Rattle.rack_outside.specs.Link.{Seen, Ahead, ReadsAhead, WritesAhead, next_place, behind_read, behind_write}
use Rattle.rack_outside.specs.Told.{counted, Rose}
use Rattle.rack_outside.specs.declared.link.LinkRead.{LinkRead}
use Rattle.rack_outside.specs.declared.link.LinkRead.TheVariants as read
use Rattle.rack_outside.specs.declared.link.LinkWrite.{LinkWrite}
use Rattle.rack_outside.specs.declared.link.LinkWrite.TheVariants as write
use Rattle.talk_core.specs.Counts.{counted_by}
use Rattle.talk_core.specs.declared.ended.Why.{Why}
use Rattle.talk_core.specs.declared.ended.Why.TheVariants as why
use Rattle.conn_steps.specs.declared.state.Next.{Next}
use Rattle.conn_steps.specs.declared.state.State.{State}
use Rattle.conn_steps.specs.declared.state.State.TheVariants as state
use Rattle.conn_core.specs.Calls.{Feeds, Turns, Flushes, IsListening}
use Rattle.conn_steps.specs.Moves.{Move, Run, Refusal, Want, Read, Write, Point, IsOpen, MayWrite, Makes, MakesMove, Goes, OwesAs, OwesRightly, IsOwing, turn_at, StopsIn, TurnStops, flush_at, FlushStops, IsSpentAt, BehindRead, BehindWrite, read_waits, write_waits, ring_room}
use Rattle.conn_steps.specs.Shown.{Shown}
use Rattle.conn_core.specs.Stopping.{AreUnread, RunsLast, TurnLeaves, ended, listens, stuck, ran_out, read_out, wrote_out, waits, FlushLeaves, WritesAny}

-- a move is made only where nothing had to wait
unwaited : (move : Move) (m n : Point) → MakesMove move m n → m.waited ≡ false
unwaited Run m n h = h.2.unwaited
unwaited (Refusal fault) m n h = h.2.unwaited
unwaited Want m n h = elim h.0 [ inl ready ↦ ready.2.unwaited | inr saying ↦ saying.2.unwaited ]
unwaited (Read answer) m n h = h.1.unwaited
unwaited (Write answer) m n h = h.1.unwaited

-- what its link had to wait for: bytes of the peer, or room
abbrev pub WaitsFor : Shown → Ahead → Type 0
WaitsFor c a = ((c.state ≡ state.Reading) × (a.unread ≡ []) × (a.ended ≡ false)) ⊎ ((c.owed ≢ []) × (a.room ≡ Some 0))

read_waited : (answer : LinkRead) (room : List ℕ) (before : Option Ahead) (place : ℕ) (a : Ahead) (o n : Shown) → read_waits answer ≡ true
    → ReadsAhead answer room before place (Some a) → BehindRead state.Reading answer o n → (a.unread ≡ []) × (a.ended ≡ false) × (n ≡ o)
read_waited (read.Bytes k) room before place a o n e h behind = cc
read_waited read.NotYet room None place a o n e h behind = cc (h)
read_waited read.NotYet room (Some b) place a o n e h behind =
    let same : a ≡ behind_read read.NotYet b = cc (h.1) in
    (ap (λ (x : Ahead). x.unread) same ∙ h.0.1, ap (λ (x : Ahead). x.ended) same ∙ h.0.2, behind)
read_waited read.End room before place a o n e h behind = cc
read_waited read.Failed room before place a o n e h behind = cc

write_waited : (answer : LinkWrite) (piece : List ℕ) (before : Option Ahead) (place : ℕ) (a : Ahead) (o n : Shown) → write_waits answer ≡ true
    → WritesAhead answer piece before place (Some a) → BehindWrite answer o n → (n.owed ≢ []) × (a.room ≡ Some 0)
write_waited (write.Took k) piece before place a o n e h behind = cc
write_waited write.NotYet piece None place a o n e h behind = cc (h)
write_waited write.NotYet piece (Some b) place a o n e h behind =
    let same : a ≡ behind_write write.NotYet b = cc (h.1) in
    ((λ none. behind.some (sym behind.owed ∙ none)), ap (λ (x : Ahead). x.room) same ∙ h.0.1)
write_waited write.Failed piece before place a o n e h behind = cc
write_waited write.NoMemory piece before place a o n e h behind = cc

-- the last move had to wait
move_waited : (move : Move) (m n : Point) (a : Ahead) → MakesMove move m n → n.waited ≡ true → n.seen.ahead ≡ Some a → WaitsFor n.shown a
move_waited Run m n a h w e = absurd (let never : n.waited ≡ false = h.3.waits_is in cc)
move_waited (Refusal fault) m n a h w e = absurd (let never : n.waited ≡ false = h.3.waits_is in cc)
move_waited Want m n a h w e = absurd (let never : n.waited ≡ false = h.1.waits_is in cc)
move_waited (Read answer) m n a h w e =
    let offers = h.3.offers in
    let ahead = subst (λ (x : Option Ahead). ReadsAhead answer offers.0 m.seen.ahead (next_place m.seen) x) e offers.3 in
    let behind = subst (λ (x : State). BehindRead x answer m.shown n.shown) h.0 h.3.behind in
    let b = read_waited answer offers.0 m.seen.ahead (next_place m.seen) a m.shown n.shown (sym h.2.waits_is ∙ w) ahead behind in
    inl (ap (λ (x : Shown). x.state) b.2 ∙ h.0, b.0, b.1)
move_waited (Write answer) m n a h w e =
    let piece : List ℕ = take ring_room m.shown.owed in
    let ahead = subst (λ (x : Option Ahead). WritesAhead answer piece m.seen.ahead (next_place m.seen) x) e h.3.ahead in
    inr (write_waited answer piece m.seen.ahead (next_place m.seen) a m.shown n.shown (sym h.2.waits_is ∙ w) ahead h.3.behind)

goes_waited : (now : ℕ) (moves : List Move) (m n : Point) (a : Ahead) → Goes now moves m n → m.waited ≡ false → n.waited ≡ true
    → n.seen.ahead ≡ Some a → WaitsFor n.shown a
goes_waited now [] m n a h un w e = absurd (let same : n.waited ≡ m.waited = ap (λ (x : Point). x.waited) h in cc)
goes_waited now (move ∷ []) m n a h un w e =
    move_waited move m n a (subst (λ (x : Point). MakesMove move m x) (sym h.3) h.1.0) w e
goes_waited now (move ∷ next ∷ moves) m n a h un w e =
    goes_waited now (next ∷ moves) h.0 n a h.3 (unwaited next h.0 h.3.0 h.3.1.0) w e

-- behind a move what is owed goes by the state
goes_owes : (now : ℕ) (move : Move) (moves : List Move) (m n : Point) → Goes now (move ∷ moves) m n → OwesRightly n.shown
goes_owes now move [] m n h = subst (λ (x : Point). OwesRightly x.shown) (sym h.3) h.2
goes_owes now move (next ∷ moves) m n h = goes_owes now next moves h.0 n h.3

-- where no run is left none is read
spent_unread : (now : ℕ) (moves : List Move) (m n : Point) → Goes now moves m n → m.runs ≡ 0 → AreUnread moves
spent_unread now [] m n h none = tt
spent_unread now (Run ∷ moves) m n h none = absurd (omega (arith, none, h.1.0.2.runs))
spent_unread now (Refusal fault ∷ moves) m n h none = absurd (omega (arith, none, h.1.0.2.runs))
spent_unread now (Want ∷ moves) m n h none =
    let left : h.0.runs ≡ 0 = omega (arith, none, h.1.0.1.runs_are) in
    spent_unread now moves h.0 n h.3 left
spent_unread now (Read answer ∷ moves) m n h none = absurd (omega (arith, none, h.1.0.1.runs))
spent_unread now (Write answer ∷ moves) m n h none =
    let left : h.0.runs ≡ 0 = omega (arith, none, h.1.0.2.runs_are) in
    spent_unread now moves h.0 n h.3 left

-- a list of moves that runs last, and one move more in front
runs_behind : (move : Move) (moves : List Move) → RunsLast moves → RunsLast (move ∷ moves)
runs_behind move moves h = record { front = move ∷ h.front; behind = h.behind; moves_are = ap (λ (x : List Move). move ∷ x) h.moves_are; unread = h.unread }

-- how many runs a move takes
runs_kept : (move : Move) (m n : Point) → MakesMove move m n → (move ≡ Run) ⊎ (n.runs ≡ m.runs)
runs_kept Run m n h = inl refl
runs_kept (Refusal fault) m n h = inr (let e : n.runs ≡ m.runs = omega (arith, h.3.runs_are) in e)
runs_kept Want m n h = inr (let e : n.runs ≡ m.runs = omega (arith, h.1.runs_are) in e)
runs_kept (Read answer) m n h = inr (let e : n.runs ≡ m.runs = omega (arith, h.2.runs_are) in e)
runs_kept (Write answer) m n h = inr (let e : n.runs ≡ m.runs = omega (arith, h.2.runs_are) in e)

-- its last run was made, and nothing read behind it: by how many are left behind the first move
runs_by : (now : ℕ) (move : Move) (moves : List Move) (m next n : Point) (k : ℕ) → MakesMove move m next → Goes now moves next n → 0 < m.runs → next.runs ≡ k
    → (0 < next.runs → RunsLast moves) → RunsLast (move ∷ moves)
runs_by now move moves m next n zero makes rest some left later = elim (runs_kept move m next makes) [
  | inl run ↦ record { front = []; behind = moves; moves_are = ap (λ (x : Move). x ∷ moves) run; unread = spent_unread now moves next n rest left }
  | inr same ↦ absurd (omega (arith, same, left, some))
]
runs_by now move moves m next n (suc k) makes rest some left later =
    let more : 0 < next.runs = omega (arith, left) in
    runs_behind move moves (later more)

runs_last : (now : ℕ) (moves : List Move) (m n : Point) → Goes now moves m n → 0 < m.runs → n.runs ≡ 0 → RunsLast moves
runs_last now [] m n h some none = absurd (let same : n.runs ≡ m.runs = ap (λ (x : Point). x.runs) h in omega (arith, same, some, none))
runs_last now (move ∷ moves) m n h some none =
    runs_by now move moves m h.0 n h.0.runs h.1.0 h.3 some refl (λ more. runs_last now moves h.0 n h.3 more none)

-- a turn makes a move
turn_moves : (now : ℕ) (moves : List Move) (o n : Shown) (s u : Seen) (runs reads writes : ℕ) (w : Bool) → o.state ≡ state.Ready
    → Goes now moves (turn_at o s 0 0 0 false) (turn_at n u runs reads writes w) → TurnStops (turn_at n u runs reads writes w) → OwesRightly n
turn_moves now (move ∷ moves) o n s u runs reads writes w ready made stops =
    goes_owes now move moves (turn_at o s 0 0 0 false) (turn_at n u runs reads writes w) made
turn_moves now [] o n s u runs reads writes w ready made stops =
    let from : TurnStops (turn_at o s 0 0 0 false) = subst TurnStops made stops in
    absurd (elim from [
      | inl waited ↦ cc
      | inr stopped ↦ never (subst (λ (x : State). StopsIn x (turn_at o s 0 0 0 false)) ready stopped)
    ])
  where
    never : IsSpentAt (turn_at o s 0 0 0 false) → ⊥
    never h = elim h [ inl runs_none ↦ omega (arith, runs_none) | inr other ↦ elim other [ inl x ↦ omega (arith, x) | inr x ↦ omega (arith, x) ] ]

module _ (runs reads writes : ℕ) (moves : List Move) (c : Shown) (a : Ahead) (few : (runs ≤ 10) × (reads ≤ 160) × (writes ≤ 160)) where
  spent_reads : 160 - reads ≡ 0 → TurnLeaves runs reads writes moves c a
  spent_reads none = let e : reads ≡ 160 = omega (arith, none, few.1) in read_out e

  spent_writes : 160 - writes ≡ 0 → TurnLeaves runs reads writes moves c a
  spent_writes none = let e : writes ≡ 160 = omega (arith, none, few.2) in wrote_out e

  spent_leaves : (10 - runs ≡ 0 → RunsLast moves) → c.owed ≡ [] → (10 - runs ≡ 0) ⊎ ((160 - reads ≡ 0) ⊎ (160 - writes ≡ 0))
      → TurnLeaves runs reads writes moves c a
  spent_leaves last none h =
      elim h [
        | inl ran ↦ (let e : runs ≡ 10 = omega (arith, ran, few.0) in ran_out e none (last ran))
        | inr other ↦ elim other [ inl x ↦ spent_reads x | inr x ↦ spent_writes x ]
      ]

  stops_leaves : (s : State) (m : Point) → c.state ≡ s → OwesAs s c → m.shown ≡ c → m.runs ≡ 10 - runs → m.reads ≡ 160 - reads → m.writes ≡ 160 - writes
      → (10 - runs ≡ 0 → RunsLast moves) → StopsIn s m → TurnLeaves runs reads writes moves c a
  stops_leaves state.Reading m is owes shown_is e f g last h =
      spent_leaves last owes.0 (elim h [ inl x ↦ inl (sym e ∙ x) | inr other ↦ elim other [ inl x ↦ inr (inl (sym f ∙ x)) | inr x ↦ inr (inr (sym g ∙ x)) ] ])
  stops_leaves state.Ready m is owes shown_is e f g last h =
      spent_leaves last owes (elim h [ inl x ↦ inl (sym e ∙ x) | inr other ↦ elim other [ inl x ↦ inr (inl (sym f ∙ x)) | inr x ↦ inr (inr (sym g ∙ x)) ] ])
  stops_leaves state.Answering m is owes shown_is e f g last h = elim h [ inl x ↦ spent_reads (sym f ∙ x) | inr x ↦ spent_writes (sym g ∙ x) ]
  stops_leaves state.Hijacked m is owes shown_is e f g last h =
      elim h [
        | inl none ↦ listens (is, ap (λ (x : Shown). x.owed) (sym shown_is) ∙ none)
        | inr other ↦ elim other [ inl x ↦ spent_reads (sym f ∙ x) | inr x ↦ spent_writes (sym g ∙ x) ]
      ]
  stops_leaves state.Over m is owes shown_is e f g last h = ended is

  waited_leaves : WaitsFor c a → TurnLeaves runs reads writes moves c a
  waited_leaves h = elim h [ inl empty ↦ waits empty.0 empty.1 empty.2 | inr no_room ↦ stuck no_room.0 no_room.1 ]

-- where a turn leaves a connection
pub turn_leaves : (now : ℕ) (r : Next) (o n : Shown) (s u : Seen) (a : Ahead) → o.state ≡ state.Ready → (h : Turns now r o n s u) → u.ahead ≡ Some a
    → TurnLeaves h.runs h.reads h.writes h.moves n a
turn_leaves now r o n s u a ready h tells =
    let first : Point = turn_at o s 0 0 0 false in
    let last : Point = turn_at n u h.runs h.reads h.writes h.waited in
    let ten : 0 < 10 - 0 = omega arith in
    elim h.stops [
      | inl waited ↦ waited_leaves h.runs h.reads h.writes h.moves n a h.few (goes_waited now h.moves first last a h.made refl waited tells)
      | inr stopped ↦ stops_leaves h.runs h.reads h.writes h.moves n a h.few n.state last refl
          (turn_moves now h.moves o n s u h.runs h.reads h.writes h.waited ready h.made h.stops) refl refl refl refl
          (λ none. runs_last now h.moves first last h.made ten none) stopped
    ]

owing_first : (m : Shown) → IsOwing m → m.state ≡ state.Ready → ⊥
owing_first m owing e = elim owing [ inl x ↦ cc | inr x ↦ cc ]

owing_reads : (m : Shown) → IsOwing m → m.state ≡ state.Reading → ⊥
owing_reads m owing e = elim owing [ inl x ↦ cc | inr x ↦ cc ]

-- nothing is done behind the end
over_still : (now : ℕ) (moves : List Move) (m n : Point) → m.shown.state ≡ state.Over → Goes now moves m n → n ≡ m
over_still now [] m n over h = h
over_still now (Run ∷ moves) m n over h = absurd (let e = h.1.0.0 in cc (e))
over_still now (Refusal fault ∷ moves) m n over h = absurd (let e = h.1.0.0 in cc (e))
over_still now (Want ∷ moves) m n over h = absurd (elim h.1.0.0 [ inl x ↦ (let e = x.0 in cc (e)) | inr x ↦ (let e = x.0 in cc (e)) ])
over_still now (Read answer ∷ moves) m n over h = absurd (let e = h.1.0.0 in cc (e))
over_still now (Write answer ∷ moves) m n over h = absurd (elim h.1.0.0 [ inl x ↦ cc | inr x ↦ cc ])

-- how many writes are left
writes_fall : (now : ℕ) (moves : List Move) (m n : Point) → Goes now moves m n → n.writes ≤ m.writes
writes_fall now [] m n h = let e : n.writes ≡ m.writes = ap (λ (x : Point). x.writes) h in omega (arith, e)
writes_fall now (Run ∷ moves) m n h = let e = writes_fall now moves h.0 n h.3 in omega (arith, e, h.1.0.3.writes_are)
writes_fall now (Refusal fault ∷ moves) m n h = let e = writes_fall now moves h.0 n h.3 in omega (arith, e, h.1.0.3.writes_are)
writes_fall now (Want ∷ moves) m n h = let e = writes_fall now moves h.0 n h.3 in omega (arith, e, h.1.0.1.writes_are)
writes_fall now (Read answer ∷ moves) m n h = let e = writes_fall now moves h.0 n h.3 in omega (arith, e, h.1.0.2.writes_are)
writes_fall now (Write answer ∷ moves) m n h = let e = writes_fall now moves h.0 n h.3 in omega (arith, e, h.1.0.2.writes_are)

-- the first move where bytes are owed
first_writes : (now : ℕ) (move : Move) (moves : List Move) (m n : Point) → IsOwing m.shown → Goes now (move ∷ moves) m n
    → (n.writes < m.writes) ⊎ ((n.shown.state ≡ state.Over) × (n.shown.why ≡ Some why.NoMemory) × (n.writes ≡ m.writes))
first_writes now Run moves m n owing h = absurd (owing_first m.shown owing h.1.0.0)
first_writes now (Refusal fault) moves m n owing h = absurd (owing_first m.shown owing h.1.0.0)
first_writes now Want moves m n owing h =
    let wants = h.1.0.3 in
    let still = over_still now moves h.0 n wants.state h.3 in
    let left : n.writes ≡ h.0.writes = ap (λ (x : Point). x.writes) still in
    let same : n.writes ≡ m.writes = omega (arith, left, h.1.0.1.writes_are) in
    inr (ap (λ (x : Point). x.shown.state) still ∙ wants.state, ap (λ (x : Point). x.shown.why) still ∙ wants.why, same)
first_writes now (Read answer) moves m n owing h = absurd (owing_reads m.shown owing h.1.0.0)
first_writes now (Write answer) moves m n owing h =
    let fall = writes_fall now moves h.0 n h.3 in
    let less : n.writes < m.writes = omega (arith, fall, h.1.0.2.writes_are) in
    inl less

-- a flush makes a move
flush_stays : (o : Shown) (s : Seen) → IsOwing o → FlushStops (flush_at o s 0 false) → ⊥
flush_stays o s owing h = elim h [ inl waited ↦ cc | inr other ↦ elim other [ inl not ↦ not owing | inr none ↦ omega (arith, none) ] ]

flush_first : (now : ℕ) (moves : List Move) (o n : Shown) (s u : Seen) (writes : ℕ) (w : Bool) → writes ≤ 16 → IsOwing o
    → Goes now moves (flush_at o s 0 false) (flush_at n u writes w) → FlushStops (flush_at n u writes w) → WritesAny writes n × OwesRightly n
flush_first now [] o n s u writes w few owing made stops = absurd (flush_stays o s owing (subst FlushStops made stops))
flush_first now (move ∷ moves) o n s u writes w few owing made stops = (
  elim (first_writes now move moves (flush_at o s 0 false) (flush_at n u writes w) owing made) [
    | inl less ↦ inl (let some : 1 ≤ writes = omega (arith, less) in some)
    | inr want ↦ inr ((let none : writes ≡ 0 = omega (arith, want.2, few) in none), want.0, want.1)
  ],
  goes_owes now move moves (flush_at o s 0 false) (flush_at n u writes w) made,
)

-- a flush makes a write, unless memory is refused before
pub flush_writes : (now : ℕ) (r : Next) (o n : Shown) (s u : Seen) → IsOwing o → (h : Flushes now r o n s u) → WritesAny h.writes n
flush_writes now r o n s u owing h = (flush_first now h.moves o n s u h.writes h.waited h.few owing h.made h.stops).0

-- a count behind some events is no lower than behind one
counted_some : (n count : ℕ) → counted count ≤ counted_by (suc n) count
counted_some zero count = omega arith
counted_some (suc n) count = let e = counted_some n (counted count) in omega (arith, e)

rose_by : (n count : ℕ) → 1 ≤ n → Rose count (counted_by n count)
rose_by zero count some = absurd (omega (arith, some))
rose_by (suc n) count some = counted_some n count

-- so its link's count of writes rose, and that of reads is as before
pub flush_rose : (now : ℕ) (r : Next) (o n : Shown) (s u : Seen) → IsOwing o → n.state ≢ state.Over → Flushes now r o n s u
    → Rose s.writes u.writes × (u.reads ≡ s.reads)
flush_rose now r o n s u owing live h = (
  elim (flush_writes now r o n s u owing h) [
    | inl some ↦ subst (λ (x : ℕ). Rose s.writes x) (sym h.moved.writes_are) (rose_by h.writes s.writes some)
    | inr none ↦ absurd (live none.1)
  ],
  h.moved.reads_are,
)

-- a feed makes its one read
pub feed_rose : (now : ℕ) (r : Next) (o n : Shown) (s u : Seen) → Feeds now r o n s u → (u.reads ≡ counted s.reads) × (u.writes ≡ s.writes)
feed_rose now r o n s u h = (h.moved.reads_are, h.moved.writes_are)

-- where nothing is to be written nothing is owed
unowing : (s : State) (n : Shown) → n.state ≡ s → OwesAs s n → ¬ (IsOwing n) → n.owed ≡ []
unowing state.Reading n is owes not = owes.0
unowing state.Ready n is owes not = owes
unowing state.Answering n is owes not = absurd (not (inl is))
unowing state.Hijacked n is owes not = go n.owed refl
  where
    go : (xs : List ℕ) → n.owed ≡ xs → n.owed ≡ []
    go [] e = e
    go (x ∷ xs) e = absurd (not (inr (is, (λ none. cc))))
unowing state.Over n is owes not = owes

-- where a flush leaves a connection
pub flush_leaves : (now : ℕ) (r : Next) (o n : Shown) (s u : Seen) (a : Ahead) → IsOwing o → (h : Flushes now r o n s u) → u.ahead ≡ Some a
    → FlushLeaves h.writes n a
flush_leaves now r o n s u a owing h tells =
    let first : Point = flush_at o s 0 false in
    let last : Point = flush_at n u h.writes h.waited in
    let owes = (flush_first now h.moves o n s u h.writes h.waited h.few owing h.made h.stops).1 in
    elim h.stops [
      | inl waited ↦ elim (goes_waited now h.moves first last a h.made refl waited tells) [
        | inl empty ↦ inl (subst (λ (x : State). OwesAs x n) empty.0 owes).0
        | inr no_room ↦ inr (inr no_room)
      ]
      | inr other ↦ elim other [
        | inl not ↦ inl (unowing n.state n refl owes not)
        | inr none ↦ (let e : h.writes ≡ 16 = omega (arith, none, h.few) in inr (inl e))
      ]
    ]
