-- What each read and each write of a connection is, as a move, and lists of moves.
use Rattle.std.proofs.Common.{◌≡◌, ◌≢◌, ◌↔◌, ℕ, ◌+◌, ◌-◌, ◌<◌, ◌≤◌, Bool, true, false, IsTrue, List, [], ◌∷◌, ◌++◌, length, take, drop, refl, sym, ap, subst, ◌∙◌, arith, length-append, Option, None, Some, ◌⊎◌, inl, inr}
use Rattle.std.proofs.Math.Seq.{take-append_seam}
use Rattle.std.proofs.lemmas.List.{take_all, drop-append-le}
use Rattle.rack_types.specs.declared.body.Body.{Ghosts}
use Rattle.rack_types.specs.declared.fault.Fault.{Fault}
use Rattle.rack_types.specs.declared.peer.Local.{Local}
use Rattle.rack_outside.specs.declared.link.LinkWrite.TheVariants as write
use Rattle.message_framing.specs.declared.intake.Intake.{Intake}
use Rattle.message_framing.specs.Intake.{Fed}
use Rattle.talk_core.specs.declared.ended.Life.{Life}
use Rattle.talk_core.specs.declared.ended.Why.TheVariants as why
use Rattle.talk_core.specs.Tail.{Voice}
use Rattle.conn_steps.specs.declared.inside.Inside.{Inside}
use Rattle.conn_steps.specs.declared.moments.Ending.{Ending}
use Rattle.conn_steps.specs.declared.moments.Late.{Late}
use Rattle.conn_steps.specs.declared.moments.Moments.{Moments}
use Rattle.conn_steps.specs.declared.at.At.{At}
use Rattle.conn_steps.specs.declared.at.At.TheVariants as at
use Rattle.conn_steps.specs.declared.state.State.TheVariants as state
use Rattle.conn_steps.specs.Ends.{MayFeed}
use Rattle.conn_steps.specs.Inner.{IsFilledAt}
use Rattle.conn_steps.specs.Moves.{ring_room, FedTo, ToldTo, KeptTo, BehindWrite, OwesAs, OwesRightly, Move, Point, Makes, Goes, IsOwing}
use Rattle.conn_steps.specs.Moments.{ended_by}
use Rattle.conn_steps.specs.At.{IsSaying, IsHearing, MayRead, state_at}
use Rattle.conn_steps.specs.Rests.{RestsAt}
use Rattle.conn_steps.specs.Shown.{Shown, shows, replied_at, owed_at, why_at, fault_at, after_at, sure_at}
use Rattle.conn_steps.specs.Steps.{FeedsHeld, Tells, CompletesTo}
use Rattle.conn_steps.proofs.FillShows.{shown_at}
use Rattle.conn_steps.proofs.AtLemmas.{absent}
use Rattle.conn_steps.proofs.WriteShows.{filled_ring, filled_owes}

-- moves, and more moves
pub goes_then : (now : ℕ) (xs ys : List Move) (m k n : Point) → Goes now xs m k → Goes now ys k n → Goes now (xs ++ ys) m n
goes_then now [] ys m k n h i = subst (λ (j : Point). Goes now ys j n) h i
goes_then now (x ∷ xs) ys m k n h i = (h.0, h.1, h.2, goes_then now xs ys h.0 k n h.3 i)

-- and one more
pub goes_on : (now : ℕ) (xs : List Move) (x : Move) (m k n : Point) → Goes now xs m k → Makes now x k n → OwesRightly n.shown
    → Goes now (xs ++ x ∷ []) m n
goes_on now xs x m k n h makes owes = goes_then now xs (x ∷ []) m k n h (n, makes, owes, refl)

pub some_not : (xs : List ℕ) → 0 < length xs → xs ≢ []
some_not xs some none = absurd (omega (arith, some, ap (λ (x : List ℕ). length x) none))

-- what is owed and unfed where a connection rests
rests_owe : {B H : Type 0} (a : At B H) (intake : Intake) (unfed ring : List ℕ) (calls : ℕ) (peer : List ℕ) (local : Local) (lives : List Life)
    (taken : ℕ) (e : Ending) (t : Moments) → RestsAt a intake unfed ring calls e → OwesAs (state_at a) (shown_at a ring unfed peer local lives calls taken e t)
rests_owe {B} {H} at.Reading intake unfed ring calls peer local lives taken e t r = (r.1.0, r.0)
rests_owe {B} {H} at.Asked intake unfed ring calls peer local lives taken e t r = r.0
rests_owe {B} {H} (at.Refused f) intake unfed ring calls peer local lives taken e t r = r.0
rests_owe {B} {H} (at.Answering f) intake unfed ring calls peer local lives taken e t r =
    some_not (ring ++ f.rest.bytes) (omega (arith, r.0, length-append ring f.rest.bytes))
rests_owe {B} {H} (at.Writing keeps) intake unfed ring calls peer local lives taken e t r = some_not ring r.0
rests_owe {B} {H} (at.Handing h) intake unfed ring calls peer local lives taken e t r = some_not ring r.0
rests_owe {B} {H} at.Refusing intake unfed ring calls peer local lives taken e t r = some_not ring r
rests_owe {B} {H} (at.Listening h) intake unfed ring calls peer local lives taken e t r = (λ e. cc, λ keeps. r.0, λ closes. cc)
rests_owe {B} {H} (at.Speaking h) intake unfed ring calls peer local lives taken e t r = (λ e. cc, λ keeps. r.0, λ closes. cc)
rests_owe {B} {H} at.Parting intake unfed ring calls peer local lives taken e t r = (λ e. cc, λ keeps. cc, λ closes. some_not ring r)
rests_owe {B} {H} (at.Over w) intake unfed ring calls peer local lives taken e t r = refl

pub owes_rightly : {B H : Type 0} {g : Ghosts B} (p : Inside B H g) → OwesRightly (shows p)
owes_rightly {B} {H} {g} p = rests_owe p.at p.intake p.unfed p.ring.items p.calls p.peer p.local p.lives.items p.taken p.ending p.moments p.rests

-- bytes are owed at a place where some are said, and only there
saying_at : {B H : Type 0} (a : At B H) (intake : Intake) (unfed ring : List ℕ) (calls : ℕ) (m : Ending) → RestsAt a intake unfed ring calls m
    → IsSaying a → (state_at a ≡ state.Answering) ⊎ ((state_at a ≡ state.Hijacked) × (owed_at a ring ≢ []))
saying_at {B} {H} at.Reading intake unfed ring calls m r is = absurd is
saying_at {B} {H} at.Asked intake unfed ring calls m r is = absurd is
saying_at {B} {H} (at.Refused f) intake unfed ring calls m r is = absurd is
saying_at {B} {H} (at.Answering f) intake unfed ring calls m r is = inl refl
saying_at {B} {H} (at.Writing keeps) intake unfed ring calls m r is = inl refl
saying_at {B} {H} (at.Handing h) intake unfed ring calls m r is = inl refl
saying_at {B} {H} at.Refusing intake unfed ring calls m r is = inl refl
saying_at {B} {H} (at.Listening h) intake unfed ring calls m r is = absurd is
saying_at {B} {H} (at.Speaking h) intake unfed ring calls m r is = inr (refl, some_not ring r.1)
saying_at {B} {H} at.Parting intake unfed ring calls m r is = inr (refl, some_not ring r)
saying_at {B} {H} (at.Over w) intake unfed ring calls m r is = absurd is

owing_at : {B H : Type 0} (a : At B H) (intake : Intake) (unfed ring : List ℕ) (calls : ℕ) (m : Ending) → RestsAt a intake unfed ring calls m
    → (state_at a ≡ state.Answering) ⊎ ((state_at a ≡ state.Hijacked) × (owed_at a ring ≢ [])) → IsSaying a
owing_at {B} {H} at.Reading intake unfed ring calls m r e = elim e [ inl x ↦ cc | inr x ↦ cc ]
owing_at {B} {H} at.Asked intake unfed ring calls m r e = elim e [ inl x ↦ cc | inr x ↦ cc ]
owing_at {B} {H} (at.Refused f) intake unfed ring calls m r e = elim e [ inl x ↦ cc | inr x ↦ cc ]
owing_at {B} {H} (at.Answering f) intake unfed ring calls m r e = tt
owing_at {B} {H} (at.Writing keeps) intake unfed ring calls m r e = tt
owing_at {B} {H} (at.Handing h) intake unfed ring calls m r e = tt
owing_at {B} {H} at.Refusing intake unfed ring calls m r e = tt
owing_at {B} {H} (at.Listening h) intake unfed ring calls m r e = elim e [ inl x ↦ cc | inr x ↦ absurd (x.1 r.1) ]
owing_at {B} {H} (at.Speaking h) intake unfed ring calls m r e = tt
owing_at {B} {H} at.Parting intake unfed ring calls m r e = tt
owing_at {B} {H} (at.Over w) intake unfed ring calls m r e = elim e [ inl x ↦ cc | inr x ↦ cc ]

pub saying_owing : {B H : Type 0} {g : Ghosts B} (p : Inside B H g) → IsSaying p.at → IsOwing (shows p)
saying_owing {B} {H} {g} p is = saying_at p.at p.intake p.unfed p.ring.items p.calls p.ending p.rests is

pub owing_saying : {B H : Type 0} {g : Ghosts B} (p : Inside B H g) → IsOwing (shows p) → IsSaying p.at
owing_saying {B} {H} {g} p is = owing_at p.at p.intake p.unfed p.ring.items p.calls p.ending p.rests is

pub unsaying : {B H : Type 0} {g : Ghosts B} (p : Inside B H g) (b : Bool) → (IsTrue b ↔ IsSaying p.at) → b ≡ false → ¬ (IsOwing (shows p))
unsaying {B} {H} {g} p b is not owing = let t : b ≡ true = is.1 (owing_saying p owing) in cc

-- a hijacker has the connection, and nothing is owed
hearing_at : {B H : Type 0} (a : At B H) (intake : Intake) (unfed ring : List ℕ) (calls : ℕ) (m : Ending) → RestsAt a intake unfed ring calls m
    → IsHearing a → (state_at a ≡ state.Hijacked) × (owed_at a ring ≡ [])
hearing_at {B} {H} at.Reading intake unfed ring calls m r is = absurd is
hearing_at {B} {H} at.Asked intake unfed ring calls m r is = absurd is
hearing_at {B} {H} (at.Refused f) intake unfed ring calls m r is = absurd is
hearing_at {B} {H} (at.Answering f) intake unfed ring calls m r is = absurd is
hearing_at {B} {H} (at.Writing keeps) intake unfed ring calls m r is = absurd is
hearing_at {B} {H} (at.Handing h) intake unfed ring calls m r is = absurd is
hearing_at {B} {H} at.Refusing intake unfed ring calls m r is = absurd is
hearing_at {B} {H} (at.Listening h) intake unfed ring calls m r is = (refl, r.1)
hearing_at {B} {H} (at.Speaking h) intake unfed ring calls m r is = absurd is
hearing_at {B} {H} at.Parting intake unfed ring calls m r is = absurd is
hearing_at {B} {H} (at.Over w) intake unfed ring calls m r is = absurd is

silent_at : {B H : Type 0} (a : At B H) → state_at a ≡ state.Hijacked → ¬ (IsSaying a) → IsHearing a
silent_at {B} {H} at.Reading e not = cc
silent_at {B} {H} at.Asked e not = cc
silent_at {B} {H} (at.Refused f) e not = cc
silent_at {B} {H} (at.Answering f) e not = cc
silent_at {B} {H} (at.Writing keeps) e not = cc
silent_at {B} {H} (at.Handing h) e not = cc
silent_at {B} {H} at.Refusing e not = cc
silent_at {B} {H} (at.Listening h) e not = tt
silent_at {B} {H} (at.Speaking h) e not = absurd (not tt)
silent_at {B} {H} at.Parting e not = absurd (not tt)
silent_at {B} {H} (at.Over w) e not = cc

pub hearing_owes : {B H : Type 0} {g : Ghosts B} (p : Inside B H g) → IsHearing p.at
    → ((shows p).state ≡ state.Hijacked) × ((shows p).owed ≡ [])
hearing_owes {B} {H} {g} p is = hearing_at p.at p.intake p.unfed p.ring.items p.calls p.ending p.rests is

pub silent_hears : {B H : Type 0} (a : At B H) (b : Bool) → state_at a ≡ state.Hijacked → (IsTrue b ↔ IsSaying a) → b ≡ false → IsHearing a
silent_hears {B} {H} a b unfed is not = silent_at a unfed (λ says. let t : b ≡ true = is.1 says in cc)

pub reading_place : {B H : Type 0} (a : At B H) → state_at a ≡ state.Reading → a ≡ at.Reading
reading_place {B} {H} at.Reading e = refl
reading_place {B} {H} at.Asked e = cc
reading_place {B} {H} (at.Refused f) e = cc
reading_place {B} {H} (at.Answering f) e = cc
reading_place {B} {H} (at.Writing keeps) e = cc
reading_place {B} {H} (at.Handing h) e = cc
reading_place {B} {H} at.Refusing e = cc
reading_place {B} {H} (at.Listening h) e = cc
reading_place {B} {H} (at.Speaking h) e = cc
reading_place {B} {H} at.Parting e = cc
reading_place {B} {H} (at.Over w) e = cc

-- a read may be made
may_read_at : {B H : Type 0} (a : At B H) (intake : Intake) (unfed ring : List ℕ) (calls : ℕ) (m : Ending) → RestsAt a intake unfed ring calls m
    → (state_at a ≡ state.Reading) ⊎ ((state_at a ≡ state.Hijacked) × (owed_at a ring ≡ [])) → MayRead a
may_read_at {B} {H} at.Reading intake unfed ring calls m r e = inl refl
may_read_at {B} {H} at.Asked intake unfed ring calls m r e = elim e [ inl x ↦ cc | inr x ↦ cc ]
may_read_at {B} {H} (at.Refused f) intake unfed ring calls m r e = elim e [ inl x ↦ cc | inr x ↦ cc ]
may_read_at {B} {H} (at.Answering f) intake unfed ring calls m r e = elim e [ inl x ↦ cc | inr x ↦ cc ]
may_read_at {B} {H} (at.Writing keeps) intake unfed ring calls m r e = elim e [ inl x ↦ cc | inr x ↦ cc ]
may_read_at {B} {H} (at.Handing h) intake unfed ring calls m r e = elim e [ inl x ↦ cc | inr x ↦ cc ]
may_read_at {B} {H} at.Refusing intake unfed ring calls m r e = elim e [ inl x ↦ cc | inr x ↦ cc ]
may_read_at {B} {H} (at.Listening h) intake unfed ring calls m r e = inr tt
may_read_at {B} {H} (at.Speaking h) intake unfed ring calls m r e = elim e [ inl x ↦ cc | inr x ↦ absurd (some_not ring r.1 x.1) ]
may_read_at {B} {H} at.Parting intake unfed ring calls m r e = elim e [ inl x ↦ cc | inr x ↦ absurd (some_not ring r x.1) ]
may_read_at {B} {H} (at.Over w) intake unfed ring calls m r e = elim e [ inl x ↦ cc | inr x ↦ cc ]

pub may_read : {B H : Type 0} {g : Ghosts B} (p : Inside B H g) → MayFeed (shows p) → MayRead p.at
may_read {B} {H} {g} p may = may_read_at p.at p.intake p.unfed p.ring.items p.calls p.ending p.rests may

-- the connection is read, or a hijacker has it
pub may_state : {B H : Type 0} (a : At B H) → MayRead a → state_at a ≢ state.Reading → IsHearing a
may_state {B} {H} a may not =
    elim may [ inl reading ↦ absurd (not (ap (λ (d : At B H). state_at d) reading)) | inr hears ↦ hears ]

-- what stands behind bytes that were fed
pub fed_to : {B H : Type 0} (a : At B H) (old new : Intake) (unfed left : List ℕ) → FeedsHeld old unfed new left a → FedTo (state_at a) (why_at a)
fed_to {B} {H} at.Reading old new unfed left f = refl
fed_to {B} {H} at.Asked old new unfed left f = refl
fed_to {B} {H} (at.Refused fault) old new unfed left f = refl
fed_to {B} {H} (at.Answering framer) old new unfed left f = absurd f
fed_to {B} {H} (at.Writing keeps) old new unfed left f = absurd f
fed_to {B} {H} (at.Handing h) old new unfed left f = absurd f
fed_to {B} {H} at.Refusing old new unfed left f = absurd f
fed_to {B} {H} (at.Listening h) old new unfed left f = absurd f
fed_to {B} {H} (at.Speaking h) old new unfed left f = absurd f
fed_to {B} {H} at.Parting old new unfed left f = absurd f
fed_to {B} {H} (at.Over why.Closed) old new unfed left f = absurd f
fed_to {B} {H} (at.Over why.PeerEnd) old new unfed left f = absurd f
fed_to {B} {H} (at.Over (why.Idle by)) old new unfed left f = absurd f
fed_to {B} {H} (at.Over (why.TimedOut since moment)) old new unfed left f = absurd f
fed_to {B} {H} (at.Over (why.Stalled since moment)) old new unfed left f = absurd f
fed_to {B} {H} (at.Over (why.Unread level)) old new unfed left f = absurd f
fed_to {B} {H} (at.Over why.ReadFailed) old new unfed left f = absurd f
fed_to {B} {H} (at.Over why.WriteFailed) old new unfed left f = absurd f
fed_to {B} {H} (at.Over (why.Halted level)) old new unfed left f = absurd f
fed_to {B} {H} (at.Over why.NoMemory) old new unfed left f = refl
fed_to {B} {H} (at.Over why.Hijacked) old new unfed left f = absurd f

-- nothing is owed where more is to be read
pub reading_ring : {B H : Type 0} (a : At B H) (intake : Intake) (unfed ring : List ℕ) (calls : ℕ) (m : Ending) → a ≡ at.Reading → RestsAt a intake unfed ring calls m
    → ring ≡ []
reading_ring {B} {H} a intake unfed ring calls m e h = (subst (λ (b : At B H). RestsAt b intake unfed ring calls m) e h).1.0

owed_fed : {B H : Type 0} (a : At B H) (ring : List ℕ) → FedTo (state_at a) (why_at a) → ring ≡ [] → owed_at a ring ≡ ring
owed_fed {B} {H} at.Reading ring f e = refl
owed_fed {B} {H} at.Asked ring f e = refl
owed_fed {B} {H} (at.Refused fault) ring f e = refl
owed_fed {B} {H} (at.Answering framer) ring f e = absurd f
owed_fed {B} {H} (at.Writing keeps) ring f e = absurd f
owed_fed {B} {H} (at.Handing h) ring f e = absurd f
owed_fed {B} {H} at.Refusing ring f e = absurd f
owed_fed {B} {H} (at.Listening h) ring f e = absurd f
owed_fed {B} {H} (at.Speaking h) ring f e = absurd f
owed_fed {B} {H} at.Parting ring f e = absurd f
owed_fed {B} {H} (at.Over w) ring f e = sym e

-- and behind bytes that were fed
pub unowed_fed : {B H : Type 0} (a b : At B H) (intake : Intake) (unfed ring : List ℕ) (calls : ℕ) (m : Ending) → a ≡ at.Reading → RestsAt a intake unfed ring calls m
    → FedTo (state_at b) (why_at b) → owed_at b ring ≡ owed_at a ring
unowed_fed {B} {H} a b intake unfed ring calls m e h f =
    owed_fed b ring f (reading_ring a intake unfed ring calls m e h) ∙ sym (ap (λ (d : At B H). owed_at d ring) e)

-- the ring is the front of what is owed, as much as it holds
pub fills_front : {B H : Type 0} (a : At B H) (ring : List ℕ) → IsFilledAt a ring → length ring ≤ ring_room → ring ≡ take ring_room (owed_at a ring)
fills_front {B} {H} at.Reading ring is few = absurd is
fills_front {B} {H} at.Asked ring is few = absurd is
fills_front {B} {H} (at.Refused f) ring is few = absurd is
fills_front {B} {H} (at.Answering f) ring is few =
    sym (ap (λ (n : ℕ). take n (ring ++ f.rest.bytes)) (sym is.0) ∙ take-append_seam ring f.rest.bytes)
fills_front {B} {H} (at.Writing keeps) ring is few = sym (take_all ring_room ring few)
fills_front {B} {H} (at.Handing h) ring is few = sym (take_all ring_room ring few)
fills_front {B} {H} at.Refusing ring is few = sym (take_all ring_room ring few)
fills_front {B} {H} (at.Listening h) ring is few = absurd is
fills_front {B} {H} (at.Speaking h) ring is few = sym (take_all ring_room ring few)
fills_front {B} {H} at.Parting ring is few = sym (take_all ring_room ring few)
fills_front {B} {H} (at.Over w) ring is few = absurd is

-- what is owed behind a write that took n bytes of the ring
pub owed_left : {B H : Type 0} (a : At B H) (before after : List ℕ) (n : ℕ) → IsFilledAt a before → after ≡ drop n before → n ≤ length before
    → owed_at a after ≡ drop n (owed_at a before)
owed_left {B} {H} at.Reading before after n is off few = absurd is
owed_left {B} {H} at.Asked before after n is off few = absurd is
owed_left {B} {H} (at.Refused f) before after n is off few = absurd is
owed_left {B} {H} (at.Answering f) before after n is off few =
    ap (λ (x : List ℕ). x ++ f.rest.bytes) off ∙ sym (drop-append-le n before f.rest.bytes few)
owed_left {B} {H} (at.Writing keeps) before after n is off few = off
owed_left {B} {H} (at.Handing h) before after n is off few = off
owed_left {B} {H} at.Refusing before after n is off few = off
owed_left {B} {H} (at.Listening h) before after n is off few = absurd is
owed_left {B} {H} (at.Speaking h) before after n is off few = off
owed_left {B} {H} at.Parting before after n is off few = off
owed_left {B} {H} (at.Over w) before after n is off few = absurd is

-- no why is named at a place where bytes are owed
pub filled_why : {B H : Type 0} (a : At B H) (ring : List ℕ) → IsFilledAt a ring → why_at a ≡ None
filled_why {B} {H} at.Reading ring is = absurd is
filled_why {B} {H} at.Asked ring is = absurd is
filled_why {B} {H} (at.Refused f) ring is = absurd is
filled_why {B} {H} (at.Answering f) ring is = refl
filled_why {B} {H} (at.Writing keeps) ring is = refl
filled_why {B} {H} (at.Handing h) ring is = refl
filled_why {B} {H} at.Refusing ring is = refl
filled_why {B} {H} (at.Listening h) ring is = absurd is
filled_why {B} {H} (at.Speaking h) ring is = refl
filled_why {B} {H} at.Parting ring is = refl
filled_why {B} {H} (at.Over w) ring is = absurd is

one_more : (calls : ℕ) → 0 < calls → calls ≡ calls - 1 + 1
one_more calls some = omega (arith, some)

-- what stands behind what a hijacker was told
pub told_to : {B H : Type 0} (V : Voice H) (h : H) (a : At B H) (piece ring left : List ℕ) → Tells V h piece a ring left → ToldTo (state_at a) (why_at a)
told_to {B} {H} V h at.Reading piece ring left t = absurd t
told_to {B} {H} V h at.Asked piece ring left t = absurd t
told_to {B} {H} V h (at.Refused fault) piece ring left t = absurd t
told_to {B} {H} V h (at.Answering framer) piece ring left t = absurd t
told_to {B} {H} V h (at.Writing keeps) piece ring left t = absurd t
told_to {B} {H} V h (at.Handing now) piece ring left t = absurd t
told_to {B} {H} V h at.Refusing piece ring left t = absurd t
told_to {B} {H} V h (at.Listening now) piece ring left t = refl
told_to {B} {H} V h (at.Speaking now) piece ring left t = refl
told_to {B} {H} V h at.Parting piece ring left t = refl
told_to {B} {H} V h (at.Over why.Closed) piece ring left t = absurd t
told_to {B} {H} V h (at.Over why.PeerEnd) piece ring left t = absurd t
told_to {B} {H} V h (at.Over (why.Idle by)) piece ring left t = absurd t
told_to {B} {H} V h (at.Over (why.TimedOut since moment)) piece ring left t = absurd t
told_to {B} {H} V h (at.Over (why.Stalled since moment)) piece ring left t = absurd t
told_to {B} {H} V h (at.Over (why.Unread level)) piece ring left t = absurd t
told_to {B} {H} V h (at.Over why.ReadFailed) piece ring left t = absurd t
told_to {B} {H} V h (at.Over why.WriteFailed) piece ring left t = absurd t
told_to {B} {H} V h (at.Over (why.Halted level)) piece ring left t = absurd t
told_to {B} {H} V h (at.Over why.NoMemory) piece ring left t = inr refl
told_to {B} {H} V h (at.Over why.Hijacked) piece ring left t = inl refl

pub told_count : {B H : Type 0} (V : Voice H) (h : H) (a : At B H) (piece ring left : List ℕ) (calls : ℕ) → Tells V h piece a ring left
    → replied_at a calls ≡ calls
told_count {B} {H} V h at.Reading piece ring left calls t = absurd t
told_count {B} {H} V h at.Asked piece ring left calls t = absurd t
told_count {B} {H} V h (at.Refused fault) piece ring left calls t = absurd t
told_count {B} {H} V h (at.Answering framer) piece ring left calls t = absurd t
told_count {B} {H} V h (at.Writing keeps) piece ring left calls t = absurd t
told_count {B} {H} V h (at.Handing now) piece ring left calls t = absurd t
told_count {B} {H} V h at.Refusing piece ring left calls t = absurd t
told_count {B} {H} V h (at.Listening now) piece ring left calls t = refl
told_count {B} {H} V h (at.Speaking now) piece ring left calls t = refl
told_count {B} {H} V h at.Parting piece ring left calls t = refl
told_count {B} {H} V h (at.Over why.Closed) piece ring left calls t = absurd t
told_count {B} {H} V h (at.Over why.PeerEnd) piece ring left calls t = absurd t
told_count {B} {H} V h (at.Over (why.Idle by)) piece ring left calls t = absurd t
told_count {B} {H} V h (at.Over (why.TimedOut since moment)) piece ring left calls t = absurd t
told_count {B} {H} V h (at.Over (why.Stalled since moment)) piece ring left calls t = absurd t
told_count {B} {H} V h (at.Over (why.Unread level)) piece ring left calls t = absurd t
told_count {B} {H} V h (at.Over why.ReadFailed) piece ring left calls t = absurd t
told_count {B} {H} V h (at.Over why.WriteFailed) piece ring left calls t = absurd t
told_count {B} {H} V h (at.Over (why.Halted level)) piece ring left calls t = absurd t
told_count {B} {H} V h (at.Over why.NoMemory) piece ring left calls t = refl
told_count {B} {H} V h (at.Over why.Hijacked) piece ring left calls t = refl

-- all that is owed is in the ring, where it isn't more than that holds
pub filled_sure : {B H : Type 0} (a : At B H) (ring : List ℕ) → IsFilledAt a ring → (sure_at a ≡ true) ⊎ (length (owed_at a ring) ≤ ring_room) → sure_at a ≡ true
filled_sure {B} {H} at.Reading ring is e = refl
filled_sure {B} {H} at.Asked ring is e = refl
filled_sure {B} {H} (at.Refused f) ring is e = refl
filled_sure {B} {H} (at.Answering f) ring is e =
    elim e [
      | inl sure ↦ sure
      | inr few ↦ absurd (omega (arith, is.0, is.1, few, length-append ring f.rest.bytes))
    ]
filled_sure {B} {H} (at.Writing keeps) ring is e = refl
filled_sure {B} {H} (at.Handing h) ring is e = refl
filled_sure {B} {H} at.Refusing ring is e = refl
filled_sure {B} {H} (at.Listening h) ring is e = refl
filled_sure {B} {H} (at.Speaking h) ring is e = refl
filled_sure {B} {H} at.Parting ring is e = refl
filled_sure {B} {H} (at.Over w) ring is e = refl

module _ {B H : Type 0} (peer : List ℕ) (local : Local) (lives : List Life) (calls taken : ℕ) (m : Ending) (t u : Moments) where
  -- the link took some of the ring, and not all
  pub took_some : (a : At B H) (before after unfed : List ℕ) (n : ℕ) → IsFilledAt a before → after ≡ drop n before → n ≤ length before
      → 0 < length after
      → BehindWrite (write.Took n) (shown_at a before unfed peer local lives calls taken m t) (shown_at a after unfed peer local lives calls taken m u)
  took_some a before after unfed n is off few some =
      let left = owed_left a before after n is off few in
      inl (record {
        some = λ none. some_not (owed_at a after) (filled_owes a before after is some) (left ∙ none);
        owed = left;
        state = refl;
        why = filled_why a before is;
        replied = refl;
        unfed = refl;
        after = refl;
        sure = filled_sure a before is;
      })

  -- it had to wait
  pub took_none : (a : At B H) (before after unfed : List ℕ) → IsFilledAt a before → after ≡ before
      → BehindWrite write.NotYet (shown_at a before unfed peer local lives calls taken m t) (shown_at a after unfed peer local lives calls taken m u)
  took_none a before after unfed is off = record {
    some = some_not (owed_at a before) (filled_owes a before before is (filled_ring a before is));
    owed = ap (λ (z : List ℕ). owed_at a z) off;
    state = refl;
    why = filled_why a before is;
    replied = refl;
    unfed = refl;
    after = refl;
    sure = filled_sure a before is;
  }

  -- the unfed bytes were fed behind a reply
  kept_fed : (b : At B H) (before ring unfed left : List ℕ) (fresh new : Intake) → Fed fresh [] → FeedsHeld fresh unfed new left b → ring ≡ []
      → 0 < calls
      → KeptTo (state_at b) (why_at b) (shown_at {B = B} {H = H} (at.Writing true) before unfed peer local lives calls taken m t)
      (shown_at b ring left peer local lives calls taken m u)
  kept_fed at.Reading before ring unfed left fresh new empty f none some = (refl, one_more calls some, none)
  kept_fed at.Asked before ring unfed left fresh new empty f none some = (refl, one_more calls some, none)
  kept_fed (at.Refused fault) before ring unfed left fresh new empty f none some = (refl, one_more calls some, none)
  kept_fed (at.Answering framer) before ring unfed left fresh new empty f none some = absurd f
  kept_fed (at.Writing keeps) before ring unfed left fresh new empty f none some = absurd f
  kept_fed (at.Handing now) before ring unfed left fresh new empty f none some = absurd f
  kept_fed at.Refusing before ring unfed left fresh new empty f none some = absurd f
  kept_fed (at.Listening now) before ring unfed left fresh new empty f none some = absurd f
  kept_fed (at.Speaking now) before ring unfed left fresh new empty f none some = absurd f
  kept_fed at.Parting before ring unfed left fresh new empty f none some = absurd f
  kept_fed (at.Over why.Closed) before ring unfed left fresh new empty f none some = absurd f
  kept_fed (at.Over why.PeerEnd) before ring unfed left fresh new empty f none some = absurd f
  kept_fed (at.Over (why.Idle by)) before ring unfed left fresh new empty f none some = absurd f
  kept_fed (at.Over (why.TimedOut since moment)) before ring unfed left fresh new empty f none some = absurd f
  kept_fed (at.Over (why.Stalled since moment)) before ring unfed left fresh new empty f none some = absurd f
  kept_fed (at.Over (why.Unread level)) before ring unfed left fresh new empty f none some = absurd f
  kept_fed (at.Over why.ReadFailed) before ring unfed left fresh new empty f none some = absurd f
  kept_fed (at.Over why.WriteFailed) before ring unfed left fresh new empty f none some = absurd f
  kept_fed (at.Over (why.Halted level)) before ring unfed left fresh new empty f none some = absurd f
  kept_fed (at.Over why.NoMemory) before ring unfed left fresh new empty f none some = (refl, f.rightly [] empty)
  kept_fed (at.Over why.Hijacked) before ring unfed left fresh new empty f none some = absurd f

  -- the link took all of it
  pub took_all : (V : Voice H) (a b : At B H) (before ring unfed left : List ℕ) (n : ℕ) (old new : Intake)
      → CompletesTo m.late V a old unfed b new left ring → IsFilledAt a before → RestsAt a old unfed before calls m → [] ≡ drop n before → n ≤ length before
      → BehindWrite (write.Took n) (shown_at a before unfed peer local lives calls taken m t) (shown_at b ring left peer local lives calls taken m u)
  took_all V at.Reading b before ring unfed left n old new e is rests off few = absurd is
  took_all V at.Asked b before ring unfed left n old new e is rests off few = absurd is
  took_all V (at.Refused f) b before ring unfed left n old new e is rests off few = absurd is
  took_all V (at.Answering f) b before ring unfed left n old new e is rests off few =
      let rest = owed_left {B = B} {H = H} (at.Answering f) before [] n is off few in
      inl (record {
        some = λ none. some_not f.rest.bytes is.1 (rest ∙ none);
        owed = ap (λ (d : At B H). owed_at d ring) e.0 ∙ ap (λ (z : List ℕ). z ++ f.rest.bytes) e.2 ∙ rest;
        state = ap (λ (d : At B H). state_at d) e.0;
        why = ap (λ (d : At B H). why_at d) e.0;
        replied = ap (λ (d : At B H). replied_at d calls) e.0;
        unfed = e.1.1;
        after = ap (λ (d : At B H). after_at d) e.0;
        sure = λ sure. ap (λ (d : At B H). sure_at d) e.0 ∙ filled_sure {B = B} {H = H} (at.Answering f) before is sure;
      })
  took_all V (at.Writing true) b before ring unfed left n old new e is rests off few =
      inr (sym off, kept_fed b before ring unfed left e.0 new e.1 e.2 e.3 rests.1.1.0)
  took_all V (at.Writing false) b before ring unfed left n old new e is rests off few =
      inr (
        sym off,
        (
          ap (λ (d : At B H). state_at d) e.0,
          ap (λ (d : At B H). why_at d) e.0 ∙ ap (λ (o : Option Late). Some (ended_by o)) (sym (absent m.late rests.1)),
        ),
      )
  took_all V (at.Handing h) b before ring unfed left n old new e is rests off few =
      inr (sym off, (told_to V h b unfed ring left e, λ taken. told_count V h b unfed ring left calls e ∙ one_more calls rests.1))
  took_all V at.Refusing b before ring unfed left n old new e is rests off few =
      inr (sym off, (ap (λ (d : At B H). state_at d) e.0, ap (λ (d : At B H). why_at d) e.0))
  took_all V (at.Listening h) b before ring unfed left n old new e is rests off few = absurd is
  took_all V (at.Speaking h) b before ring unfed left n old new e is rests off few =
      inr (
        sym off,
        (
          ap (λ (d : At B H). state_at d) e.0,
          ap (λ (d : At B H). why_at d) e.0,
          ap (λ (d : At B H). replied_at d calls) e.0,
          ap (λ (d : At B H). owed_at d ring) e.0 ∙ e.2,
        ),
      )
  took_all V at.Parting b before ring unfed left n old new e is rests off few =
      inr (sym off, (ap (λ (d : At B H). state_at d) e.0, ap (λ (d : At B H). why_at d) e.0))
  took_all V (at.Over w) b before ring unfed left n old new e is rests off few = absurd is

-- nothing is in the ring where a refusal stands
pub refused_ring : {B H : Type 0} (a : At B H) (fault : Fault) (intake : Intake) (unfed ring : List ℕ) (calls : ℕ) (m : Ending) → a ≡ at.Refused fault
    → RestsAt a intake unfed ring calls m → ring ≡ []
refused_ring {B} {H} a fault intake unfed ring calls m e h = (subst (λ (b : At B H). RestsAt b intake unfed ring calls m) e h).0

-- none stands where a request does
pub unrefused : {B H : Type 0} (a : At B H) → state_at a ≡ state.Ready → ((fault : Fault) → a ≡ at.Refused fault → ⊥) → fault_at a ≡ None
unrefused {B} {H} at.Reading e not = cc
unrefused {B} {H} at.Asked e not = refl
unrefused {B} {H} (at.Refused f) e not = absurd (not f refl)
unrefused {B} {H} (at.Answering f) e not = cc
unrefused {B} {H} (at.Writing keeps) e not = cc
unrefused {B} {H} (at.Handing h) e not = cc
unrefused {B} {H} at.Refusing e not = cc
unrefused {B} {H} (at.Listening h) e not = cc
unrefused {B} {H} (at.Speaking h) e not = cc
unrefused {B} {H} at.Parting e not = cc
unrefused {B} {H} (at.Over w) e not = cc

-- the same unfed bytes show the same
pub held_same : (o : Shown) (unfed : List ℕ) → unfed ≡ o.unfed → record o { unfed = unfed } ≡ o
held_same o unfed e = ap (λ (x : List ℕ). record o { unfed = x }) e

-- no byte is unfed where requests are read
pub reading_held : {B H : Type 0} {g : Ghosts B} (p : Inside B H g) → p.at ≡ at.Reading → p.unfed ≡ []
reading_held {B} {H} {g} p e = (subst (λ (a : At B H). RestsAt a p.intake p.unfed p.ring.items p.calls p.ending) e p.rests).0
