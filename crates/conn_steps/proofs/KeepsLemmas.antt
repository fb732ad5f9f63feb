-- What the moves of a connection do to its ring and to the moments that it keeps.
use Rattle.std.proofs.Common.{◌≡◌, ◌≢◌, ℕ, ◌<◌, ◌≤◌, Bool, true, false, List, [], ◌∷◌, length, take, drop, refl, sym, ap, subst, ◌∙◌, arith, Option, None, Some, ◌⊎◌, inl, inr}
use Rattle.std.specs.Prelude.{not, ◌&&◌, ◌||◌, ◌==◌}
use Rattle.std.proofs.lemmas.Bool.Decides.{nat_tests}
use Rattle.rack_outside.specs.declared.link.LinkRead.{LinkRead}
use Rattle.rack_outside.specs.declared.link.LinkRead.TheVariants as read
use Rattle.rack_outside.specs.declared.link.LinkWrite.{LinkWrite}
use Rattle.rack_outside.specs.declared.link.LinkWrite.TheVariants as write
use Rattle.rack_types.specs.declared.answer.Answer.{Answer}
use Rattle.rack_types.specs.declared.fault.Fault.{Fault}
use Rattle.rack_types.specs.declared.peer.Local.{Local}
use Rattle.rack_types.specs.Body.{Content}
use Rattle.rack_types.specs.Env.{Pairs}
use Rattle.message_framing.specs.declared.intake.Intake.{Intake}
use Rattle.reply_framing.specs.declared.types.Ask.{Ask}
use Rattle.talk_core.specs.declared.ended.Life.{Life}
use Rattle.talk_core.specs.declared.ended.Why.{Why}
use Rattle.talk_core.specs.declared.ended.Why.TheVariants as why
use Rattle.talk_core.specs.Tail.{Voice}
use Rattle.conn_steps.specs.declared.moments.Ending.{Ending}
use Rattle.conn_steps.specs.declared.moments.Moments.{Moments}
use Rattle.conn_steps.specs.declared.at.At.{At}
use Rattle.conn_steps.specs.declared.at.At.TheVariants as at
use Rattle.conn_steps.specs.declared.state.State.{State}
use Rattle.conn_steps.specs.declared.state.State.TheVariants as state
use Rattle.conn_steps.specs.Inner.{IsFilledAt, Fills}
use Rattle.conn_steps.specs.Keeps.{Keeps, Run, Refusal, Want, Read, Write, ring_room, no_bytes, filled_if, filled_then, took_by, says_behind, still_in, ring_by, BegunBy, BegunFrom, ending_run}
use Rattle.conn_steps.specs.Moments.{ended_by}
use Rattle.conn_steps.specs.At.{IsHearing, state_at}
use Rattle.conn_steps.specs.Shown.{Shown, owed_at, ring_at}
use Rattle.conn_steps.specs.Steps.{FeedsHeld, BeginsAs, BeginsAt, HandsOn, EndsOn, CompletesTo}
use Rattle.conn_steps.proofs.FillShows.{shown_at}
use Rattle.conn_steps.proofs.MovesOfSteps.{owed_left, fills_front, some_not}
use Rattle.conn_steps.proofs.WriteShows.{filled_ring, filled_owes}
use Rattle.conn_steps.proofs.RingLemmas.{ring_at_live, ring_at_filled, ring_whole, fed_unanswering, told_unanswering, placed, IsTold, heard_state, end_state, told_state, run_ring}
use Rattle.conn_steps.proofs.BegunMoment.{begun_from, begun_behind, begun_still}

-- the moment at which bytes came into an empty ring, by whether it is empty
pub filled_is : (now before after : ℕ) (ring : List ℕ) (empty : Bool) → empty ≡ (length ring == 0) → after ≡ filled_if (not empty) now before
    → after ≡ filled_if (not (no_bytes ring)) now before
filled_is now before after ring empty none is = is ∙ ap (λ (b : Bool). filled_if (not b) now before) none

-- no bytes
pub none_none : (xs : List ℕ) → xs ≡ [] → no_bytes xs ≡ true
none_none xs e = ap no_bytes e

pub none_some : (xs : List ℕ) → 0 < length xs → no_bytes xs ≡ false
none_some xs some = grind (arith, nat_tests, some)

some_none : (xs : List ℕ) → xs ≢ [] → no_bytes xs ≡ false
some_none [] some = absurd (some refl)
some_none (x ∷ xs) some = none_some (x ∷ xs) (omega arith)

-- the moment is as before, or this one
pub filled_either : (b : Bool) (now k : ℕ) → (filled_if b now k ≡ k) ⊎ (filled_if b now k ≡ now)
filled_either true now k = inr refl
filled_either false now k = inl refl

either_then : {n k now j : ℕ} → (k ≡ j) ⊎ (k ≡ now) → n ≡ k → (n ≡ j) ⊎ (n ≡ now)
either_then {n} {k} {now} {j} h e = elim h [ inl x ↦ inl (e ∙ x) | inr x ↦ inr (e ∙ x) ]

-- bytes did not come into an empty ring
not_filled : (x y : Bool) (now k : ℕ) → x ≡ false → y ≡ false → filled_if (x || y) now k ≡ k
not_filled false false now k e f = refl
not_filled false true now k e f = cc
not_filled true y now k e f = cc

and_not : (x y : Bool) → y ≡ true → (x && not y) ≡ false
and_not true y e = ap not e
and_not false y e = refl

and_false : (x y : Bool) → x ≡ false → (x && y) ≡ false
and_false true y e = cc
and_false false y e = refl

filled_same : (x y z w : Bool) (now k : ℕ) → x ≡ false → y ≡ true → w ≡ z → filled_if (not z) now k ≡ filled_if (x || (y && not w)) now k
filled_same true y z w now k e f g = cc
filled_same false false z w now k e f g = cc
filled_same false true z w now k e f g = ap (λ (b : Bool). filled_if (not b) now k) (sym g)

owes : {B H : Type 0} (a : At B H) (before ring : List ℕ) → IsFilledAt a before → 0 < length ring → owed_at a ring ≢ []
owes {B} {H} a before ring is some none = let more : 0 < length (owed_at a ring) = filled_owes a before ring is some in some_not (owed_at a ring) more none

left_ring : {B H : Type 0} (a : At B H) (before after : List ℕ) (answer : LinkWrite) → IsFilledAt a before → before ≡ take ring_room (owed_at a before)
    → after ≡ still_in answer before → (old new : Shown) → old.owed ≡ owed_at a before → new.owed ≡ owed_at a after
    → ring_at a after ≡ ring_by (state_at a) (Write answer) old new
left_ring {B} {H} at.Reading before after answer is front left old new o n = absurd is
left_ring {B} {H} at.Asked before after answer is front left old new o n = absurd is
left_ring {B} {H} (at.Refused f) before after answer is front left old new o n = absurd is
left_ring {B} {H} (at.Answering f) before after answer is front left old new o n = left ∙ ap (still_in answer) (front ∙ ap (take ring_room) (sym o))
left_ring {B} {H} (at.Writing keeps) before after answer is front left old new o n = left ∙ ap (still_in answer) (front ∙ ap (take ring_room) (sym o))
left_ring {B} {H} (at.Handing h) before after answer is front left old new o n = left ∙ ap (still_in answer) (front ∙ ap (take ring_room) (sym o))
left_ring {B} {H} at.Refusing before after answer is front left old new o n = left ∙ ap (still_in answer) (front ∙ ap (take ring_room) (sym o))
left_ring {B} {H} (at.Listening h) before after answer is front left old new o n = absurd is
left_ring {B} {H} (at.Speaking h) before after answer is front left old new o n = sym n
left_ring {B} {H} at.Parting before after answer is front left old new o n = sym n
left_ring {B} {H} (at.Over w) before after answer is front left old new o n = absurd is

begun_told : {B H : Type 0} (b : At B H) (now : ℕ) (before : Option ℕ) → IsTold (state_at b) → BegunFrom (state_at b) now before before
begun_told {B} {H} at.Reading now before t = absurd t
begun_told {B} {H} at.Asked now before t = absurd t
begun_told {B} {H} (at.Refused f) now before t = absurd t
begun_told {B} {H} (at.Answering f) now before t = absurd t
begun_told {B} {H} (at.Writing keeps) now before t = absurd t
begun_told {B} {H} (at.Handing h) now before t = absurd t
begun_told {B} {H} at.Refusing now before t = absurd t
begun_told {B} {H} (at.Listening h) now before t = refl
begun_told {B} {H} (at.Speaking h) now before t = refl
begun_told {B} {H} at.Parting now before t = refl
begun_told {B} {H} (at.Over w) now before t = refl

module _ {B H : Type 0} (now : ℕ) (peer : List ℕ) (local : Local) (lives : List Life) (calls taken : ℕ) (m : Ending) (t : Moments) where
  -- the link took some of the ring, and not all
  pub some_keeps : (a : At B H) (before after unfed : List ℕ) (n : ℕ) → IsFilledAt a before → length before ≤ ring_room → after ≡ drop n before
      → n ≤ length before → 0 < length after
      → Keeps now (Write (write.Took n)) (shown_at a before unfed peer local lives calls taken m t)
      (shown_at a after unfed peer local lives calls taken m (record t { took = Some now }))
  some_keeps a before after unfed n is few off within some = record {
    ending = refl;
    filled_or = inl refl;
    last = refl;
    opened = refl;
    took = refl;
    filled = λ live. sym (not_filled (no_bytes (ring_at a before)) (no_bytes (drop n (owed_at a before)) && not (no_bytes (ring_at a after))) now t.filled
        (ap no_bytes (ring_at_filled a before is) ∙ none_some before (filled_ring a before is))
        (and_false (no_bytes (drop n (owed_at a before))) (not (no_bytes (ring_at a after)))
        (ap no_bytes (sym (owed_left a before after n is off within)) ∙ some_none (owed_at a after) (owes a before after is some))));
    begun = begun_still a before now (write.Took n) t.begun is;
    ring = left_ring a before after (write.Took n) is (fills_front a before is few) off (shown_at a before unfed peer local lives calls taken m t)
        (shown_at a after unfed peer local lives calls taken m (record t { took = Some now })) refl refl;
  }

  -- it had to wait
  pub none_keeps : (a : At B H) (before after unfed : List ℕ) → IsFilledAt a before → length before ≤ ring_room → after ≡ before
      → Keeps now (Write write.NotYet) (shown_at a before unfed peer local lives calls taken m t) (shown_at a after unfed peer local lives calls taken m t)
  none_keeps a before after unfed is few same = record {
    ending = refl;
    filled_or = inl refl;
    last = refl;
    opened = refl;
    took = refl;
    filled = λ live. sym (not_filled (no_bytes (ring_at a before)) false now t.filled
        (ap no_bytes (ring_at_filled a before is) ∙ none_some before (filled_ring a before is)) refl);
    begun = begun_still a before now write.NotYet t.begun is;
    ring = left_ring a before after write.NotYet is (fills_front a before is few) same (shown_at a before unfed peer local lives calls taken m t)
        (shown_at a after unfed peer local lives calls taken m t) refl refl;
  }

  -- the connection ended in a move that the link did not take
  pub failed_keeps : (a : At B H) (w : Why) (before after unfed left : List ℕ)
      → Keeps now (Write write.Failed) (shown_at a before unfed peer local lives calls taken m t)
      (shown_at {B = B} {H = H} (at.Over w) after left peer local lives calls taken m t)
  failed_keeps a w before after unfed left = record {
    ending = refl;
    filled_or = inl refl;
    last = refl;
    opened = refl;
    took = refl;
    filled = λ live. absurd (live refl);
    begun = inl refl;
    ring = refl;
  }

  pub lacked_keeps : (a : At B H) (w : Why) (before after unfed left : List ℕ)
      → Keeps now (Write write.NoMemory) (shown_at a before unfed peer local lives calls taken m t)
      (shown_at {B = B} {H = H} (at.Over w) after left peer local lives calls taken m t)
  lacked_keeps a w before after unfed left = record {
    ending = refl;
    filled_or = inl refl;
    last = refl;
    opened = refl;
    took = refl;
    filled = λ live. absurd (live refl);
    begun = inl refl;
    ring = refl;
  }

  -- it took all of the ring, and nothing more is owed of it
  all_keeps : (a b : At B H) (before ring unfed left : List ℕ) (n : ℕ) (new : Intake) (g : Option ℕ) → IsFilledAt a before → drop n (owed_at a before) ≡ []
      → state_at b ≢ state.Answering → BeginsAs b new now None g
      → Keeps now (Write (write.Took n)) (shown_at a before unfed peer local lives calls taken m t)
      (shown_at b ring left peer local lives calls taken m (filled_then now ring (record t { took = Some now; begun = g })))
  all_keeps a b before ring unfed left n new g is none unsaid begins = record {
    ending = refl;
    filled_or = filled_either (not (no_bytes ring)) now t.filled;
    last = refl;
    opened = refl;
    took = refl;
    filled = λ live. filled_same (no_bytes (ring_at a before)) (no_bytes (drop n (owed_at a before))) (no_bytes ring) (no_bytes (ring_at b ring)) now t.filled
        (ap no_bytes (ring_at_filled a before is) ∙ none_some before (filled_ring a before is)) (none_none (drop n (owed_at a before)) none)
        (ap no_bytes (ring_at_live b ring live));
    begun = begun_behind b new now (write.Took n) t.begun g begins;
    ring = ring_whole b ring (Write (write.Took n)) (shown_at a before unfed peer local lives calls taken m t)
        (shown_at b ring left peer local lives calls taken m (filled_then now ring (record t { took = Some now; begun = g }))) unsaid refl;
  }

  -- more of the reply comes
  more_keeps : (a b : At B H) (before ring unfed left : List ℕ) (n : ℕ) (g : Option ℕ) → IsFilledAt a before → length before ≤ ring_room → [] ≡ drop n before
      → drop n (owed_at a before) ≢ [] → state_at a ≡ state.Answering → b ≡ a → ring ≡ [] → g ≡ None
      → Keeps now (Write (write.Took n)) (shown_at a before unfed peer local lives calls taken m t)
      (shown_at b ring left peer local lives calls taken m (filled_then now ring (record t { took = Some now; begun = g })))
  more_keeps a b before ring unfed left n g is few off some saying same none unbegun = record {
    ending = refl;
    filled_or = filled_either (not (no_bytes ring)) now t.filled;
    last = refl;
    opened = refl;
    took = refl;
    filled = λ live. ap (λ (x : List ℕ). filled_if (not (no_bytes x)) now t.filled) none
        ∙ sym (not_filled (no_bytes (ring_at a before)) (no_bytes (drop n (owed_at a before)) && not (no_bytes (ring_at b ring))) now t.filled
        (ap no_bytes (ring_at_filled a before is) ∙ none_some before (filled_ring a before is))
        (and_false (no_bytes (drop n (owed_at a before))) (not (no_bytes (ring_at b ring))) (some_none (drop n (owed_at a before)) some)));
    begun = subst (λ (x : State). BegunBy now (Write (write.Took n)) x t.begun g) (sym (ap (λ (d : At B H). state_at d) same ∙ saying)) (inr unbegun);
    ring = shown_ring b ring same ∙ none ∙ off ∙ ap (drop n) (fills_front a before is few)
        ∙ ap (λ (x : State). ring_by x (Write (write.Took n)) (shown_at a before unfed peer local lives calls taken m t)
        (shown_at b ring left peer local lives calls taken m (filled_then now ring (record t { took = Some now; begun = g }))))
        (sym (ap (λ (d : At B H). state_at d) same ∙ saying));
  }
    where
      live_of : (d : At B H) → state_at d ≡ state.Answering → state_at d ≢ state.Over
      live_of d e over = let x : state.Answering ≡ state.Over = sym e ∙ over in cc

      shown_ring : (d : At B H) (xs : List ℕ) → d ≡ a → ring_at d xs ≡ xs
      shown_ring d xs e = ring_at_live d xs (live_of d (ap (λ (x : At B H). state_at x) e ∙ saying))

  pub took_keeps : (V : Voice H) (a b : At B H) (before ring unfed left : List ℕ) (n : ℕ) (old new : Intake) (g : Option ℕ)
      → CompletesTo m.late V a old unfed b new left ring → BeginsAs b new now None g → IsFilledAt a before → length before ≤ ring_room → [] ≡ drop n before
      → n ≤ length before
      → Keeps now (Write (write.Took n)) (shown_at a before unfed peer local lives calls taken m t)
      (shown_at b ring left peer local lives calls taken m (filled_then now ring (record t { took = Some now; begun = g })))
  took_keeps V at.Reading b before ring unfed left n old new g e begins is few off within = absurd is
  took_keeps V at.Asked b before ring unfed left n old new g e begins is few off within = absurd is
  took_keeps V (at.Refused f) b before ring unfed left n old new g e begins is few off within = absurd is
  took_keeps V (at.Answering f) b before ring unfed left n old new g e begins is few off within =
      more_keeps (at.Answering f) b before ring unfed left n g is few off
      (λ none. some_not f.rest.bytes is.1 (owed_left {B = B} {H = H} (at.Answering f) before [] n is off within ∙ none))
      refl e.0 e.2 (subst (λ (d : At B H). BeginsAs d new now None g) e.0 begins)
  took_keeps V (at.Writing true) b before ring unfed left n old new g e begins is few off within =
      all_keeps (at.Writing true) b before ring unfed left n new g is (sym off) (fed_unanswering b e.0 new unfed left e.2) begins
  took_keeps V (at.Writing false) b before ring unfed left n old new g e begins is few off within =
      all_keeps (at.Writing false) b before ring unfed left n new g is (sym off) (placed b (at.Over why.Closed) e.0 (λ x. cc)) begins
  took_keeps V (at.Handing h) b before ring unfed left n old new g e begins is few off within =
      all_keeps (at.Handing h) b before ring unfed left n new g is (sym off) (told_unanswering V h unfed ring left b e) begins
  took_keeps V at.Refusing b before ring unfed left n old new g e begins is few off within =
      all_keeps at.Refusing b before ring unfed left n new g is (sym off) (placed b (at.Over (ended_by m.late)) e.0 (λ x. cc)) begins
  took_keeps V (at.Listening h) b before ring unfed left n old new g e begins is few off within = absurd is
  took_keeps V (at.Speaking h) b before ring unfed left n old new g e begins is few off within =
      all_keeps (at.Speaking h) b before ring unfed left n new g is (sym off) (placed b (at.Listening h) e.0 (λ x. cc)) begins
  took_keeps V at.Parting b before ring unfed left n old new g e begins is few off within =
      all_keeps at.Parting b before ring unfed left n new g is (sym off) (placed b (at.Over why.Hijacked) e.0 (λ x. cc)) begins
  took_keeps V (at.Over w) b before ring unfed left n old new g e begins is few off within = absurd is

  -- a request was run
  pub run_keeps : (V : Voice H) (a x b : At B H) (ask : Ask) (ps : Pairs) (answer : Answer Content H) (end : Bool) (unfed before ring left : List ℕ) (count : ℕ)
      → BeginsAt ask ps answer end x → HandsOn V x unfed before b ring left → before ≡ []
      → Keeps now Run (shown_at a before unfed peer local lives calls taken m t)
      (shown_at b ring left peer local lives count taken (ending_run m unfed calls) (filled_then now ring t))
  run_keeps V a x b ask ps answer end unfed before ring left count begins hands none = record {
    ending = refl;
    filled_or = filled_either (not (no_bytes ring)) now t.filled;
    last = refl;
    opened = refl;
    took = refl;
    filled = λ live. ap (λ (xs : List ℕ). filled_if (not (no_bytes xs)) now t.filled) (sym (ring_at_live b ring live));
    begun = refl;
    ring = run_ring V x b ask ps answer end unfed before ring left begins hands none
        (shown_at a before unfed peer local lives calls taken m t)
        (shown_at b ring left peer local lives count taken (ending_run m unfed calls) (filled_then now ring t)) refl;
  }

  -- memory was refused before it
  pub want_keeps : (a : At B H) (w : Why) (before ring unfed left : List ℕ)
      → Keeps now Want (shown_at a before unfed peer local lives calls taken m t)
      (shown_at {B = B} {H = H} (at.Over w) ring left peer local lives calls taken m t)
  want_keeps a w before ring unfed left = record {
    ending = refl;
    filled_or = inl refl;
    last = refl;
    opened = refl;
    took = refl;
    filled = λ live. absurd (live refl);
    begun = refl;
    ring = refl;
  }

  -- a refusal was named
  pub refusal_keeps : (a : At B H) (fault : Fault) (before ring unfed : List ℕ)
      → Keeps now (Refusal fault) (shown_at a before unfed peer local lives calls taken m t)
      (shown_at {B = B} {H = H} at.Refusing ring unfed peer local lives calls taken m (record t { filled = now }))
  refusal_keeps a fault before ring unfed =
      record { ending = refl; filled_or = inr refl; last = refl; opened = refl; took = refl; filled = λ live. refl; begun = refl; ring = refl }

  -- bytes came, and were fed
  pub fed_keeps : (a b : At B H) (ring unfed left piece : List ℕ) (n count : ℕ) (old new : Intake) (g : Option ℕ) → FeedsHeld old piece new left b
      → BeginsAs b new now t.begun g → ring ≡ []
      → Keeps now (Read (read.Bytes n)) (shown_at a ring unfed peer local lives calls taken m t)
      (shown_at b ring left peer local lives calls count m (record t { begun = g }))
  fed_keeps a b ring unfed left piece n count old new g f begins none = record {
    ending = refl;
    filled_or = inl refl;
    last = refl;
    opened = refl;
    took = refl;
    filled = λ live. ap (λ (xs : List ℕ). filled_if (not (no_bytes xs)) now t.filled) (sym (ring_at_live b ring live ∙ none));
    begun = begun_from b new now t.begun g begins;
    ring = ring_whole b ring (Read (read.Bytes n)) (shown_at a ring unfed peer local lives calls taken m t)
        (shown_at b ring left peer local lives calls count m (record t { begun = g })) (fed_unanswering b old new piece left f) refl;
  }

  -- bytes came, and a hijacker was told them
  pub heard_keeps : (V : Voice H) (a b : At B H) (before ring unfed left piece : List ℕ) (n count : ℕ) → IsHearing a → HandsOn V a piece before b ring left
      → Keeps now (Read (read.Bytes n)) (shown_at a before unfed peer local lives calls taken m t)
      (shown_at b ring left peer local lives calls count m (filled_then now ring t))
  heard_keeps V a b before ring unfed left piece n count is hands = record {
    ending = refl;
    filled_or = filled_either (not (no_bytes ring)) now t.filled;
    last = refl;
    opened = refl;
    took = refl;
    filled = λ live. ap (λ (xs : List ℕ). filled_if (not (no_bytes xs)) now t.filled) (sym (ring_at_live b ring live));
    begun = begun_told b now t.begun (heard_state V a b piece before ring left is hands);
    ring = ring_whole b ring (Read (read.Bytes n)) (shown_at a before unfed peer local lives calls taken m t)
        (shown_at b ring left peer local lives calls count m (filled_then now ring t)) (told_state b (heard_state V a b piece before ring left is hands)) refl;
  }

  -- the peer's end was told to it
  pub ended_keeps : (V : Voice H) (a b : At B H) (before ring unfed left : List ℕ) → IsHearing a → EndsOn V a b ring
      → Keeps now (Read read.End) (shown_at a before unfed peer local lives calls taken m t)
      (shown_at b ring left peer local lives calls taken m (filled_then now ring t))
  ended_keeps V a b before ring unfed left is ends = record {
    ending = refl;
    filled_or = filled_either (not (no_bytes ring)) now t.filled;
    last = refl;
    opened = refl;
    took = refl;
    filled = λ live. ap (λ (xs : List ℕ). filled_if (not (no_bytes xs)) now t.filled) (sym (ring_at_live b ring live));
    begun = refl;
    ring = ring_whole b ring (Read read.End) (shown_at a before unfed peer local lives calls taken m t)
        (shown_at b ring left peer local lives calls taken m (filled_then now ring t)) (told_state b (end_state V a b ring is ends)) refl;
  }

  -- nothing came
  pub nothing_keeps : (a : At B H) (ring unfed left : List ℕ) → ring ≡ [] → state_at a ≢ state.Answering
      → Keeps now (Read read.NotYet) (shown_at a ring unfed peer local lives calls taken m t) (shown_at a ring left peer local lives calls taken m t)
  nothing_keeps a ring unfed left none unsaid = record {
    ending = refl;
    filled_or = inl refl;
    last = refl;
    opened = refl;
    took = refl;
    filled = λ live. ap (λ (xs : List ℕ). filled_if (not (no_bytes xs)) now t.filled) (sym (ring_at_live a ring live ∙ none));
    begun = refl;
    ring = ring_whole a ring (Read read.NotYet) (shown_at a ring unfed peer local lives calls taken m t)
        (shown_at a ring left peer local lives calls taken m t) unsaid refl;
  }

  -- the connection ended by a read
  pub end_keeps : (a : At B H) (w : Why) (answer : LinkRead) (before ring unfed left : List ℕ) → (answer ≡ read.End) ⊎ (answer ≡ read.Failed)
      → Keeps now (Read answer) (shown_at a before unfed peer local lives calls taken m t)
      (shown_at {B = B} {H = H} (at.Over w) ring left peer local lives calls taken m t)
  end_keeps a w (read.Bytes n) before ring unfed left e = elim e [ inl x ↦ cc | inr x ↦ cc ]
  end_keeps a w read.NotYet before ring unfed left e =
      record { ending = refl; filled_or = inl refl; last = refl; opened = refl; took = refl; filled = λ live. absurd (live refl); begun = refl; ring = refl }
  end_keeps a w read.End before ring unfed left e =
      record { ending = refl; filled_or = inl refl; last = refl; opened = refl; took = refl; filled = λ live. absurd (live refl); begun = refl; ring = refl }
  end_keeps a w read.Failed before ring unfed left e =
      record { ending = refl; filled_or = inl refl; last = refl; opened = refl; took = refl; filled = λ live. absurd (live refl); begun = refl; ring = refl }

-- a fill before a write changes nothing of what the write does to them
says_same : (a : LinkWrite) (old mid new : Shown) → mid.owed ≡ old.owed → says_behind a mid new ≡ says_behind a old new
says_same (write.Took n) old mid new e = ap (λ (xs : List ℕ). no_bytes (drop n xs) && not (no_bytes new.ring)) e
says_same write.NotYet old mid new e = refl
says_same write.Failed old mid new e = refl
says_same write.NoMemory old mid new e = refl

filled_twice : (x y : Bool) (now k : ℕ) → filled_if y now (filled_if x now k) ≡ filled_if (x || y) now k
filled_twice true true now k = refl
filled_twice true false now k = refl
filled_twice false y now k = refl

ring_same : (x : State) (a : LinkWrite) (old mid new : Shown) → mid.owed ≡ old.owed → ring_by x (Write a) mid new ≡ ring_by x (Write a) old new
ring_same state.Reading a old mid new e = refl
ring_same state.Ready a old mid new e = refl
ring_same state.Answering a old mid new e = ap (λ (xs : List ℕ). still_in a (take ring_room xs)) e
ring_same state.Hijacked a old mid new e = refl
ring_same state.Over a old mid new e = refl

pub keeps_behind : (now : ℕ) (a : LinkWrite) (old mid new : Shown) → Fills now old mid → no_bytes mid.ring ≡ false → Keeps now (Write a) mid new
    → Keeps now (Write a) old new
keeps_behind now a old mid new f some h = record {
  ending = h.ending ∙ f.ending;
  last = h.last ∙ ap (λ (t : Moments). t.last) f.moments;
  opened = h.opened ∙ ap (λ (t : Moments). t.opened) f.moments;
  took = h.took ∙ ap (λ (t : Moments). took_by now (Write a) t.took) f.moments;
  filled = λ live. h.filled live
      ∙ ap (λ (b : Bool). filled_if (b || says_behind a mid new) now mid.moments.filled) some
      ∙ ap (λ (b : Bool). filled_if b now mid.moments.filled) (says_same a old mid new f.owed)
      ∙ ap (λ (t : Moments). filled_if (says_behind a old new) now t.filled) f.moments
      ∙ filled_twice (no_bytes old.ring) (says_behind a old new) now old.moments.filled;
  filled_or = elim h.filled_or [
    | inl same ↦ either_then (filled_either (no_bytes old.ring) now old.moments.filled) (same ∙ ap (λ (t : Moments). t.filled) f.moments)
    | inr came ↦ inr came
  ];
  begun = subst (λ (t : Moments). BegunBy now (Write a) new.state t.begun new.moments.begun) f.moments h.begun;
  ring = h.ring ∙ ring_same new.state a old mid new f.owed;
}

pub some_ring : {B H : Type 0} (a : At B H) (ring : List ℕ) → IsFilledAt a ring → no_bytes (ring_at a ring) ≡ false
some_ring {B} {H} a ring is = ap no_bytes (ring_at_filled a ring is) ∙ none_some ring (filled_ring a ring is)
