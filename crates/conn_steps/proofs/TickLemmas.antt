-- How a connection that waits may end, at a tick or by a drain.
use Rattle.std.proofs.Common.{◌≡◌, ◌≢◌, ℕ, ◌+◌, ◌-◌, ◌^◌, ◌<◌, ◌≤◌, min, Bool, false, List, [], ◌++◌, length, refl, sym, ap, subst, ◌∙◌, arith, Option, None, Some}
use Rattle.std.specs.Prelude.{◌==◌}
use Rattle.std.proofs.lemmas.Bool.Decides.{nat_tests}
use Rattle.std.proofs.lemmas.List.{append-nil}
use Rattle.rack_types.specs.declared.body.Body.{Ghosts}
use Rattle.rack_types.specs.declared.fault.Fault.TheVariants.{T1}
use Rattle.message_framing.specs.Intake.{Fed}
use Rattle.reply_framing.specs.Fault.{fault_reply}
use Rattle.rack_outside.specs.Link.{Seen}
use Rattle.message_framing.specs.Request.{Wanting, Begun}
use Rattle.talk_core.specs.declared.ended.Why.TheVariants as why
use Rattle.talk_core.specs.Ended.{IdleAs}
use Rattle.talk_core.specs.declared.ended.IdleBy.{IdleBy}
use Rattle.talk_core.specs.declared.ended.IdleBy.TheVariants.{Clock, Drain}
use Rattle.talk_core.specs.Stands.{silent, times_out, Stands}
use Rattle.talk_core.specs.Tail.{Voice}
use Rattle.talk_core.specs.Teller.{Teller}
use Rattle.conn_steps.specs.declared.inside.Inside.{Inside}
use Rattle.talk_core.proofs.CallerLemmas.{stands_timed}
use Rattle.conn_steps.specs.declared.at.At.{At}
use Rattle.conn_steps.specs.declared.at.At.TheVariants as at
use Rattle.conn_steps.specs.declared.state.State.TheVariants as state
use Rattle.conn_steps.specs.Holds.{Kept, kept, past, Between, HoldsAt, StandsAt, HoldsBy}
use Rattle.conn_steps.specs.At.{state_at}
use Rattle.conn_steps.specs.Plain.{EndsPlainly}
use Rattle.conn_steps.specs.Rests.{BegunAs, Begins}
use Rattle.conn_steps.specs.Shown.{owed_at}
use Rattle.conn_steps.proofs.ConnLemmas.{PartOf, live_part}
use Rattle.conn_steps.proofs.AtLemmas.{over_same, unclosed}
use Rattle.conn_steps.proofs.ReadStands.{sent_whole}
use Rattle.conn_steps.proofs.UnreadLemmas.{none_before}

-- nothing is begun where no moment of it is kept
pub unbegun_bytes : {B H : Type 0} {g : Ghosts B} (p : Inside B H g) → p.at ≡ at.Reading → p.moments.begun ≡ None → (b : List ℕ) → Fed p.intake b → ¬ (Begun b)
unbegun_bytes {B} {H} {g} p is unbegun b fed =
    subst (λ (o : Option ℕ). BegunAs o b) unbegun (subst (λ (a : At B H). Begins a p.intake p.moments.begun) is p.begins b fed)

pub begun_bytes : {B H : Type 0} {g : Ghosts B} (p : Inside B H g) (since : ℕ) → p.at ≡ at.Reading → p.moments.begun ≡ Some since → (b : List ℕ) → Fed p.intake b
    → Begun b
begun_bytes {B} {H} {g} p since is begun b fed =
    subst (λ (o : Option ℕ). BegunAs o b) begun (subst (λ (a : At B H). Begins a p.intake p.moments.begun) is p.begins b fed)

-- some bytes were given where some were counted
given_some : (taken : ℕ) (given : List ℕ) → taken ≡ min (length given) (2 ^ 64 - 1) → 0 < taken → given ≢ []
given_some taken given counts some none = omega (arith, counts, some, ap length none)

-- how a connection that waits may end at a tick or by a drain
module _ {H : Type 0} (V : Voice H) (T : Teller H) (s : Seen) (over : Bool) (given sent : List ℕ) (c : Kept) where
  -- idle, where nothing is begun
  idle_ends : (now : List ℕ) (by : IdleBy) → Wanting now → ¬ (Begun now) → c.unfed ≡ [] → Between V T over given sent c now
      → IdleAs by (past s c given sent over) → EndsPlainly c.ending (why.Idle by) V T (past s c given sent over)
  idle_ends now by waits unbegun none h idle =
      (now, sent_whole V T s c given sent over over now waits none h.stands (unclosed c.ending h.unended), unbegun, idle)

pub idle_holds : {B H : Type 0} {g : Ghosts B} (V : Voice H) (T : Teller H) (s : Seen) (p : Inside B H g) (c : Kept) (since now : ℕ) → p.at ≡ at.Reading
    → p.moments.begun ≡ None → since + 20000 ≤ now → c.calls ≡ p.calls → c.taken ≡ p.taken → c.ending ≡ p.ending → HoldsBy V T s p
    → StandsAt {B = B} V T s p.peer (at.Over (why.Idle (Clock since now))) c
idle_holds {B} {H} {g} V T s p c since now is unbegun passed n t m h =
    let x = subst (λ (a : At B H). HoldsAt a V T s h.over h.given h.sent (kept p)) is h.at in
    record {
      given = h.given;
      sent = h.sent;
      over = h.over;
      shows = h.shows;
      counts = t ∙ h.counts;
      at = over_same (why.Idle (Clock since now)) V T s h.over h.given h.sent (kept p) c n m
          (idle_ends V T s h.over h.given h.sent (kept p) x.0 (Clock since now) x.1 (unbegun_bytes p is unbegun x.0 x.3.fed) x.2 x.3 passed);
    }

pub drain_holds : {B H : Type 0} {g : Ghosts B} (V : Voice H) (T : Teller H) (s : Seen) (p : Inside B H g) (c : Kept) (level : ℕ) → p.at ≡ at.Reading
    → p.moments.begun ≡ None → 1 ≤ level → 0 < p.taken → c.calls ≡ p.calls → c.taken ≡ p.taken → c.ending ≡ p.ending → HoldsBy V T s p
    → StandsAt {B = B} V T s p.peer (at.Over (why.Idle (Drain level))) c
drain_holds {B} {H} {g} V T s p c level is unbegun some read n t m h =
    let x = subst (λ (a : At B H). HoldsAt a V T s h.over h.given h.sent (kept p)) is h.at in
    record {
      given = h.given;
      sent = h.sent;
      over = h.over;
      shows = h.shows;
      counts = t ∙ h.counts;
      at = over_same (why.Idle (Drain level)) V T s h.over h.given h.sent (kept p) c n m
          (idle_ends V T s h.over h.given h.sent (kept p) x.0 (Drain level) x.1 (unbegun_bytes p is unbegun x.0 x.3.fed) x.2 x.3
          (given_some p.taken h.given h.counts read, some));
    }

-- a request took too long: the reply that says so is in the ring
pub late_holds : {B H : Type 0} {g : Ghosts B} (V : Voice H) (T : Teller H) (s : Seen) (p : Inside B H g) (ring : List ℕ) (since now : ℕ) → p.at ≡ at.Reading
    → p.moments.begun ≡ Some since → since + 30000 ≤ now → ring ≡ p.ring.items ++ fault_reply T1 → HoldsBy V T s p
    → StandsAt {B = B} V T s p.peer at.Refusing
    (record (kept p) { ring = ring; ending = record p.ending { late = Some (record { since = since; now = now }) } })
late_holds {B} {H} {g} V T s p ring since now is begun passed ring_is h =
    let x = subst (λ (a : At B H). HoldsAt a V T s h.over h.given h.sent (kept p)) is h.at in
    let rest : x.0 ++ p.unfed ≡ x.0 = ap (λ (xs : List ℕ). x.0 ++ xs) x.2 ∙ append-nil x.0 in
    record {
      given = h.given;
      sent = h.sent;
      over = h.over;
      shows = h.shows;
      counts = h.counts;
      at = (
        x.0,
        subst (λ (xs : List ℕ). Stands V T h.over h.given h.sent p.calls times_out x.0 xs)
            (sym (ring_is ∙ ap (λ (xs : List ℕ). xs ++ fault_reply T1) x.3.ring))
            (stands_timed V T h.over h.given h.sent x.0 p.calls
            (subst (λ (xs : List ℕ). Stands V T h.over h.given h.sent p.calls silent xs []) rest x.3.stands)
            x.1 (begun_bytes p since is begun x.0 x.3.fed)),
        unclosed p.ending x.3.unended,
        passed,
      );
    }

-- the peer took nothing of what is in the ring for too long
pub stalled_holds : {B H : Type 0} {g : Ghosts B} (V : Voice H) (T : Teller H) (s : Seen) (p : Inside B H g) (c : Kept) (since now : ℕ)
    → state_at p.at ≢ state.Over → owed_at p.at p.ring.items ≢ [] → since + 10000 ≤ now → c.calls ≡ p.calls → c.taken ≡ p.taken → c.ending ≡ p.ending
    → HoldsBy V T s p → StandsAt {B = B} V T s p.peer (at.Over (why.Stalled since now)) c
stalled_holds {B} {H} {g} V T s p c since now live some passed n t m h =
    let part : PartOf V T h.over h.given h.sent (kept p) (owed_at p.at p.ring.items) = live_part p.at V T s h.over h.given h.sent (kept p) live h.at in
    record {
      given = h.given;
      sent = h.sent;
      over = h.over;
      shows = h.shows;
      counts = t ∙ h.counts;
      at = over_same (why.Stalled since now) V T s h.over h.given h.sent (kept p) c n m
          (owed_at p.at p.ring.items, record { word = part.word; untimed = part.timed; partly = part.partly }, some, passed);
    }

before_nil : (xs ys : List ℕ) → xs ++ ys ≡ [] → xs ≡ []
before_nil xs ys e = none_before xs ys (sym e)

-- where bytes are in the ring, some are owed
pub ring_owed : {B H : Type 0} (a : At B H) (ring : List ℕ) → state_at a ≢ state.Over → ring ≢ [] → owed_at a ring ≢ []
ring_owed {B} {H} at.Reading ring live some = some
ring_owed {B} {H} at.Asked ring live some = some
ring_owed {B} {H} (at.Refused f) ring live some = some
ring_owed {B} {H} (at.Answering f) ring live some = λ e. some (before_nil ring f.rest.bytes e)
ring_owed {B} {H} (at.Writing keeps) ring live some = some
ring_owed {B} {H} (at.Handing who) ring live some = some
ring_owed {B} {H} at.Refusing ring live some = some
ring_owed {B} {H} (at.Listening who) ring live some = some
ring_owed {B} {H} (at.Speaking who) ring live some = some
ring_owed {B} {H} at.Parting ring live some = some
ring_owed {B} {H} (at.Over w) ring live some = absurd (live refl)

pub some_bytes : (xs : List ℕ) (empty : Bool) → empty ≡ (length xs == 0) → empty ≡ false → xs ≢ []
some_bytes xs empty is not none =
    let size : length xs ≡ 0 = ap length none in
    let e : (length xs == 0) ≡ false = sym is ∙ not in
    grind (arith, nat_tests, size, e)
