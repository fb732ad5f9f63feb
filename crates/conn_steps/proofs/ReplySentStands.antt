-- What stands once the link took all of the ring.
use Rattle.std.proofs.Common.{◌≡◌, ℕ, suc, ◌+◌, ◌<◌, Bool, true, false, List, [], ◌++◌, length, refl, sym, subst, ◌∙◌, arith, Option, None, Some}
use Rattle.rack_outside.specs.Link.{Seen}
use Rattle.message_framing.specs.declared.intake.Intake.{Intake}
use Rattle.talk_core.specs.declared.ended.Why.TheVariants as why
use Rattle.talk_core.specs.Stands.{Stands, silent, replies, refuses, times_out, hands_over}
use Rattle.talk_core.specs.Tail.{Voice}
use Rattle.talk_core.specs.Talk.{refused, closed}
use Rattle.talk_core.specs.Teller.{Teller}
use Rattle.talk_core.proofs.CallerLemmas.{stands_kept, whole_closed, whole_refused, whole_timed, closes_none}
use Rattle.conn_steps.specs.declared.moments.Ending.{Ending}
use Rattle.conn_steps.specs.declared.moments.Late.{Late}
use Rattle.conn_steps.specs.declared.at.At.{At}
use Rattle.conn_steps.specs.declared.at.At.TheVariants as at
use Rattle.conn_steps.specs.Holds.{Kept, past, Handed, Refuses, HoldsAt, StandsAt}
use Rattle.conn_steps.specs.Moments.{ended_by}
use Rattle.conn_steps.specs.Inner.{IsFilledAt}
use Rattle.conn_steps.specs.At.{IsSaying}
use Rattle.conn_steps.specs.Plain.{EndsPlainly}
use Rattle.reply_framing.specs.Reply.{body_after}
use Rattle.conn_steps.specs.Rests.{GoesOn, RestsAt}
use Rattle.conn_steps.specs.Steps.{CompletesTo, HasRequest}
use Rattle.conn_steps.proofs.FeedStands.{feeds_hold, feeds_rest}
use Rattle.conn_steps.proofs.HijackStands.{parted, hands_at, told_rest}
use Rattle.conn_steps.proofs.AtLemmas.{kept_same}
use Rattle.conn_steps.proofs.WriteShows.{filled_says}

-- where the connection goes on a whole request stands
pub has_request : {B H : Type 0} (a : At B H) (intake : Intake) (unfed ring : List ℕ) (calls : ℕ) (m : Ending) → RestsAt a intake unfed ring calls m → HasRequest a intake
has_request {B} {H} at.Reading intake unfed ring calls m h = tt
has_request {B} {H} at.Asked intake unfed ring calls m h = tt
has_request {B} {H} (at.Refused f) intake unfed ring calls m h = tt
has_request {B} {H} (at.Answering f) intake unfed ring calls m h = tt
has_request {B} {H} (at.Writing true) intake unfed ring calls m h = h.1.0
has_request {B} {H} (at.Writing false) intake unfed ring calls m h = tt
has_request {B} {H} (at.Handing who) intake unfed ring calls m h = tt
has_request {B} {H} at.Refusing intake unfed ring calls m h = tt
has_request {B} {H} (at.Listening who) intake unfed ring calls m h = tt
has_request {B} {H} (at.Speaking who) intake unfed ring calls m h = tt
has_request {B} {H} at.Parting intake unfed ring calls m h = tt
has_request {B} {H} (at.Over ended) intake unfed ring calls m h = tt

-- the parts behind it
abbrev then_kept : Kept → Intake → List ℕ → List ℕ → Kept
then_kept c new left ring = record c { intake = new; unfed = left; ring = ring }

-- the reply that names a refusal was sent whole, or that a request took too long
refused_ends : {H : Type 0} (V : Voice H) (T : Teller H) (s : Seen) (over : Bool) (given sent : List ℕ) (c : Kept) (none : c.ring ≡ []) (late : Option Late)
    → Refuses late V T over given sent c → EndsPlainly c.ending (ended_by late) V T (past s c given sent over)
refused_ends {H} V T s over given sent c none None h = (
  refused h.0,
  h.1,
  tt,
  whole_refused V T (past s c given sent over) h.1 h.0 c.calls
      (subst (λ (x : List ℕ). Stands V T over given sent c.calls (refuses h.0) h.1 x) none h.2) refl
      (closes_none c.ending.closing c.calls ⊥ h.1 h.3),
)
refused_ends {H} V T s over given sent c none (Some late) h =
    let x = whole_timed V T (past s c given sent over) h.0 c.calls
    (subst (λ (y : List ℕ). Stands V T over given sent c.calls times_out h.0 y) none h.1) refl (closes_none c.ending.closing c.calls ⊥ h.0 h.2) in
    (h.0, x.0, x.1, x.2, x.3, h.3)

module _ {B H : Type 0} (V : Voice H) (T : Teller H) (s : Seen) (over : Bool) (given sent : List ℕ) (c : Kept) (old new : Intake)
    (left before ring : List ℕ) (none : c.ring ≡ []) where
  -- nothing of the connection changed
  unchanged : (a b : At B H) → b ≡ a → new ≡ c.intake → left ≡ c.unfed → ring ≡ [] → HoldsAt a V T s over given sent c
      → HoldsAt b V T s over given sent (then_kept c new left ring)
  unchanged a b e i l r h =
      subst (λ (d : At B H). HoldsAt d V T s over given sent (then_kept c new left ring)) (sym e)
      (subst (λ (k : Kept). HoldsAt a V T s over given sent k)
      (kept_same c (then_kept c new left ring) i l (r ∙ sym none) refl refl refl) h)

  -- the same of what a hijacker that goes on has behind it
  spoken : (h : H) (b : At B H) → b ≡ at.Listening h → new ≡ c.intake → left ≡ c.unfed → ring ≡ [] → HoldsAt {B = B} (at.Speaking h) V T s over given sent c
      → HoldsAt b V T s over given sent (then_kept c new left ring)
  spoken h b e i l r x = unchanged (at.Listening h) b e i l r x

  completes_at : (a b : At B H) → CompletesTo c.ending.late V a c.intake c.unfed b new left ring → IsSaying a → RestsAt a old c.unfed before c.calls c.ending → HoldsAt a V T s over given sent c
      → HoldsAt b V T s over given sent (then_kept c new left ring)
  completes_at at.Reading b e is rests h = absurd is
  completes_at at.Asked b e is rests h = absurd is
  completes_at (at.Refused f) b e is rests h = absurd is
  completes_at (at.Answering f) b e is rests h = unchanged (at.Answering f) b e.0 e.1.0 e.1.1 e.2 h
  completes_at (at.Writing true) b e is rests h =
      let stands : Stands V T over given sent (suc h.0) silent c.unfed [] =
      stands_kept V T over given sent c.unfed h.1 h.0
      (subst (λ (x : List ℕ). Stands V T over given sent h.0 (replies h.1) c.unfed (x ++ [])) none h.3.stands) (sym h.2) in
      subst (λ (x : List ℕ). HoldsAt b V T s over given sent (record c { intake = new; unfed = left; ring = x })) (sym e.3)
      (feeds_hold V T s over given sent c e.0 new c.unfed left c.taken [] h.3.live rests.1.1.1.1 b e.2 e.1
      (subst (λ (n : ℕ). Stands V T over given sent n silent c.unfed []) (sym h.3.count) stands))
  completes_at (at.Writing false) b e is rests h =
      let closes : HoldsAt {B = B} (at.Over why.Closed) V T s over given sent (then_kept c new left ring) = (
        closed,
        c.unfed,
        tt,
        whole_closed V T (past s c given sent over) c.unfed h.1 h.0
            (subst (λ (x : List ℕ). Stands V T over given sent h.0 (replies h.1) c.unfed (x ++ [])) none h.3.stands) (sym h.2) h.3.count h.3.closes,
      ) in
      subst (λ (d : At B H). HoldsAt d V T s over given sent (then_kept c new left ring)) (sym e.0) closes
  completes_at (at.Handing who) b e is rests h =
      hands_at V T s over given sent (record c { intake = new }) who ring left b e h.0 h.1 h.2 h.3 h.4.count h.4.closes h.4.live
      (subst (λ (x : List ℕ). Stands V T over given sent h.0 (replies h.1) c.unfed (x ++ [])) none h.4.stands)
  completes_at at.Refusing b e is rests h =
      subst (λ (d : At B H). HoldsAt d V T s over given sent (then_kept c new left ring)) (sym e.0) (refused_ends V T s over given sent c none c.ending.late h)
  completes_at (at.Listening who) b e is rests h = absurd is
  completes_at (at.Speaking who) b e is rests h = spoken who b e.0 e.1.0 e.1.1 e.2 h
  completes_at at.Parting b e is rests h =
      let q : Handed V T over given sent c = h.handed in
      let ends : HoldsAt {B = B} (at.Over why.Hijacked) V T s over given sent (then_kept c new left ring) =
      parted V T s over given sent c q.k q.request q.first q.rest q.count q.closes
      (subst (λ (x : List ℕ). Stands V T over given sent q.k (hands_over q.request q.first) q.rest x) none q.stands) h.ended h.leaves in
      subst (λ (d : At B H). HoldsAt d V T s over given sent (then_kept c new left ring)) (sym e.0) ends
  completes_at (at.Over ended) b e is rests h = absurd is

-- the link took all of the ring
pub completes_hold : {B H : Type 0} (V : Voice H) (T : Teller H) (s : Seen) (peer : List ℕ) (c : Kept) (new : Intake) (left before ring : List ℕ) (a b : At B H)
    → c.ring ≡ [] → CompletesTo c.ending.late V a c.intake c.unfed b new left ring → IsFilledAt a before → RestsAt a c.intake c.unfed before c.calls c.ending
    → StandsAt V T s peer a c → StandsAt V T s peer b (record c { intake = new; unfed = left; ring = ring })
completes_hold {B} {H} V T s peer c new left before ring a b none e is rests h = record {
  given = h.given;
  sent = h.sent;
  over = h.over;
  shows = h.shows;
  counts = h.counts;
  at = completes_at V T s h.over h.given h.sent c c.intake new left before ring none a b e (filled_says a before is) rests h.at;
}

-- safety behind it
pub completes_rest : {B H : Type 0} (V : Voice H) (a b : At B H) (old new : Intake) (unfed left before ring : List ℕ) (calls : ℕ) (m : Ending)
    → CompletesTo m.late V a old unfed b new left ring → IsFilledAt a before → RestsAt a old unfed before calls m → RestsAt b new left ring calls m
completes_rest {B} {H} V at.Reading b old new unfed left before ring calls m e is h = absurd is
completes_rest {B} {H} V at.Asked b old new unfed left before ring calls m e is h = absurd is
completes_rest {B} {H} V (at.Refused f) b old new unfed left before ring calls m e is h = absurd is
completes_rest {B} {H} V (at.Answering f) b old new unfed left before ring calls m e is h =
    let some : 0 < length ring + length f.rest.bytes = omega (arith, is.1) in
    subst (λ (d : At B H). RestsAt d new left ring calls m) (sym e.0)
    (some, subst (λ (i : Intake). GoesOn (body_after f.rest.rule f.after) i calls m) (sym e.1.0) h.1)
completes_rest {B} {H} V (at.Writing true) b old new unfed left before ring calls m e is h =
    subst (λ (x : List ℕ). RestsAt b new left x calls m) (sym e.3) (feeds_rest b e.0 new unfed left calls m e.2 h.1.1.1.0 h.1.1.1.1)
completes_rest {B} {H} V (at.Writing false) b old new unfed left before ring calls m e is h =
    subst (λ (d : At B H). RestsAt d new left ring calls m) (sym e.0) tt
completes_rest {B} {H} V (at.Handing who) b old new unfed left before ring calls m e is h = told_rest V who unfed ring left new calls m b e
completes_rest {B} {H} V at.Refusing b old new unfed left before ring calls m e is h =
    subst (λ (d : At B H). RestsAt d new left ring calls m) (sym e.0) tt
completes_rest {B} {H} V (at.Listening who) b old new unfed left before ring calls m e is h = absurd is
completes_rest {B} {H} V (at.Speaking who) b old new unfed left before ring calls m e is h =
    subst (λ (d : At B H). RestsAt d new left ring calls m) (sym e.0) (e.1.1 ∙ h.0, e.2)
completes_rest {B} {H} V at.Parting b old new unfed left before ring calls m e is h =
    subst (λ (d : At B H). RestsAt d new left ring calls m) (sym e.0) tt
completes_rest {B} {H} V (at.Over ended) b old new unfed left before ring calls m e is h = absurd is
