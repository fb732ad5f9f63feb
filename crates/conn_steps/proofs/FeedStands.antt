-- What stands behind the unfed bytes, once they were fed.
use Rattle.std.proofs.Common.{◌≡◌, ℕ, ◌+◌, ◌<◌, Bool, false, List, [], ◌++◌, take, drop, refl, sym, ap, subst, ◌∙◌, append_assoc, arith, None}
use Rattle.std.proofs.lemmas.List.{append-nil, take-append-drop}
use Rattle.rack_outside.specs.Link.{Seen}
use Rattle.message_framing.specs.declared.intake.Intake.{Intake}
use Rattle.message_framing.specs.Intake.{Fed}
use Rattle.talk_core.specs.declared.ended.Why.TheVariants as why
use Rattle.talk_core.specs.Stands.{Stands, silent}
use Rattle.talk_core.specs.Tail.{Voice}
use Rattle.talk_core.specs.Teller.{Teller}
use Rattle.talk_core.proofs.CallerLemmas.{closes_none}
use Rattle.conn_steps.specs.declared.moments.Ending.{Ending}
use Rattle.conn_steps.specs.declared.at.At.{At}
use Rattle.conn_steps.specs.declared.at.At.TheVariants as at
use Rattle.conn_steps.specs.Holds.{Kept, past, HoldsAt}
use Rattle.conn_steps.specs.Plain.{EndsPlainly}
use Rattle.conn_steps.specs.Rests.{RestsAt, IsUnended}
use Rattle.conn_steps.specs.Steps.{FeedsHeld}
use Rattle.conn_steps.proofs.AtLemmas.{unclosed}

-- the parts that an intake and the unfed bytes make where nothing is owed
abbrev pub fed_kept : Kept → Intake → List ℕ → ℕ → Kept
fed_kept c intake unfed taken = record c { intake = intake; unfed = unfed; ring = []; taken = taken }

-- between replies, with want of memory
pub silent_lacks : {H : Type 0} (V : Voice H) (T : Teller H) (s : Seen) (over : Bool) (given sent rest : List ℕ) (c : Kept) → c.ending.closing ≡ None
    → Stands V T over given sent c.calls silent rest [] → EndsPlainly c.ending why.NoMemory V T (past s c given sent over)
silent_lacks {H} V T s over given sent rest c none h =
    let n : c.calls ≡ c.calls + 0 = omega arith in (
      [],
      record {
        word = silent;
        untimed = tt;
        partly = record { k = c.calls; rest = rest; calls_is = n; stands = h; closes = closes_none c.ending.closing c.calls ⊥ rest none };
      },
    )

module _ {B H : Type 0} (V : Voice H) (T : Teller H) (s : Seen) (over : Bool) (given sent : List ℕ) (c : Kept) (old new : Intake)
    (unfed left : List ℕ) (taken : ℕ) (now : List ℕ) (live : over ≡ false) (unended : IsUnended c.ending) where
  pub feeds_hold : (a : At B H) → FeedsHeld old unfed new left a → Fed old now
      → Stands V T over given sent c.calls silent (now ++ unfed) [] → HoldsAt a V T s over given sent (fed_kept c new left taken)
  feeds_hold at.Reading f fed h =
      let rest : now ++ unfed ≡ (now ++ unfed) ++ left = sym (ap (λ x. (now ++ unfed) ++ x) f.1 ∙ append-nil (now ++ unfed)) in (
        now ++ unfed,
        f.0.right now fed,
        f.1,
        record {
          fed = f.0.holds now fed;
          ring = refl;
          live = live;
          unended = unended;
          stands = subst (λ (x : List ℕ). Stands V T over given sent c.calls silent x []) rest h;
        },
      )
  feeds_hold at.Asked f fed h =
      let n = f.0 in
      let parts : now ++ unfed ≡ (now ++ take n unfed) ++ left =
      ap (λ x. now ++ x) (sym (take-append-drop n unfed)) ∙ sym (append_assoc now (take n unfed) (drop n unfed))
      ∙ ap (λ x. (now ++ take n unfed) ++ x) (sym f.2) in (
        now ++ take n unfed,
        (f.1.right now fed).1.0,
        (f.1.right now fed).1.1,
        record {
          fed = f.1.holds now fed;
          ring = refl;
          live = live;
          unended = unended;
          stands = subst (λ (x : List ℕ). Stands V T over given sent c.calls silent x []) parts h;
        },
      )
  feeds_hold (at.Refused fault) f fed h =
      let rest : now ++ unfed ≡ (now ++ unfed) ++ left = sym (ap (λ x. (now ++ unfed) ++ x) f.1 ∙ append-nil (now ++ unfed)) in (
        now ++ unfed,
        f.0.right now fed,
        f.1,
        record {
          fed = f.0.holds now fed;
          ring = refl;
          live = live;
          unended = unended;
          stands = subst (λ (x : List ℕ). Stands V T over given sent c.calls silent x []) rest h;
        },
      )
  feeds_hold (at.Answering framer) f fed h = absurd f
  feeds_hold (at.Writing keeps) f fed h = absurd f
  feeds_hold (at.Handing who) f fed h = absurd f
  feeds_hold at.Refusing f fed h = absurd f
  feeds_hold (at.Listening who) f fed h = absurd f
  feeds_hold (at.Speaking who) f fed h = absurd f
  feeds_hold at.Parting f fed h = absurd f
  feeds_hold (at.Over why.Closed) f fed h = absurd f
  feeds_hold (at.Over why.PeerEnd) f fed h = absurd f
  feeds_hold (at.Over (why.Idle by)) f fed h = absurd f
  feeds_hold (at.Over (why.TimedOut since moment)) f fed h = absurd f
  feeds_hold (at.Over (why.Stalled since moment)) f fed h = absurd f
  feeds_hold (at.Over (why.Unread level)) f fed h = absurd f
  feeds_hold (at.Over why.ReadFailed) f fed h = absurd f
  feeds_hold (at.Over why.WriteFailed) f fed h = absurd f
  feeds_hold (at.Over (why.Halted level)) f fed h = absurd f
  feeds_hold (at.Over why.NoMemory) f fed h = silent_lacks V T s over given sent (now ++ unfed) (fed_kept c new left taken) (unclosed c.ending unended) h
  feeds_hold (at.Over why.Hijacked) f fed h = absurd f

pub feeds_rest : {B H : Type 0} (a : At B H) (old new : Intake) (unfed left : List ℕ) (calls : ℕ) (e : Ending) → FeedsHeld old unfed new left a
    → calls < 10000 → IsUnended e → RestsAt a new left [] calls e
feeds_rest {B} {H} at.Reading old new unfed left calls e f few u = (f.1, (refl, (few, u)))
feeds_rest {B} {H} at.Asked old new unfed left calls e f few u = (refl, (few, (f.1.whole, u)))
feeds_rest {B} {H} (at.Refused fault) old new unfed left calls e f few u = (refl, (few, u))
feeds_rest {B} {H} (at.Answering framer) old new unfed left calls e f few u = absurd f
feeds_rest {B} {H} (at.Writing keeps) old new unfed left calls e f few u = absurd f
feeds_rest {B} {H} (at.Handing who) old new unfed left calls e f few u = absurd f
feeds_rest {B} {H} at.Refusing old new unfed left calls e f few u = absurd f
feeds_rest {B} {H} (at.Listening who) old new unfed left calls e f few u = absurd f
feeds_rest {B} {H} (at.Speaking who) old new unfed left calls e f few u = absurd f
feeds_rest {B} {H} at.Parting old new unfed left calls e f few u = absurd f
feeds_rest {B} {H} (at.Over ended) old new unfed left calls e f few u = tt
