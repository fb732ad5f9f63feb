-- What a connection shows behind a read.
use Rattle.std.proofs.Common.{◌≡◌, ℕ, zero, suc, ◌+◌, ◌-◌, ◌^◌, ◌<◌, ◌≤◌, min, List, [], length, refl, sym, ap, subst, ◌∙◌, arith, Option, None, Some}
use Rattle.std.proofs.lemmas.List.{append-nil}
use Rattle.rack_outside.specs.Link.{Seen, IsOneRead}
use Rattle.rack_outside.specs.Told.{counted, appended}
use Rattle.rack_outside.specs.declared.link.LinkRead.{LinkRead}
use Rattle.message_framing.specs.declared.intake.Intake.{Intake}
use Rattle.talk_core.specs.Counts.{counted_by}
use Rattle.talk_core.specs.declared.ended.Why.TheVariants as why
use Rattle.conn_steps.specs.declared.at.At.{At}
use Rattle.conn_steps.specs.declared.at.At.TheVariants as at
use Rattle.conn_steps.specs.declared.state.State.{State}
use Rattle.conn_steps.specs.Ends.{TurnEnds, IsOfFeed}
use Rattle.conn_steps.specs.Inner.{IsFed}
use Rattle.conn_steps.specs.Moves.{OffersRoom, size_of, BehindRead, ReadsOnce}
use Rattle.conn_steps.specs.At.{state_at}
use Rattle.conn_steps.specs.Shown.{Shown, Moved, replied_at, why_at}
use Rattle.conn_steps.specs.Steps.{FeedsHeld}

-- nothing more
pub appended_nil : (o : Option (List ℕ)) → appended o [] ≡ o
appended_nil None = refl
appended_nil (Some xs) = ap Some (append-nil xs)

-- the count behind some more, as a sum that stays at its end
pub counted_sum : (n t : ℕ) → 0 < n → counted_by n t ≡ min (t + n) (2 ^ 64 - 1)
counted_sum zero t some = omega (arith, some)
counted_sum (suc zero) t some = refl
counted_sum (suc (suc n)) t some =
    let more : 0 < suc n = omega arith in
    let e : min (counted t + suc n) (2 ^ 64 - 1) ≡ min (t + suc (suc n)) (2 ^ 64 - 1) = omega arith in
    counted_sum (suc n) (counted t) more ∙ e

-- one read, of the same connection
abbrev pub moved_by_read : (old new : Shown) (s s' : Seen) (came : List ℕ) → new.peer ≡ old.peer → new.local ≡ old.local → new.lives ≡ old.lives
    → IsOneRead s s' → s'.given ≡ appended s.given came → new.taken ≡ counted_by (length came) old.taken → Moved old new s s' 1 0
moved_by_read old new s s' came peer local lives one given taken =
    let writes : s.failed_writes ≤ s'.failed_writes = omega (arith, one.failed_writes) in
    record {
      peer = peer;
      local = local;
      lives = lives;
      tag = one.tag;
      link_peer = one.peer;
      borrows = one.borrows;
      input = one.input;
      waits = one.waits;
      failed_reads = one.failed_reads;
      failed_writes = writes;
      reads_are = one.reads;
      writes_are = one.writes;
      came = came;
      given = given;
      taken = taken;
    }

-- what a place shows that bytes were fed to
pub record FedShown {B H : Type 0} (a : At B H) (calls : ℕ) (s s' : Seen) : Type 0 where
  pub replied : replied_at a calls ≡ calls
  pub why : IsOfFeed (why_at a)
  pub ends : TurnEnds None (why_at a) s s'
  pub state : IsFed (state_at a)

pub fed_shown : {B H : Type 0} (a : At B H) (calls : ℕ) (s s' : Seen) (old new : Intake) (unfed left : List ℕ) → s'.over ≡ s.over
    → FeedsHeld old unfed new left a → FedShown a calls s s'
fed_shown {B} {H} at.Reading calls s s' old new unfed left over f = record { replied = refl; why = tt; ends = over; state = tt }
fed_shown {B} {H} at.Asked calls s s' old new unfed left over f = record { replied = refl; why = tt; ends = over; state = tt }
fed_shown {B} {H} (at.Refused fault) calls s s' old new unfed left over f = record { replied = refl; why = tt; ends = over; state = tt }
fed_shown {B} {H} (at.Answering framer) calls s s' old new unfed left over f = absurd f
fed_shown {B} {H} (at.Writing keeps) calls s s' old new unfed left over f = absurd f
fed_shown {B} {H} (at.Handing h) calls s s' old new unfed left over f = absurd f
fed_shown {B} {H} at.Refusing calls s s' old new unfed left over f = absurd f
fed_shown {B} {H} (at.Listening h) calls s s' old new unfed left over f = absurd f
fed_shown {B} {H} (at.Speaking h) calls s s' old new unfed left over f = absurd f
fed_shown {B} {H} at.Parting calls s s' old new unfed left over f = absurd f
fed_shown {B} {H} (at.Over why.Closed) calls s s' old new unfed left over f = absurd f
fed_shown {B} {H} (at.Over why.PeerEnd) calls s s' old new unfed left over f = absurd f
fed_shown {B} {H} (at.Over (why.Idle by)) calls s s' old new unfed left over f = absurd f
fed_shown {B} {H} (at.Over (why.TimedOut since moment)) calls s s' old new unfed left over f = absurd f
fed_shown {B} {H} (at.Over (why.Stalled since moment)) calls s s' old new unfed left over f = absurd f
fed_shown {B} {H} (at.Over (why.Unread level)) calls s s' old new unfed left over f = absurd f
fed_shown {B} {H} (at.Over why.ReadFailed) calls s s' old new unfed left over f = absurd f
fed_shown {B} {H} (at.Over why.WriteFailed) calls s s' old new unfed left over f = absurd f
fed_shown {B} {H} (at.Over (why.Halted level)) calls s s' old new unfed left over f = absurd f
fed_shown {B} {H} (at.Over why.NoMemory) calls s s' old new unfed left over f = record { replied = refl; why = tt; ends = over; state = tt }
fed_shown {B} {H} (at.Over why.Hijacked) calls s s' old new unfed left over f = absurd f

-- one read by which the connection ended, or that had to wait, gave nothing
abbrev pub nothing_came : (old new : Shown) (s s' : Seen) → new.peer ≡ old.peer → new.local ≡ old.local → new.lives ≡ old.lives
    → IsOneRead s s' → s'.given ≡ s.given → new.taken ≡ old.taken → Moved old new s s' 1 0
nothing_came old new s s' peer local lives one given taken =
    moved_by_read old new s s' [] peer local lives one (given ∙ sym (appended_nil s.given)) taken

-- one read, of the same connection in this state
abbrev pub read_once : (a : LinkRead) (x : State) (o n : Shown) (s u : Seen) → OffersRoom a s u → IsOneRead s u → n.peer ≡ o.peer → n.local ≡ o.local
    → n.lives ≡ o.lives → n.calls ≡ o.calls → n.replied ≡ o.replied → n.taken ≡ counted_by (size_of a) o.taken → o.state ≡ x → BehindRead x a o n
    → ReadsOnce a o n s u
read_once a x o n s u offers one peer local lives calls replied taken is behind = record {
  offers = offers;
  one = one;
  peer = peer;
  local = local;
  lives = lives;
  calls = calls;
  replied = replied;
  taken = taken;
  behind = subst (λ (y : State). BehindRead y a o n) (sym is) behind;
}
