-- What a connection shows behind a write.
use Rattle.std.proofs.Common.{◌≡◌, ℕ, ◌-◌, ◌<◌, ◌≤◌, Bool, true, false, List, [], ◌++◌, length, refl, sym, ap, subst, ◌∙◌, arith, length-append, Option, None, Some}
use Rattle.rack_outside.specs.Link.{Seen, IsOneWrite}
use Rattle.message_framing.specs.declared.intake.Intake.{Intake}
use Rattle.talk_core.specs.declared.ended.Why.{Why}
use Rattle.talk_core.specs.declared.ended.Why.TheVariants as why
use Rattle.talk_core.specs.Tail.{Voice}
use Rattle.conn_steps.specs.declared.moments.Ending.{Ending}
use Rattle.conn_steps.specs.declared.moments.Late.{Late}
use Rattle.conn_steps.specs.declared.at.At.{At}
use Rattle.conn_steps.specs.declared.at.At.TheVariants as at
use Rattle.conn_steps.specs.declared.state.State.TheVariants as state
use Rattle.conn_steps.specs.Ends.{TurnEnds, IsOfFlush}
use Rattle.conn_steps.specs.Inner.{SaysOn, IsFilledAt}
use Rattle.conn_steps.specs.Moments.{ended_by}
use Rattle.conn_steps.specs.At.{state_at, IsSaying}
use Rattle.conn_steps.specs.Rests.{RestsAt}
use Rattle.conn_steps.specs.Shown.{Shown, Moved, replied_at, owed_at, why_at}
use Rattle.conn_steps.specs.Steps.{FeedsHeld, Tells, CompletesTo}
use Rattle.conn_steps.proofs.ShownLemmas.{appended_nil}

-- one write, of the same connection
abbrev pub moved_by_write : (old new : Shown) (s s' : Seen) → new.peer ≡ old.peer → new.local ≡ old.local → new.lives ≡ old.lives
    → IsOneWrite s s' → new.taken ≡ old.taken → Moved old new s s' 0 1
moved_by_write old new s s' peer local lives one taken =
    let reads : s.failed_reads ≤ s'.failed_reads = omega (arith, one.failed_reads) in
    record {
      peer = peer;
      local = local;
      lives = lives;
      tag = one.tag;
      link_peer = one.peer;
      borrows = one.borrows;
      input = one.input;
      waits = one.waits;
      failed_reads = reads;
      failed_writes = one.failed_writes;
      reads_are = one.reads;
      writes_are = one.writes;
      came = [];
      given = one.given ∙ sym (appended_nil s.given);
      taken = taken;
    }

-- a place where something is owed
pub filled_says : {B H : Type 0} (a : At B H) (ring : List ℕ) → IsFilledAt a ring → IsSaying a
filled_says {B} {H} at.Reading ring is = absurd is
filled_says {B} {H} at.Asked ring is = absurd is
filled_says {B} {H} (at.Refused fault) ring is = absurd is
filled_says {B} {H} (at.Answering f) ring is = tt
filled_says {B} {H} (at.Writing keeps) ring is = tt
filled_says {B} {H} (at.Handing h) ring is = tt
filled_says {B} {H} at.Refusing ring is = tt
filled_says {B} {H} (at.Listening h) ring is = absurd is
filled_says {B} {H} (at.Speaking h) ring is = tt
filled_says {B} {H} at.Parting ring is = tt
filled_says {B} {H} (at.Over ended) ring is = absurd is

pub filled_ring : {B H : Type 0} (a : At B H) (ring : List ℕ) → IsFilledAt a ring → 0 < length ring
filled_ring {B} {H} at.Reading ring is = absurd is
filled_ring {B} {H} at.Asked ring is = absurd is
filled_ring {B} {H} (at.Refused fault) ring is = absurd is
filled_ring {B} {H} (at.Answering f) ring is = omega (arith, is.0)
filled_ring {B} {H} (at.Writing keeps) ring is = is
filled_ring {B} {H} (at.Handing h) ring is = is
filled_ring {B} {H} at.Refusing ring is = is
filled_ring {B} {H} (at.Listening h) ring is = absurd is
filled_ring {B} {H} (at.Speaking h) ring is = is
filled_ring {B} {H} at.Parting ring is = is
filled_ring {B} {H} (at.Over ended) ring is = absurd is

-- with some bytes in the ring
pub filled_owes : {B H : Type 0} (a : At B H) (before ring : List ℕ) → IsFilledAt a before → 0 < length ring → 0 < length (owed_at a ring)
filled_owes {B} {H} at.Reading before ring is some = absurd is
filled_owes {B} {H} at.Asked before ring is some = absurd is
filled_owes {B} {H} (at.Refused fault) before ring is some = absurd is
filled_owes {B} {H} (at.Answering f) before ring is some = omega (arith, some, length-append ring f.rest.bytes)
filled_owes {B} {H} (at.Writing keeps) before ring is some = some
filled_owes {B} {H} (at.Handing h) before ring is some = some
filled_owes {B} {H} at.Refusing before ring is some = some
filled_owes {B} {H} (at.Listening h) before ring is some = absurd is
filled_owes {B} {H} (at.Speaking h) before ring is some = some
filled_owes {B} {H} at.Parting before ring is some = some
filled_owes {B} {H} (at.Over ended) before ring is some = absurd is

-- it isn't over
filled_live : {B H : Type 0} (a : At B H) (ring : List ℕ) → IsFilledAt a ring → state.Over ≡ state_at a → ⊥
filled_live {B} {H} at.Reading ring is e = absurd is
filled_live {B} {H} at.Asked ring is e = absurd is
filled_live {B} {H} (at.Refused fault) ring is e = absurd is
filled_live {B} {H} (at.Answering f) ring is e = cc
filled_live {B} {H} (at.Writing keeps) ring is e = cc
filled_live {B} {H} (at.Handing h) ring is e = cc
filled_live {B} {H} at.Refusing ring is e = cc
filled_live {B} {H} (at.Listening h) ring is e = absurd is
filled_live {B} {H} (at.Speaking h) ring is e = cc
filled_live {B} {H} at.Parting ring is e = cc
filled_live {B} {H} (at.Over ended) ring is e = absurd is

-- what the place behind a write shows
pub record SaidShown {B H : Type 0} (late : Option Late) (a b : At B H) (before ring : List ℕ) (calls : ℕ) (s s' : Seen) : Type 0 where
  pub replied : SaysOn (state_at a) (state_at b) (replied_at a calls) (replied_at b calls)
  pub why : IsOfFlush (why_at b)
  pub ends : TurnEnds late (why_at b) s s'
  pub less : state_at b ≡ state_at a → length (owed_at b ring) < length (owed_at a before)

shorter : (piece after before : List ℕ) → before ≡ piece ++ after → 0 < length piece → length after < length before
shorter piece after before is some = omega (arith, some, ap length is, length-append piece after)

shorter_with : (more piece after before : List ℕ) → before ≡ piece ++ after → 0 < length piece → length (after ++ more) < length (before ++ more)
shorter_with more piece after before is some =
    omega (arith, some, ap length is, length-append piece after, length-append after more, length-append before more)

-- some bytes of the ring were taken, and some are left
pub said_on : {B H : Type 0} (late : Option Late) (a : At B H) (before piece after : List ℕ) (calls : ℕ) (s s' : Seen) → IsFilledAt a before → before ≡ piece ++ after
    → 0 < length piece → s'.over ≡ s.over → SaidShown late a a before after calls s s'
said_on {B} {H} late at.Reading before piece after calls s s' filled is some over = absurd filled
said_on {B} {H} late at.Asked before piece after calls s s' filled is some over = absurd filled
said_on {B} {H} late (at.Refused fault) before piece after calls s s' filled is some over = absurd filled
said_on {B} {H} late (at.Answering f) before piece after calls s s' filled is some over =
    record { replied = (refl, refl); why = tt; ends = over; less = λ e. shorter_with f.rest.bytes piece after before is some }
said_on {B} {H} late (at.Writing keeps) before piece after calls s s' filled is some over =
    record { replied = (refl, refl); why = tt; ends = over; less = λ e. shorter piece after before is some }
said_on {B} {H} late (at.Handing h) before piece after calls s s' filled is some over =
    record { replied = (refl, refl); why = tt; ends = over; less = λ e. shorter piece after before is some }
said_on {B} {H} late at.Refusing before piece after calls s s' filled is some over =
    record { replied = (refl, refl); why = tt; ends = over; less = λ e. shorter piece after before is some }
said_on {B} {H} late (at.Listening h) before piece after calls s s' filled is some over = absurd filled
said_on {B} {H} late (at.Speaking h) before piece after calls s s' filled is some over =
    record { replied = refl; why = tt; ends = over; less = λ e. shorter piece after before is some }
said_on {B} {H} late at.Parting before piece after calls s s' filled is some over =
    record { replied = refl; why = tt; ends = over; less = λ e. shorter piece after before is some }
said_on {B} {H} late (at.Over ended) before piece after calls s s' filled is some over = absurd filled

-- it ended in this write
pub said_over : {B H : Type 0} (late : Option Late) (a : At B H) (w : Why) (before ring : List ℕ) (calls : ℕ) (s s' : Seen) → IsFilledAt a before → IsOfFlush (Some w)
    → TurnEnds late (Some w) s s' → SaidShown late a (at.Over w) before ring calls s s'
said_over {B} {H} late a w before ring calls s s' filled of ends =
    record { replied = tt; why = of; ends = ends; less = λ e. absurd (filled_live a before filled e) }

below : (calls : ℕ) → 0 < calls → calls - 1 < calls
below calls some = omega (arith, some)

-- the connection went on behind a reply
fed_behind : {B H : Type 0} (late : Option Late) (keeps : Bool) (b : At B H) (before ring : List ℕ) (calls : ℕ) (s s' : Seen) (fresh new : Intake) (unfed left : List ℕ)
    → FeedsHeld fresh unfed new left b → 0 < length before → 0 < calls → s'.over ≡ s.over → SaidShown late (at.Writing keeps) b before ring calls s s'
fed_behind {B} {H} late keeps at.Reading before ring calls s s' fresh new unfed left f filled some over =
    record { replied = (refl, below calls some); why = tt; ends = over; less = λ e. cc }
fed_behind {B} {H} late keeps at.Asked before ring calls s s' fresh new unfed left f filled some over =
    record { replied = (refl, below calls some); why = tt; ends = over; less = λ e. cc }
fed_behind {B} {H} late keeps (at.Refused fault) before ring calls s s' fresh new unfed left f filled some over =
    record { replied = (refl, below calls some); why = tt; ends = over; less = λ e. cc }
fed_behind {B} {H} late keeps (at.Answering framer) before ring calls s s' fresh new unfed left f filled some over = absurd f
fed_behind {B} {H} late keeps (at.Writing k) before ring calls s s' fresh new unfed left f filled some over = absurd f
fed_behind {B} {H} late keeps (at.Handing now) before ring calls s s' fresh new unfed left f filled some over = absurd f
fed_behind {B} {H} late keeps at.Refusing before ring calls s s' fresh new unfed left f filled some over = absurd f
fed_behind {B} {H} late keeps (at.Listening now) before ring calls s s' fresh new unfed left f filled some over = absurd f
fed_behind {B} {H} late keeps (at.Speaking now) before ring calls s s' fresh new unfed left f filled some over = absurd f
fed_behind {B} {H} late keeps at.Parting before ring calls s s' fresh new unfed left f filled some over = absurd f
fed_behind {B} {H} late keeps (at.Over why.Closed) before ring calls s s' fresh new unfed left f filled some over = absurd f
fed_behind {B} {H} late keeps (at.Over why.PeerEnd) before ring calls s s' fresh new unfed left f filled some over = absurd f
fed_behind {B} {H} late keeps (at.Over (why.Idle by)) before ring calls s s' fresh new unfed left f filled some over = absurd f
fed_behind {B} {H} late keeps (at.Over (why.TimedOut since moment)) before ring calls s s' fresh new unfed left f filled some over = absurd f
fed_behind {B} {H} late keeps (at.Over (why.Stalled since moment)) before ring calls s s' fresh new unfed left f filled some over = absurd f
fed_behind {B} {H} late keeps (at.Over (why.Unread level)) before ring calls s s' fresh new unfed left f filled some over = absurd f
fed_behind {B} {H} late keeps (at.Over why.ReadFailed) before ring calls s s' fresh new unfed left f filled some over = absurd f
fed_behind {B} {H} late keeps (at.Over why.WriteFailed) before ring calls s s' fresh new unfed left f filled some over = absurd f
fed_behind {B} {H} late keeps (at.Over (why.Halted level)) before ring calls s s' fresh new unfed left f filled some over = absurd f
fed_behind {B} {H} late keeps (at.Over why.NoMemory) before ring calls s s' fresh new unfed left f filled some over =
    said_over late (at.Writing keeps) why.NoMemory before ring calls s s' filled tt over
fed_behind {B} {H} late keeps (at.Over why.Hijacked) before ring calls s s' fresh new unfed left f filled some over = absurd f

-- a hijacker took the connection over behind it
told_behind : {B H : Type 0} (late : Option Late) (V : Voice H) (h : H) (b : At B H) (before ring unfed left : List ℕ) (calls : ℕ) (s s' : Seen)
    → Tells V h unfed b ring left → 0 < length before → 0 < calls → s'.over ≡ s.over → SaidShown late (at.Handing h) b before ring calls s s'
told_behind {B} {H} late V h at.Reading before ring unfed left calls s s' f filled some over = absurd f
told_behind {B} {H} late V h at.Asked before ring unfed left calls s s' f filled some over = absurd f
told_behind {B} {H} late V h (at.Refused fault) before ring unfed left calls s s' f filled some over = absurd f
told_behind {B} {H} late V h (at.Answering framer) before ring unfed left calls s s' f filled some over = absurd f
told_behind {B} {H} late V h (at.Writing k) before ring unfed left calls s s' f filled some over = absurd f
told_behind {B} {H} late V h (at.Handing now) before ring unfed left calls s s' f filled some over = absurd f
told_behind {B} {H} late V h at.Refusing before ring unfed left calls s s' f filled some over = absurd f
told_behind {B} {H} late V h (at.Listening now) before ring unfed left calls s s' f filled some over =
    record { replied = below calls some; why = tt; ends = over; less = λ e. cc }
told_behind {B} {H} late V h (at.Speaking now) before ring unfed left calls s s' f filled some over =
    record { replied = below calls some; why = tt; ends = over; less = λ e. cc }
told_behind {B} {H} late V h at.Parting before ring unfed left calls s s' f filled some over =
    record { replied = below calls some; why = tt; ends = over; less = λ e. cc }
told_behind {B} {H} late V h (at.Over why.Closed) before ring unfed left calls s s' f filled some over = absurd f
told_behind {B} {H} late V h (at.Over why.PeerEnd) before ring unfed left calls s s' f filled some over = absurd f
told_behind {B} {H} late V h (at.Over (why.Idle by)) before ring unfed left calls s s' f filled some over = absurd f
told_behind {B} {H} late V h (at.Over (why.TimedOut since moment)) before ring unfed left calls s s' f filled some over = absurd f
told_behind {B} {H} late V h (at.Over (why.Stalled since moment)) before ring unfed left calls s s' f filled some over = absurd f
told_behind {B} {H} late V h (at.Over (why.Unread level)) before ring unfed left calls s s' f filled some over = absurd f
told_behind {B} {H} late V h (at.Over why.ReadFailed) before ring unfed left calls s s' f filled some over = absurd f
told_behind {B} {H} late V h (at.Over why.WriteFailed) before ring unfed left calls s s' f filled some over = absurd f
told_behind {B} {H} late V h (at.Over (why.Halted level)) before ring unfed left calls s s' f filled some over = absurd f
told_behind {B} {H} late V h (at.Over why.NoMemory) before ring unfed left calls s s' f filled some over =
    said_over late (at.Handing h) why.NoMemory before ring calls s s' filled tt over
told_behind {B} {H} late V h (at.Over why.Hijacked) before ring unfed left calls s s' f filled some over =
    said_over late (at.Handing h) why.Hijacked before ring calls s s' filled tt over

-- the reply that closes was sent whole
ended_shown : {B H : Type 0} (late : Option Late) (before ring : List ℕ) (calls : ℕ) (s s' : Seen) → 0 < length before → s'.over ≡ s.over
    → SaidShown {B = B} {H = H} late at.Refusing (at.Over (ended_by late)) before ring calls s s'
ended_shown {B} {H} None before ring calls s s' f over = said_over None at.Refusing why.Closed before ring calls s s' f tt over
ended_shown {B} {H} (Some late) before ring calls s s' f over =
    said_over (Some late) at.Refusing (why.TimedOut late.since late.now) before ring calls s s' f tt (refl, over)

-- all of the ring was taken
pub said_whole : {B H : Type 0} (late : Option Late) (V : Voice H) (a b : At B H) (before ring : List ℕ) (calls : ℕ) (s s' : Seen) (old new : Intake) (unfed left : List ℕ) (m : Ending)
    → CompletesTo late V a old unfed b new left ring → IsFilledAt a before → RestsAt a old unfed before calls m → s'.over ≡ s.over
    → SaidShown late a b before ring calls s s'
said_whole {B} {H} late V at.Reading b before ring calls s s' old new unfed left m e f rests over = absurd f
said_whole {B} {H} late V at.Asked b before ring calls s s' old new unfed left m e f rests over = absurd f
said_whole {B} {H} late V (at.Refused fault) b before ring calls s s' old new unfed left m e f rests over = absurd f
said_whole {B} {H} late V (at.Answering framer) b before ring calls s s' old new unfed left m e f rests over =
    subst (λ (d : At B H). SaidShown late (at.Answering framer) d before ring calls s s') (sym e.0)
    (subst (λ (z : List ℕ). SaidShown {B = B} {H = H} late (at.Answering framer) (at.Answering framer) before z calls s s') (sym e.2)
    (record {
      replied = (refl, refl);
      why = tt;
      ends = over;
      less = λ x. more (filled_ring {B = B} {H = H} (at.Answering framer) before f);
    }))
  where
    more : 0 < length before → length ([] ++ framer.rest.bytes) < length (before ++ framer.rest.bytes)
    more some = omega (arith, some, length-append before framer.rest.bytes)
said_whole {B} {H} late V (at.Writing true) b before ring calls s s' old new unfed left m e f rests over =
    fed_behind late true b before ring calls s s' e.0 new unfed left e.2 f rests.1.1.0 over
said_whole {B} {H} late V (at.Writing false) b before ring calls s s' old new unfed left m e f rests over =
    subst (λ (d : At B H). SaidShown late (at.Writing false) d before ring calls s s') (sym e.0)
    (said_over late (at.Writing false) why.Closed before ring calls s s' f tt over)
said_whole {B} {H} late V (at.Handing h) b before ring calls s s' old new unfed left m e f rests over =
    told_behind late V h b before ring unfed left calls s s' e f rests.1 over
said_whole {B} {H} late V at.Refusing b before ring calls s s' old new unfed left m e f rests over =
    subst (λ (d : At B H). SaidShown late at.Refusing d before ring calls s s') (sym e.0)
    (ended_shown late before ring calls s s' f over)
said_whole {B} {H} late V (at.Listening h) b before ring calls s s' old new unfed left m e f rests over = absurd f
said_whole {B} {H} late V (at.Speaking h) b before ring calls s s' old new unfed left m e f rests over =
    subst (λ (d : At B H). SaidShown late (at.Speaking h) d before ring calls s s') (sym e.0)
    (subst (λ (z : List ℕ). SaidShown {B = B} {H = H} late (at.Speaking h) (at.Listening h) before z calls s s') (sym e.2)
    (record { replied = refl; why = tt; ends = over; less = λ x. f }))
said_whole {B} {H} late V at.Parting b before ring calls s s' old new unfed left m e f rests over =
    subst (λ (d : At B H). SaidShown late at.Parting d before ring calls s s') (sym e.0)
    (said_over late at.Parting why.Hijacked before ring calls s s' f tt over)
said_whole {B} {H} late V (at.Over ended) b before ring calls s s' old new unfed left m e f rests over = absurd f

-- the link took nothing yet
pub waiting_shown : {B H : Type 0} (late : Option Late) (a : At B H) (ring : List ℕ) (calls : ℕ) (s s' : Seen) → IsFilledAt a ring → s'.over ≡ s.over
    → SaysOn (state_at a) (state_at a) (replied_at a calls) (replied_at a calls) × IsOfFlush (why_at a) × TurnEnds late (why_at a) s s'
waiting_shown {B} {H} late at.Reading ring calls s s' filled over = absurd filled
waiting_shown {B} {H} late at.Asked ring calls s s' filled over = absurd filled
waiting_shown {B} {H} late (at.Refused fault) ring calls s s' filled over = absurd filled
waiting_shown {B} {H} late (at.Answering f) ring calls s s' filled over = ((refl, refl), tt, over)
waiting_shown {B} {H} late (at.Writing keeps) ring calls s s' filled over = ((refl, refl), tt, over)
waiting_shown {B} {H} late (at.Handing h) ring calls s s' filled over = ((refl, refl), tt, over)
waiting_shown {B} {H} late at.Refusing ring calls s s' filled over = ((refl, refl), tt, over)
waiting_shown {B} {H} late (at.Listening h) ring calls s s' filled over = absurd filled
waiting_shown {B} {H} late (at.Speaking h) ring calls s s' filled over = (refl, tt, over)
waiting_shown {B} {H} late at.Parting ring calls s s' filled over = (refl, tt, over)
waiting_shown {B} {H} late (at.Over ended) ring calls s s' filled over = absurd filled
