-- What stands behind a drain that was told.
use Rattle.std.proofs.Common.{◌≡◌, ℕ, ◌≤◌, zero, suc, nat_lt, Bool, true, false, if◌then◌else◌, List, [], length, refl, sym, subst, Option, None, Some, inl, inr}
use Rattle.rack_types.specs.declared.body.Body.{Ghosts}
use Rattle.rack_types.specs.declared.peer.Local.{Local}
use Rattle.rack_types.specs.Request.{Parts}
use Rattle.message_framing.specs.declared.intake.Intake.{Intake}
use Rattle.reply_framing.specs.declared.types.After.{After}
use Rattle.reply_framing.specs.declared.types.After.TheVariants.{Keep, Close, Hijack}
use Rattle.reply_framing.specs.Reply.{body_after}
use Rattle.rack_outside.specs.Link.{Seen}
use Rattle.talk_core.specs.declared.ended.Life.{Life}
use Rattle.talk_core.specs.declared.ended.Why.TheVariants as why
use Rattle.talk_core.specs.Lives.{AreLives, lives_limit}
use Rattle.talk_core.specs.Ended.{NeedsDrain, SentWhole}
use Rattle.talk_core.specs.declared.ended.IdleBy.TheVariants.{Clock, Drain}
use Rattle.talk_core.specs.declared.ended.Why.{Why}
use Rattle.talk_core.specs.Stands.{hands_over, Stands}
use Rattle.talk_core.specs.Tail.{Voice, goes_on}
use Rattle.talk_core.specs.Talk.{Stop, wanting, hijacked}
use Rattle.talk_core.specs.Teller.{Stacks, Teller, tell}
use Rattle.conn_steps.specs.declared.inside.Inside.{Inside}
use Rattle.conn_steps.specs.declared.moments.Ending.{Ending}
use Rattle.conn_steps.specs.declared.moments.Late.{Late}
use Rattle.conn_steps.specs.declared.at.At.{At}
use Rattle.conn_steps.specs.declared.at.At.TheVariants as at
use Rattle.conn_steps.specs.declared.state.State.{State}
use Rattle.conn_steps.specs.declared.state.State.TheVariants as state
use Rattle.conn_steps.specs.Holds.{Kept, past, Between, Replying, Handed, Refuses, HoldsAt, StandsAt, HoldsBy}
use Rattle.conn_steps.specs.Owner.{ended_as, drained, drained_from, drained_in, drained_hijacked, drained_reading}
use Rattle.conn_steps.specs.At.{state_at, dismissed_at}
use Rattle.conn_steps.specs.Plain.{EndsPlainly}
use Rattle.conn_steps.specs.Rests.{GoesOn, after_of, RestsAt, Begins}
use Rattle.conn_steps.specs.Keeps.{no_bytes}
use Rattle.conn_steps.specs.Shown.{Shown, shows}
use Rattle.conn_steps.proofs.HijackStands.{parted}

-- a drain of this level was told: what ends only by one may end
pub told_holds : {B H : Type 0} (V : Voice H) (T : Teller H) (s : Seen) (peer : List ℕ) (a : At B H) (c : Kept) (level : ℕ) → 1 ≤ level
    → StandsAt V T s peer a c → StandsAt V T s peer a (record c { ending = record c.ending { told = level } })
told_holds {B} {H} V T s peer a c level some h = record {
  given = h.given;
  sent = h.sent;
  over = h.over;
  shows = h.shows;
  counts = h.counts;
  at = go a h.at;
}
  where
    d : Kept
    d = record c { ending = record c.ending { told = level } }

    between : (now : List ℕ) → Between V T h.over h.given h.sent c now → Between V T h.over h.given h.sent d now
    between now x = record { fed = x.fed; ring = x.ring; live = x.live; unended = x.unended; stands = x.stands }

    replying : (k : ℕ) (r : Parts) (behind : List ℕ) → Replying V T h.over h.given h.sent c k r behind → Replying V T h.over h.given h.sent d k r behind
    replying k r behind x = record { count = x.count; live = x.live; closes = x.closes; stands = x.stands }

    refusing : (late : Option Late) → Refuses late V T h.over h.given h.sent c → Refuses late V T h.over h.given h.sent d
    refusing None x = x
    refusing (Some late) x = x

    drained : (goes : Bool) → NeedsDrain goes level
    drained true = some
    drained false = tt

    whole : (stop : Stop) (rest said : List ℕ) → SentWhole T (past s c h.given h.sent h.over) stop rest said
        → SentWhole T (past s d h.given h.sent h.over) stop rest said
    whole stop rest said x = record { asked = x.asked; talk = x.talk; calls_is = x.calls_is; said_is = x.said_is; closes = x.closes }

    ends : (w : Why) → EndsPlainly c.ending w V T (past s c h.given h.sent h.over)
        → EndsPlainly c.ending w V T (past s d h.given h.sent h.over)
    ends why.Closed x = (x.0, x.1, x.2, whole x.0 x.1 h.sent x.3)
    ends why.PeerEnd x = (x.0, whole wanting x.0 h.sent x.1, x.2)
    ends (why.Idle (Clock since now)) x = (x.0, whole wanting x.0 h.sent x.1, x.2, x.3)
    ends (why.Idle (Drain told)) x = (x.0, whole wanting x.0 h.sent x.1, x.2, x.3)
    ends (why.TimedOut since now) x = (x.0, x.1, whole wanting x.0 x.1 x.2, x.3, x.4, x.5)
    ends (why.Stalled since now) x = (x.0, record { word = x.1.word; untimed = x.1.untimed; partly = x.1.partly }, x.2, x.3)
    ends (why.Unread told) x = x
    ends why.ReadFailed x = (
      x.0,
      elim x.1 [
        | inl y ↦ inl (y.0, y.1, y.2, whole y.0 y.1 h.sent y.3)
        | inr y ↦ inr (record { word = y.word; lacks = y.lacks; partly = y.partly; taken = y.taken })
      ],
    )
    ends why.WriteFailed x = (x.0, (x.1.0, record { word = x.1.1.word; untimed = x.1.1.untimed; partly = x.1.1.partly }, x.1.2))
    ends (why.Halted told) x = (x.0, (x.1.0, record { word = x.1.1.word; untimed = x.1.1.untimed; partly = x.1.1.partly }))
    ends why.NoMemory x = (x.0, record { word = x.1.word; untimed = x.1.untimed; partly = x.1.partly })
    ends why.Hijacked x = record {
      h = x.h;
      rest = x.rest;
      said = x.said;
      whole = record { whole = whole hijacked x.rest x.said x.whole.whole; hijacker = x.whole.hijacker };
      sent = x.sent;
      drain = drained (goes_on V x.h x.rest h.over);
      leaves = x.leaves;
    }

    go : (b : At B H) → HoldsAt b V T s h.over h.given h.sent c → HoldsAt b V T s h.over h.given h.sent d
    go at.Reading x = (x.0, x.1, x.2, between x.0 x.3)
    go at.Asked x = (x.0, x.1, x.2, between x.0 x.3)
    go (at.Refused f) x = (x.0, x.1, x.2, between x.0 x.3)
    go (at.Answering f) x = (x.0, x.1, x.2, x.3, replying x.0 x.1 f.rest.bytes x.4)
    go (at.Writing keeps) x = (x.0, x.1, x.2, replying x.0 x.1 [] x.3)
    go (at.Handing who) x = (x.0, x.1, x.2, x.3, replying x.0 x.1 [] x.4)
    go at.Refusing x = refusing c.ending.late x
    go (at.Listening who) x = record {
      handed = record { k = x.handed.k; request = x.handed.request; first = x.handed.first; rest = x.handed.rest; count = x.handed.count; closes = x.handed.closes; stands = x.handed.stands };
      live = x.live;
      goes = x.goes;
      behind = x.behind;
    }
    go (at.Speaking who) x = record {
      handed = record { k = x.handed.k; request = x.handed.request; first = x.handed.first; rest = x.handed.rest; count = x.handed.count; closes = x.handed.closes; stands = x.handed.stands };
      live = x.live;
      goes = x.goes;
      behind = x.behind;
    }
    go at.Parting x = record {
      handed = record { k = x.handed.k; request = x.handed.request; first = x.handed.first; rest = x.handed.rest; count = x.handed.count; closes = x.handed.closes; stands = x.handed.stands };
      ended = drained (goes_on V x.handed.first x.handed.rest h.over);
      leaves = x.leaves;
    }
    go (at.Over w) x = ends w x

-- a hijacker that was told to leave
pub left_holds : {B H : Type 0} (V : Voice H) (T : Teller H) (s : Seen) (peer : List ℕ) (a : At B H) (c : Kept) → 1 ≤ c.ending.told
    → state_at a ≡ state.Hijacked → RestsAt a c.intake c.unfed c.ring c.calls c.ending → StandsAt V T s peer a c
    → StandsAt V T s peer (dismissed_at a) (record c { ending = record c.ending { dismissed = true } })
left_holds {B} {H} V T s peer a c some unfed rests h = record {
  given = h.given;
  sent = h.sent;
  over = h.over;
  shows = h.shows;
  counts = h.counts;
  at = go a unfed rests h.at;
}
  where
    d : Kept
    d = record c { ending = record c.ending { dismissed = true } }

    drained : (goes : Bool) → NeedsDrain goes c.ending.told
    drained true = some
    drained false = tt

    go : (b : At B H) → state_at b ≡ state.Hijacked → RestsAt b c.intake c.unfed c.ring c.calls c.ending → HoldsAt b V T s h.over h.given h.sent c
        → HoldsAt (dismissed_at b) V T s h.over h.given h.sent d
    go at.Reading e r x = cc
    go at.Asked e r x = cc
    go (at.Refused f) e r x = cc
    go (at.Answering f) e r x = cc
    go (at.Writing keeps) e r x = cc
    go (at.Handing who) e r x = cc
    go at.Refusing e r x = cc
    go (at.Listening who) e r x =
        let q : Handed V T h.over h.given h.sent c = x.handed in
        parted V T s h.over h.given h.sent d q.k q.request q.first q.rest q.count q.closes
        (subst (λ (y : List ℕ). Stands V T h.over h.given h.sent q.k (hands_over q.request q.first) q.rest y) r.1 q.stands)
        (drained (goes_on V q.first q.rest h.over)) (λ goes. refl)
    go (at.Speaking who) e r x = record {
      handed = record { k = x.handed.k; request = x.handed.request; first = x.handed.first; rest = x.handed.rest; count = x.handed.count; closes = x.handed.closes; stands = x.handed.stands };
      ended = drained (goes_on V x.handed.first x.handed.rest h.over);
      leaves = λ goes. refl;
    }
    go at.Parting e r x = record {
      handed = record { k = x.handed.k; request = x.handed.request; first = x.handed.first; rest = x.handed.rest; count = x.handed.count; closes = x.handed.closes; stands = x.handed.stands };
      ended = x.ended;
      leaves = λ goes. refl;
    }
    go (at.Over w) e r x = cc

-- safety behind it
pub left_rests : {B H : Type 0} (a : At B H) (intake : Intake) (unfed ring : List ℕ) (calls : ℕ) (e m : Ending) → state_at a ≡ state.Hijacked
    → RestsAt a intake unfed ring calls e → RestsAt (dismissed_at a) intake unfed ring calls m
left_rests {B} {H} at.Reading intake unfed ring calls e m is h = cc
left_rests {B} {H} at.Asked intake unfed ring calls e m is h = cc
left_rests {B} {H} (at.Refused f) intake unfed ring calls e m is h = cc
left_rests {B} {H} (at.Answering f) intake unfed ring calls e m is h = cc
left_rests {B} {H} (at.Writing keeps) intake unfed ring calls e m is h = cc
left_rests {B} {H} (at.Handing who) intake unfed ring calls e m is h = cc
left_rests {B} {H} at.Refusing intake unfed ring calls e m is h = cc
left_rests {B} {H} (at.Listening who) intake unfed ring calls e m is h = tt
left_rests {B} {H} (at.Speaking who) intake unfed ring calls e m is h = h.1
left_rests {B} {H} at.Parting intake unfed ring calls e m is h = h
left_rests {B} {H} (at.Over w) intake unfed ring calls e m is h = cc

pub left_begins : {B H : Type 0} (a : At B H) (intake : Intake) (begun : Option ℕ) → state_at a ≡ state.Hijacked → Begins (dismissed_at a) intake begun
left_begins {B} {H} at.Reading intake begun is = cc
left_begins {B} {H} at.Asked intake begun is = cc
left_begins {B} {H} (at.Refused f) intake begun is = cc
left_begins {B} {H} (at.Answering f) intake begun is = cc
left_begins {B} {H} (at.Writing keeps) intake begun is = cc
left_begins {B} {H} (at.Handing who) intake begun is = cc
left_begins {B} {H} at.Refusing intake begun is = cc
left_begins {B} {H} (at.Listening who) intake begun is = tt
left_begins {B} {H} (at.Speaking who) intake begun is = tt
left_begins {B} {H} at.Parting intake begun is = tt
left_begins {B} {H} (at.Over w) intake begun is = cc

-- safety rests on nothing that is told of a drain
goes_on_told : (after : After) (intake : Intake) (calls : ℕ) (e : Ending) (told : ℕ) → GoesOn after intake calls e → GoesOn after intake calls (record e { told = told })
goes_on_told Keep intake calls e told h = h
goes_on_told Close intake calls e told h = h
goes_on_told Hijack intake calls e told h = h

pub rests_told : {B H : Type 0} (a : At B H) (intake : Intake) (unfed ring : List ℕ) (calls : ℕ) (e : Ending) (told : ℕ) → RestsAt a intake unfed ring calls e
    → RestsAt a intake unfed ring calls (record e { told = told })
rests_told {B} {H} at.Reading intake unfed ring calls e told h = h
rests_told {B} {H} at.Asked intake unfed ring calls e told h = h
rests_told {B} {H} (at.Refused f) intake unfed ring calls e told h = h
rests_told {B} {H} (at.Answering f) intake unfed ring calls e told h = (h.0, goes_on_told (body_after f.rest.rule f.after) intake calls e told h.1)
rests_told {B} {H} (at.Writing keeps) intake unfed ring calls e told h = (h.0, goes_on_told (after_of keeps) intake calls e told h.1)
rests_told {B} {H} (at.Handing who) intake unfed ring calls e told h = h
rests_told {B} {H} at.Refusing intake unfed ring calls e told h = h
rests_told {B} {H} (at.Listening who) intake unfed ring calls e told h = h
rests_told {B} {H} (at.Speaking who) intake unfed ring calls e told h = h
rests_told {B} {H} at.Parting intake unfed ring calls e told h = h
rests_told {B} {H} (at.Over w) intake unfed ring calls e told h = h

-- the lives, both sides, the runs and the reply that closes by draining are as before
abbrev pub SameParts : Shown → Shown → Type 0
SameParts old new =
    (new.lives ≡ old.lives) × (new.local ≡ old.local) × (new.peer ≡ old.peer) × (new.ending.closing ≡ old.ending.closing) × (new.calls ≡ old.calls)

-- so they are behind a drain
pub drained_parts : (level : ℕ) (c : Shown) → SameParts c (drained level c)
drained_parts level c = from c.taken
  where
    d : Shown
    d = record c { ending = record c.ending { told = level } }

    full : (b : Bool) → SameParts c (if b then d else ended_as (why.Idle (Drain level)) d)
    full true = (refl, refl, refl, refl, refl)
    full false = (refl, refl, refl, refl, refl)

    reading : (o : Option ℕ) → SameParts c (drained_reading o level d)
    reading None = full (nat_lt (length c.lives) lives_limit)
    reading (Some since) = (refl, refl, refl, refl, refl)

    hijacked : (b : Bool) → SameParts c (drained_hijacked b (record d { ending = record d.ending { dismissed = true } }))
    hijacked true = (refl, refl, refl, refl, refl)
    hijacked false = (refl, refl, refl, refl, refl)

    in_state : (x : State) → SameParts c (drained_in x level d)
    in_state state.Reading = reading c.moments.begun
    in_state state.Ready = (refl, refl, refl, refl, refl)
    in_state state.Answering = (refl, refl, refl, refl, refl)
    in_state state.Hijacked = hijacked (no_bytes c.owed)
    in_state state.Over = (refl, refl, refl, refl, refl)

    from : (n : ℕ) → SameParts c (drained_from n level d)
    from zero = (refl, refl, refl, refl, refl)
    from (suc n) = in_state c.state

-- it stands for its talk over the stacks as before
pub parts_hold : {B H : Type 0} {g : Ghosts B} (V : Voice H) (S : Stacks H) (old mid new : Inside B H g) (s : Seen) → mid ≡ old → SameParts (shows mid) (shows new)
    → ((T : Teller H) → HoldsBy V T s mid → HoldsBy V T s new) → AreLives old.lives.items old.calls
    → HoldsBy V (tell S old.lives.items old.local old.peer old.ending.closing) s old
    → AreLives new.lives.items new.calls × HoldsBy V (tell S new.lives.items new.local new.peer new.ending.closing) s new
parts_hold {B} {H} {g} V S old mid new s e same step are h =
    let are_mid : AreLives mid.lives.items mid.calls = subst (λ (x : Inside B H g). AreLives x.lives.items x.calls) (sym e) are in
    let h_mid : HoldsBy V (tell S mid.lives.items mid.local mid.peer mid.ending.closing) s mid =
    subst (λ (x : Inside B H g). HoldsBy V (tell S x.lives.items x.local x.peer x.ending.closing) s x) (sym e) h in
    let stands : HoldsBy V (tell S mid.lives.items mid.local mid.peer mid.ending.closing) s new =
    step (tell S mid.lives.items mid.local mid.peer mid.ending.closing) h_mid in (
      subst (λ (x : List Life). AreLives x new.calls) (sym same.0) (subst (λ (n : ℕ). AreLives mid.lives.items n) (sym same.4) are_mid),
      subst (λ (x : List Life). HoldsBy V (tell S x new.local new.peer new.ending.closing) s new) (sym same.0)
          (subst (λ (x : Local). HoldsBy V (tell S mid.lives.items x new.peer new.ending.closing) s new) (sym same.1)
          (subst (λ (x : List ℕ). HoldsBy V (tell S mid.lives.items mid.local x new.ending.closing) s new) (sym same.2)
          (subst (λ (x : Option ℕ). HoldsBy V (tell S mid.lives.items mid.local mid.peer x) s new) (sym same.3) stands))),
    )
