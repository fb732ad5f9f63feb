-- That the levels that a connection was told and keeps stay within their bound, and that at level 0 no drain ends it.
use Rattle.std.proofs.Common.{◌≡◌, ◌≢◌, ℕ, zero, suc, ◌≤◌, ◌<◌, Bool, true, false, List, [], ◌∷◌, refl, sym, ap, subst, ◌∙◌, arith, Option, None, Some, ◌⊎◌, inl, inr, nat_lt}
use Rattle.std.specs.Prelude.{length, if◌then◌else◌}
use Rattle.std.specs.Prelude.{IsSome}
use Rattle.rack_types.specs.declared.peer.Local.{Local}
use Rattle.rack_outside.specs.Link.{Seen}
use Rattle.talk_core.specs.declared.ended.Ended.{Ended}
use Rattle.talk_core.specs.declared.ended.IdleBy.TheVariants.{Clock, Drain}
use Rattle.talk_core.specs.declared.ended.Life.{Life}
use Rattle.talk_core.specs.declared.ended.Why.{Why}
use Rattle.talk_core.specs.declared.ended.Why.TheVariants as why
use Rattle.talk_core.specs.Lives.{lives_limit}
use Rattle.talk_core.specs.Ended.{Past, past_of, ByDrain, WhyByDrain, IsUndrained, EndsBy}
use Rattle.talk_core.specs.Tail.{Voice, goes_on}
use Rattle.talk_core.specs.Teller.{Stacks, Teller, tell}
use Rattle.talk_core.proofs.CallerLemmas.{one_hijack}
use Rattle.conn_steps.specs.declared.moments.Ending.{Ending}
use Rattle.conn_steps.specs.declared.moments.Late.{Late}
use Rattle.conn_steps.specs.declared.state.Next.{Next}
use Rattle.conn_steps.specs.declared.state.State.{State}
use Rattle.conn_steps.specs.declared.state.State.TheVariants as state
use Rattle.conn_steps.specs.declared.state.Tick.{Tick}
use Rattle.conn_steps.specs.declared.state.Tick.TheVariants as tick
use Rattle.conn_core.specs.Calls.{Feeds, Turns, Flushes}
use Rattle.conn_steps.specs.Ends.{TurnEnds, IsOfFeed}
use Rattle.conn_steps.specs.Keeps.{Drains, reaching, no_bytes}
use Rattle.conn_steps.specs.Moments.{stuck_since, quiet_since}
use Rattle.conn_steps.specs.Opened.{untold}
use Rattle.conn_steps.specs.Owner.{ended_as, late_as, Ticks, drained_reading, drained_hijacked, drained_in, drained_from, drained}
use Rattle.conn_steps.specs.Plain.{EndsPlainly, IsPlainEnd}
use Rattle.conn_steps.specs.Shown.{Shown}
use Rattle.conn_core.specs.Transfer.{IsBareWhy, Transfer}
use Rattle.conn_core.specs.Within.{LevelUpTo, ToldUpTo}
use Rattle.conn_steps.proofs.CallerLemmas.{plain_ends}

-- a call's own why keeps no level
own_level : (most : ℕ) (late : Option Late) (w : Option Why) (s u : Seen) → TurnEnds late w s u → LevelUpTo most w
own_level most late None s u h = tt
own_level most late (Some why.Closed) s u h = tt
own_level most late (Some why.PeerEnd) s u h = tt
own_level most late (Some (why.Idle by)) s u h = absurd h
own_level most late (Some (why.TimedOut since now)) s u h = tt
own_level most late (Some (why.Stalled since now)) s u h = absurd h
own_level most late (Some (why.Unread level)) s u h = absurd h
own_level most late (Some why.ReadFailed) s u h = tt
own_level most late (Some why.WriteFailed) s u h = tt
own_level most late (Some (why.Halted level)) s u h = absurd h
own_level most late (Some why.NoMemory) s u h = tt
own_level most late (Some why.Hijacked) s u h = tt

feed_level : (most : ℕ) (w : Option Why) → IsOfFeed w → LevelUpTo most w
feed_level most None h = tt
feed_level most (Some why.Closed) h = absurd h
feed_level most (Some why.PeerEnd) h = tt
feed_level most (Some (why.Idle by)) h = absurd h
feed_level most (Some (why.TimedOut since now)) h = absurd h
feed_level most (Some (why.Stalled since now)) h = absurd h
feed_level most (Some (why.Unread level)) h = absurd h
feed_level most (Some why.ReadFailed) h = tt
feed_level most (Some why.WriteFailed) h = absurd h
feed_level most (Some (why.Halted level)) h = absurd h
feed_level most (Some why.NoMemory) h = tt
feed_level most (Some why.Hijacked) h = tt

level_more : (most more : ℕ) (w : Option Why) → most ≤ more → LevelUpTo most w → LevelUpTo more w
level_more most more None le h = tt
level_more most more (Some why.Closed) le h = tt
level_more most more (Some why.PeerEnd) le h = tt
level_more most more (Some (why.Idle (Clock since now))) le h = tt
level_more most more (Some (why.Idle (Drain level))) le h = omega (arith, le, h)
level_more most more (Some (why.TimedOut since now)) le h = tt
level_more most more (Some (why.Stalled since now)) le h = tt
level_more most more (Some (why.Unread level)) le h = omega (arith, le, h)
level_more most more (Some why.ReadFailed) le h = tt
level_more most more (Some why.WriteFailed) le h = tt
level_more most more (Some (why.Halted level)) le h = omega (arith, le, h)
level_more most more (Some why.NoMemory) le h = tt
level_more most more (Some why.Hijacked) le h = tt

bare_level : (most : ℕ) (w : Option Why) → IsBareWhy w → LevelUpTo most w
bare_level most None b = tt
bare_level most (Some why.Closed) b = tt
bare_level most (Some why.PeerEnd) b = tt
bare_level most (Some (why.Idle by)) b = absurd b
bare_level most (Some (why.TimedOut since now)) b = absurd b
bare_level most (Some (why.Stalled since now)) b = absurd b
bare_level most (Some (why.Unread level)) b = absurd b
bare_level most (Some why.ReadFailed) b = tt
bare_level most (Some why.WriteFailed) b = tt
bare_level most (Some (why.Halted level)) b = absurd b
bare_level most (Some why.NoMemory) b = tt
bare_level most (Some why.Hijacked) b = tt

or_more : {A : Type 0} (most more : ℕ) → most ≤ more → A ⊎ (1 ≤ most) → A ⊎ (1 ≤ more)
or_more {A} most more le h = elim h [ inl a ↦ inl a | inr some ↦ inr (let e : 1 ≤ more = omega (arith, le, some) in e) ]

-- of one of which nothing was told, and at a higher level
pub transfer_told : (local : Local) (least : ℕ) (marked : Bool) (c : Shown) → Transfer local least marked c → ToldUpTo 0 c
transfer_told local least marked c h =
    let told : c.ending.told ≡ 0 = ap (λ (x : Ending). x.told) h.untold_is in
    let none : c.ending.told ≤ 0 = omega (arith, told) in
    record {
      told = none;
      closing = inl (ap (λ (x : Ending). x.closing) h.untold_is);
      dismissed = inl (ap (λ (x : Ending). x.dismissed) h.untold_is);
      why = bare_level 0 c.why h.why;
    }

pub told_more : (most more : ℕ) (c : Shown) → most ≤ more → ToldUpTo most c → ToldUpTo more c
told_more most more c le h =
    let told : c.ending.told ≤ more = omega (arith, le, h.told) in
    record { told = told; closing = or_more most more le h.closing; dismissed = or_more most more le h.dismissed; why = level_more most more c.why le h.why }

-- what a call of its own leaves
told_drains : (most : ℕ) (o n : Shown) → ToldUpTo most o → Drains o n → LevelUpTo most n.why → ToldUpTo most n
told_drains most o n h d level =
    let told : n.ending.told ≤ most = omega (arith, d.told, h.told) in
    record {
      told = told;
      closing = elim d.closing [
        | inl same ↦ elim h.closing [ inl none ↦ inl (same ∙ none) | inr some ↦ inr some ]
        | inr once ↦ inr (let some : 1 ≤ most = omega (arith, once.1, h.told) in some)
      ];
      dismissed = elim h.dismissed [ inl none ↦ inl (d.dismissed ∙ none) | inr some ↦ inr some ];
      why = level;
    }

abbrev pub reached_told : (most now : ℕ) (c : Shown) → ToldUpTo most c → ToldUpTo most (reaching now c)
reached_told most now c h = record { told = h.told; closing = h.closing; dismissed = h.dismissed; why = h.why }

pub feed_told : (most now : ℕ) (r : Next) (o n : Shown) (s u : Seen) → ToldUpTo most o → Feeds now r (reaching now o) n s u → ToldUpTo most n
feed_told most now r o n s u h f =
    let same : n.ending ≡ o.ending = f.keeps.ending in
    let told : n.ending.told ≤ most = subst (λ (x : Ending). x.told ≤ most) (sym same) h.told in
    record {
      told = told;
      closing = subst (λ (x : Ending). (x.closing ≡ None) ⊎ (1 ≤ most)) (sym same) h.closing;
      dismissed = subst (λ (x : Ending). (x.dismissed ≡ false) ⊎ (1 ≤ most)) (sym same) h.dismissed;
      why = feed_level most n.why f.why;
    }

pub turn_told : (most now : ℕ) (r : Next) (o n : Shown) (s u : Seen) → ToldUpTo most o → Turns now r (reaching now o) n s u → ToldUpTo most n
turn_told most now r o n s u h f =
    told_drains most (reaching now o) n (reached_told most now o h) f.drains (own_level most None n.why s u f.ends)

pub flush_told : (most now : ℕ) (r : Next) (o n : Shown) (s u : Seen) → ToldUpTo most o → Flushes now r (reaching now o) n s u → ToldUpTo most n
flush_told most now r o n s u h f =
    told_drains most (reaching now o) n (reached_told most now o h) f.drains (own_level most o.ending.late n.why s u f.ends)

-- and one of its owner
pub ended_told : (most : ℕ) (w : Why) (c : Shown) → LevelUpTo most (Some w) → ToldUpTo most c → ToldUpTo most (ended_as w c)
ended_told most w c level h = record { told = h.told; closing = h.closing; dismissed = h.dismissed; why = level }

pub tick_told : (t : Tick) (most now : ℕ) (o n : Shown) → ToldUpTo most o → Ticks t now (reaching now o) n → ToldUpTo most n
tick_told tick.Still most now o n h k = subst (λ (x : Shown). ToldUpTo most x) (sym k.3) (reached_told most now o h)
tick_told tick.Write most now o n h k =
    let left : ToldUpTo most (late_as k.1.0 now (reaching now o)) = record { told = h.told; closing = h.closing; dismissed = h.dismissed; why = h.why } in
    subst (λ (x : Shown). ToldUpTo most x) (sym k.1.2) left
tick_told tick.Over most now o n h k =
    elim k [
      | inl stalled ↦ subst (λ (x : Shown). ToldUpTo most x) (sym stalled.1)
          (ended_told most (why.Stalled (stuck_since o.moments) now) (reaching now o) tt (reached_told most now o h))
      | inr idle ↦ subst (λ (x : Shown). ToldUpTo most x) (sym idle.2)
          (ended_told most (why.Idle (Clock (quiet_since o.moments) now)) (reaching now o) tt (reached_told most now o h))
    ]

pub placed_told : (most : ℕ) (lives : List Life) (c : Shown) → ToldUpTo most c
    → ToldUpTo most (record c { lives = lives; ending = record c.ending { told = 0 } })
placed_told most lives c h =
    let none : 0 ≤ most = omega arith in
    record { told = none; closing = h.closing; dismissed = h.dismissed; why = h.why }

hijacked_told : (none : Bool) (most : ℕ) (c : Shown) → ToldUpTo most c → ToldUpTo most (drained_hijacked none c)
hijacked_told true most c h = ended_told most why.Hijacked c tt h
hijacked_told false most c h = record { told = h.told; closing = h.closing; dismissed = h.dismissed; why = h.why }

in_told : (s : State) (level most : ℕ) (c : Shown) → level ≤ most → 1 ≤ most → ToldUpTo most c
    → ((begun : Option ℕ) → ToldUpTo most (drained_reading begun level c)) → ToldUpTo most (drained_in s level c)
in_told state.Reading level most c le some h reading = reading c.moments.begun
in_told state.Ready level most c le some h reading = h
in_told state.Answering level most c le some h reading = h
in_told state.Hijacked level most c le some h reading =
    hijacked_told (no_bytes c.owed) most (record c { ending = record c.ending { dismissed = true } })
    (record { told = h.told; closing = h.closing; dismissed = inr some; why = h.why })
in_told state.Over level most c le some h reading = h

room_told : (room : Bool) (level most : ℕ) (c : Shown) → level ≤ most → ToldUpTo most c
    → ToldUpTo most (if room then c else ended_as (why.Idle (Drain level)) c)
room_told true level most c le h = h
room_told false level most c le h = ended_told most (why.Idle (Drain level)) c le h

reading_told : (begun : Option ℕ) (level most : ℕ) (c : Shown) → level ≤ most → ToldUpTo most c → ToldUpTo most (drained_reading begun level c)
reading_told None level most c le h = room_told (nat_lt (length c.lives) lives_limit) level most c le h
reading_told (Some since) level most c le h = h

from_told : (taken level most : ℕ) (c : Shown) → level ≤ most → 1 ≤ most → ToldUpTo most c → ToldUpTo most (drained_from taken level c)
from_told zero level most c le some h = h
from_told (suc n) level most c le some h = in_told c.state level most c le some h (λ begun. reading_told begun level most c le h)

pub drained_told : (level most : ℕ) (c : Shown) → 1 ≤ level → level ≤ most → ToldUpTo most c → ToldUpTo most (drained level c)
drained_told level most c one le h =
    let some : 1 ≤ most = omega (arith, one, le) in
    from_told c.taken level most (record c { ending = record c.ending { told = level } }) le some
    (record { told = le; closing = h.closing; dismissed = h.dismissed; why = h.why })

-- no drain is told by a why that keeps no level
unlevelled : {H : Type 0} (w : Why) (V : Voice H) (T : Teller H) (m : Ending) (p : Past) → m.dismissed ≡ false → LevelUpTo 0 (Some w)
    → EndsPlainly m w V T p → ¬ (WhyByDrain w V T p)
unlevelled why.Closed V T m p left level e h = h
unlevelled why.PeerEnd V T m p left level e h = h
unlevelled (why.Idle (Clock since now)) V T m p left level e h = h
unlevelled (why.Idle (Drain l)) V T m p left level e h = omega (arith, level, e.3.1)
unlevelled (why.TimedOut since now) V T m p left level e h = h
unlevelled (why.Stalled since now) V T m p left level e h = h
unlevelled (why.Unread l) V T m p left level e h = omega (arith, level, e.4)
unlevelled why.ReadFailed V T m p left level e h = h
unlevelled why.WriteFailed V T m p left level e h = h
unlevelled (why.Halted l) V T m p left level e h = omega (arith, level, e.0)
unlevelled why.NoMemory V T m p left level e h = h
unlevelled {H} why.Hijacked V T m p left level e h =
    let one = one_hijack T p h.0 e.h h.1 e.rest h.2 e.said h.3 e.whole in
    let goes : goes_on V e.h e.rest p.over ≡ true =
    subst (λ (x : List ℕ). goes_on V e.h x p.over ≡ true) one.1 (subst (λ (x : H). goes_on V x h.1 p.over ≡ true) one.0 h.4) in
    let leaves = e.leaves goes in
    cc

none_closing : (k : Option ℕ) → k ≡ None → IsSome k → ⊥
none_closing None e h = cc
none_closing (Some n) e h = cc

-- one that was told nothing is not ended by a drain
pub no_drain : {L H : Type 0} (seen : L → Seen) (V : Voice H) (S : Stacks H) (local : Local) (peer : List ℕ) (c : Shown) (e : Ended L)
    → ToldUpTo 0 c → c.why ≡ Some e.why → e.closing ≡ c.ending.closing → IsPlainEnd L seen V S local peer c.ending e
    → IsUndrained L seen V S local peer e
no_drain {L} {H} seen V S local peer c e told is closing h =
    let T : Teller H = tell S e.lives.items local peer e.closing in
    let p : Past = past_of (seen e.link) e h.given h.sent h.over in
    let none : e.closing ≡ None = closing ∙ elim told.closing [ inl k ↦ k | inr some ↦ absurd (omega (arith, some)) ] in
    let stays : c.ending.dismissed ≡ false = elim told.dismissed [ inl k ↦ k | inr some ↦ absurd (omega (arith, some)) ] in
    let level : LevelUpTo 0 (Some e.why) = subst (λ (x : Option Why). LevelUpTo 0 x) is told.why in
    record {
      given = h.given;
      sent = h.sent;
      over = h.over;
      shows = h.shows;
      ends = plain_ends c.ending e.why V T p h.ends;
      undrained = λ by. elim by [
        | inl some ↦ none_closing e.closing none some
        | inr is_drain ↦ unlevelled e.why V T c.ending p stays level h.ends is_drain
      ];
    }
