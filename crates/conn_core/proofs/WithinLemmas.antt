-- That the moments and levels that a connection keeps stay within their bounds.
use Rattle.std.proofs.Common.{◌≡◌, ℕ, zero, suc, ◌≤◌, max, Bool, true, false, List, [], ◌∷◌, refl, sym, ap, subst, ◌∙◌, arith, Option, None, Some, ◌⊎◌, inl, inr, nat_lt}
use Rattle.std.specs.Prelude.{length, if◌then◌else◌}
use Rattle.rack_outside.specs.Link.{Seen}
use Rattle.rack_outside.specs.declared.link.LinkRead.TheVariants as read
use Rattle.rack_outside.specs.declared.link.LinkWrite.TheVariants as write
use Rattle.talk_core.specs.declared.ended.IdleBy.TheVariants.{Clock, Drain}
use Rattle.talk_core.specs.declared.ended.Life.{Life}
use Rattle.talk_core.specs.declared.ended.Why.{Why}
use Rattle.talk_core.specs.declared.ended.Why.TheVariants as why
use Rattle.talk_core.specs.Lives.{lives_limit}
use Rattle.conn_steps.specs.declared.moments.Ending.{Ending}
use Rattle.conn_steps.specs.declared.moments.Late.{Late}
use Rattle.conn_steps.specs.declared.moments.Moments.{Moments}
use Rattle.conn_steps.specs.declared.state.Next.{Next}
use Rattle.conn_steps.specs.declared.state.State.{State}
use Rattle.conn_steps.specs.declared.state.State.TheVariants as state
use Rattle.conn_steps.specs.declared.state.Tick.{Tick}
use Rattle.conn_steps.specs.declared.state.Tick.TheVariants as tick
use Rattle.conn_core.specs.Calls.{Feeds, Turns, Flushes}
use Rattle.conn_steps.specs.Ends.{TurnEnds, IsOfFeed}
use Rattle.conn_steps.specs.Keeps.{Keeps, Move, Run, Refusal, Want, Read, Write, reaching, took_by, BegunNow, BegunFrom, BegunStill, BegunBy, no_bytes}
use Rattle.conn_steps.specs.Moments.{later, or_else, stuck_since, quiet_since}
use Rattle.conn_steps.specs.Moves.{Point, Makes, Goes, OwesRightly, turn_at, flush_at}
use Rattle.conn_steps.specs.Opened.{opened, untold, first_moments}
use Rattle.conn_steps.specs.Owner.{ended_as, late_as, IsLate, Ticks, drained_reading, drained_hijacked, drained_in, drained_from, drained}
use Rattle.conn_steps.specs.Shown.{Shown}
use Rattle.conn_core.specs.Within.{MomentsBy, IsFrom, KeptFrom, LateWithin, WhyWithin, KeptWithin, LevelUpTo, ToldUpTo}

-- what a move does to the moments
abbrev pub Once : ℕ → Option ℕ → Option ℕ → Type 0
Once now before after = (after ≡ before) ⊎ (after ≡ Some now)

abbrev pub OnceOrNone : ℕ → Option ℕ → Option ℕ → Type 0
OnceOrNone now before after = (after ≡ before) ⊎ ((after ≡ None) ⊎ (after ≡ Some now))

took_once : (now : ℕ) (move : Move) (before : Option ℕ) → Once now before (took_by now move before)
took_once now Run before = inl refl
took_once now (Refusal fault) before = inl refl
took_once now Want before = inl refl
took_once now (Read answer) before = inl refl
took_once now (Write (write.Took n)) before = inr refl
took_once now (Write write.NotYet) before = inl refl
took_once now (Write write.Failed) before = inl refl
took_once now (Write write.NoMemory) before = inl refl

begun_now : (now : ℕ) (before after : Option ℕ) → BegunNow now before after → OnceOrNone now before after
begun_now now None after h = elim h [ inl none ↦ inr (inl none) | inr some ↦ inr (inr some) ]
begun_now now (Some s) after h = elim h [ inl none ↦ inr (inl none) | inr same ↦ inl same ]

begun_anew : (now : ℕ) (before after : Option ℕ) → BegunNow now None after → OnceOrNone now before after
begun_anew now before after h = elim h [ inl none ↦ inr (inl none) | inr some ↦ inr (inr some) ]

begun_still : (now : ℕ) (before after : Option ℕ) → BegunStill before after → OnceOrNone now before after
begun_still now before after h = elim h [ inl same ↦ inl same | inr none ↦ inr (inl none) ]

begun_from : (s : State) (now : ℕ) (before after : Option ℕ) → BegunFrom s now before after → OnceOrNone now before after
begun_from state.Reading now before after h = begun_now now before after h
begun_from state.Ready now before after h = inr (inl h)
begun_from state.Answering now before after h = inl h
begun_from state.Hijacked now before after h = inl h
begun_from state.Over now before after h = inl h

begun_once : (now : ℕ) (move : Move) (s : State) (before after : Option ℕ) → BegunBy now move s before after → OnceOrNone now before after
begun_once now Run s before after h = inl h
begun_once now (Refusal fault) s before after h = inl h
begun_once now Want s before after h = inl h
begun_once now (Read (read.Bytes n)) s before after h = begun_from s now before after h
begun_once now (Read read.NotYet) s before after h = inl h
begun_once now (Read read.End) s before after h = inl h
begun_once now (Read read.Failed) s before after h = inl h
begun_once now (Write answer) state.Reading before after h = begun_anew now before after h
begun_once now (Write answer) state.Ready before after h = inr (inl h)
begun_once now (Write answer) state.Answering before after h = begun_still now before after h
begun_once now (Write answer) state.Hijacked before after h = begun_still now before after h
begun_once now (Write answer) state.Over before after h = begun_still now before after h

pub move_moments : (now : ℕ) (move : Move) (o n : Shown) → Keeps now move o n → MomentsBy now o.moments n.moments
move_moments now move o n h = record {
  last = h.last;
  opened = h.opened;
  took = subst (λ (x : Option ℕ). Once now o.moments.took x) (sym h.took) (took_once now move o.moments.took);
  begun = begun_once now move n.state o.moments.begun n.moments.begun h.begun;
  filled = h.filled_or;
}

-- none, and one behind another
pub moments_same : (now : ℕ) (m : Moments) → MomentsBy now m m
moments_same now m = record { last = refl; opened = refl; took = inl refl; begun = inl refl; filled = inl refl }

once_then : (now : ℕ) (a b c : Option ℕ) → Once now a b → Once now b c → Once now a c
once_then now a b c h k = elim k [ inl same ↦ subst (λ (x : Option ℕ). Once now a x) (sym same) h | inr some ↦ inr some ]

begun_then : (now : ℕ) (a b c : Option ℕ) → OnceOrNone now a b → OnceOrNone now b c → OnceOrNone now a c
begun_then now a b c h k = elim k [ inl same ↦ subst (λ (x : Option ℕ). OnceOrNone now a x) (sym same) h | inr other ↦ inr other ]

filled_then : (now a b c : ℕ) → (b ≡ a) ⊎ (b ≡ now) → (c ≡ b) ⊎ (c ≡ now) → (c ≡ a) ⊎ (c ≡ now)
filled_then now a b c h k = elim k [ inl same ↦ subst (λ (x : ℕ). (x ≡ a) ⊎ (x ≡ now)) (sym same) h | inr other ↦ inr other ]

pub moments_then : (now : ℕ) (a b c : Moments) → MomentsBy now a b → MomentsBy now b c → MomentsBy now a c
moments_then now a b c h k = record {
  last = k.last ∙ h.last;
  opened = k.opened ∙ h.opened;
  took = once_then now a.took b.took c.took h.took k.took;
  begun = begun_then now a.begun b.begun c.begun h.begun k.begun;
  filled = filled_then now a.filled b.filled c.filled h.filled k.filled;
}

goes_moments : (now : ℕ) (moves : List Move) (m n : Point) → Goes now moves m n → MomentsBy now m.shown.moments n.shown.moments
goes_moments now [] m n h =
    subst (λ (x : Point). MomentsBy now m.shown.moments x.shown.moments) (sym h) (moments_same now m.shown.moments)
goes_moments now (move ∷ moves) m n h =
    moments_then now m.shown.moments h.0.shown.moments n.shown.moments (move_moments now move m.shown h.0.shown h.1.1)
    (goes_moments now moves h.0 n h.3)

-- what a whole call leaves of the moments
pub feed_moments : (now : ℕ) (r : Next) (o n : Shown) (s u : Seen) → Feeds now r o n s u → MomentsBy now o.moments n.moments
feed_moments now r o n s u h = move_moments now (Read h.answer) o n h.keeps

pub turn_moments : (now : ℕ) (r : Next) (o n : Shown) (s u : Seen) → Turns now r o n s u → MomentsBy now o.moments n.moments
turn_moments now r o n s u h = goes_moments now h.moves (turn_at o s 0 0 0 false) (turn_at n u h.runs h.reads h.writes h.waited) h.made

pub flush_moments : (now : ℕ) (r : Next) (o n : Shown) (s u : Seen) → Flushes now r o n s u → MomentsBy now o.moments n.moments
flush_moments now r o n s u h = goes_moments now h.moves (flush_at o s 0 false) (flush_at n u h.writes h.waited) h.made

-- none that is kept falls below the least
from_once : (least now : ℕ) (before after : Option ℕ) → least ≤ now → IsFrom least before → Once now before after → IsFrom least after
from_once least now before after later h k =
    elim k [ inl same ↦ subst (λ (x : Option ℕ). IsFrom least x) (sym same) h | inr some ↦ subst (λ (x : Option ℕ). IsFrom least x) (sym some) later ]

from_begun : (least now : ℕ) (before after : Option ℕ) → least ≤ now → IsFrom least before → OnceOrNone now before after → IsFrom least after
from_begun least now before after later h k =
    elim k [
      | inl same ↦ subst (λ (x : Option ℕ). IsFrom least x) (sym same) h
      | inr other ↦ elim other [
        | inl none ↦ subst (λ (x : Option ℕ). IsFrom least x) (sym none) tt
        | inr some ↦ subst (λ (x : Option ℕ). IsFrom least x) (sym some) later
      ]
    ]

from_filled : (least now before after : ℕ) → least ≤ now → least ≤ before → (after ≡ before) ⊎ (after ≡ now) → least ≤ after
from_filled least now before after later h k = elim k [ inl same ↦ omega (arith, same, h) | inr other ↦ omega (arith, other, later) ]

pub kept_from : (least now : ℕ) (m n : Moments) → least ≤ now → KeptFrom least m → MomentsBy now m n → KeptFrom least n
kept_from least now m n later h k =
    let from : least ≤ n.opened = omega (arith, h.opened, k.opened) in
    record {
      opened = from;
      took = from_once least now m.took n.took later h.took k.took;
      begun = from_begun least now m.begun n.begun later h.begun k.begun;
      filled = from_filled least now m.filled n.filled later h.filled k.filled;
    }

-- a lower least, and a later last
within_later : (least last end : ℕ) (w : Option Why) → last ≤ end → WhyWithin least last w → WhyWithin least end w
within_later least last end None le h = tt
within_later least last end (Some why.Closed) le h = tt
within_later least last end (Some why.PeerEnd) le h = tt
within_later least last end (Some (why.Idle (Clock since now))) le h = (h.0, (let e : now ≤ end = omega (arith, le, h.1) in e))
within_later least last end (Some (why.Idle (Drain level))) le h = tt
within_later least last end (Some (why.TimedOut since now)) le h = (h.0, (let e : now ≤ end = omega (arith, le, h.1) in e))
within_later least last end (Some (why.Stalled since now)) le h = (h.0, (let e : now ≤ end = omega (arith, le, h.1) in e))
within_later least last end (Some (why.Unread level)) le h = tt
within_later least last end (Some why.ReadFailed) le h = tt
within_later least last end (Some why.WriteFailed) le h = tt
within_later least last end (Some (why.Halted level)) le h = tt
within_later least last end (Some why.NoMemory) le h = tt
within_later least last end (Some why.Hijacked) le h = tt

late_later : (least last end : ℕ) (l : Option Late) → last ≤ end → LateWithin least last l → LateWithin least end l
late_later least last end None le h = tt
late_later least last end (Some late) le h = (h.0, (let e : late.now ≤ end = omega (arith, le, h.1) in e))

pub within_then : (least last end : ℕ) (c : Shown) → last ≤ end → KeptWithin least last c → KeptWithin least end c
within_then least last end c le h = record {
  moments = h.moments;
  late = late_later least last end c.ending.late le h.late;
  why = within_later least last end c.why le h.why;
}

-- a call was handed a moment
abbrev pub reached_from : (least now : ℕ) (c : Shown) → KeptFrom least c.moments → KeptFrom least (reaching now c).moments
reached_from least now c h = record { opened = h.opened; took = h.took; begun = h.begun; filled = h.filled }

-- what a call's own why leaves
own_within : (least last : ℕ) (late : Option Late) (w : Option Why) (s u : Seen) → LateWithin least last late → TurnEnds late w s u → WhyWithin least last w
own_within least last late None s u l h = tt
own_within least last late (Some why.Closed) s u l h = tt
own_within least last late (Some why.PeerEnd) s u l h = tt
own_within least last late (Some (why.Idle by)) s u l h = absurd h
own_within least last late (Some (why.TimedOut since now)) s u l h =
    subst (λ (x : Option Late). LateWithin least last x) h.0 l
own_within least last late (Some (why.Stalled since now)) s u l h = absurd h
own_within least last late (Some (why.Unread level)) s u l h = absurd h
own_within least last late (Some why.ReadFailed) s u l h = tt
own_within least last late (Some why.WriteFailed) s u l h = tt
own_within least last late (Some (why.Halted level)) s u l h = absurd h
own_within least last late (Some why.NoMemory) s u l h = tt
own_within least last late (Some why.Hijacked) s u l h = tt

feed_why : (least last : ℕ) (w : Option Why) → IsOfFeed w → WhyWithin least last w
feed_why least last None h = tt
feed_why least last (Some why.Closed) h = absurd h
feed_why least last (Some why.PeerEnd) h = tt
feed_why least last (Some (why.Idle by)) h = absurd h
feed_why least last (Some (why.TimedOut since now)) h = absurd h
feed_why least last (Some (why.Stalled since now)) h = absurd h
feed_why least last (Some (why.Unread level)) h = absurd h
feed_why least last (Some why.ReadFailed) h = tt
feed_why least last (Some why.WriteFailed) h = absurd h
feed_why least last (Some (why.Halted level)) h = absurd h
feed_why least last (Some why.NoMemory) h = tt
feed_why least last (Some why.Hijacked) h = tt

same_late : (least last : ℕ) (o n : Option Late) → n ≡ o → LateWithin least last o → LateWithin least last n
same_late least last o n e h = subst (λ (x : Option Late). LateWithin least last x) (sym e) h

pub feed_within : (least last now : ℕ) (r : Next) (o n : Shown) (s u : Seen) → least ≤ now → KeptWithin least last o
    → Feeds now r (reaching now o) n s u → KeptWithin least last n
feed_within least last now r o n s u later h f = record {
  moments = kept_from least now (reaching now o).moments n.moments later (reached_from least now o h.moments) (feed_moments now r (reaching now o) n s u f);
  late = same_late least last o.ending.late n.ending.late (ap (λ (x : Ending). x.late) f.keeps.ending) h.late;
  why = feed_why least last n.why f.why;
}

pub turn_within : (least last now : ℕ) (r : Next) (o n : Shown) (s u : Seen) → least ≤ now → KeptWithin least last o
    → Turns now r (reaching now o) n s u → KeptWithin least last n
turn_within least last now r o n s u later h f = record {
  moments = kept_from least now (reaching now o).moments n.moments later (reached_from least now o h.moments) (turn_moments now r (reaching now o) n s u f);
  late = same_late least last o.ending.late n.ending.late f.drains.late h.late;
  why = own_within least last None n.why s u tt f.ends;
}

pub flush_within : (least last now : ℕ) (r : Next) (o n : Shown) (s u : Seen) → least ≤ now → KeptWithin least last o
    → Flushes now r (reaching now o) n s u → KeptWithin least last n
flush_within least last now r o n s u later h f = record {
  moments = kept_from least now (reaching now o).moments n.moments later (reached_from least now o h.moments) (flush_moments now r (reaching now o) n s u f);
  late = same_late least last o.ending.late n.ending.late f.drains.late h.late;
  why = own_within least last o.ending.late n.why s u h.late f.ends;
}

-- what its owner ends
pub ended_within : (least last : ℕ) (w : Why) (c : Shown) → WhyWithin least last (Some w) → KeptWithin least last c → KeptWithin least last (ended_as w c)
ended_within least last w c in_bounds h = record { moments = h.moments; late = h.late; why = in_bounds }

-- what a tick leaves
from_later : (least : ℕ) (took : Option ℕ) (filled : ℕ) → IsFrom least took → least ≤ filled → least ≤ later took filled
from_later least None filled h k = k
from_later least (Some t) filled h k = omega (arith, h, k)

from_or : (least : ℕ) (took : Option ℕ) (opening : ℕ) → IsFrom least took → least ≤ opening → least ≤ or_else took opening
from_or least None opening h k = k
from_or least (Some t) opening h k = h

late_within : (least last since now : ℕ) (c : Shown) → least ≤ now → now ≤ last → IsLate since now c → KeptWithin least last c
    → KeptWithin least last (late_as since now c)
late_within least last since now c later before late h = record {
  moments = record { opened = h.moments.opened; took = h.moments.took; begun = h.moments.begun; filled = later };
  late = (subst (λ (x : Option ℕ). IsFrom least x) late.1 h.moments.begun, before);
  why = h.why;
}

pub tick_within : (t : Tick) (least last now : ℕ) (o n : Shown) → least ≤ now → now ≤ last → KeptWithin least last o → Ticks t now (reaching now o) n
    → KeptWithin least last n
tick_within tick.Still least last now o n later before h k =
    let reached : KeptWithin least last (reaching now o) = record { moments = reached_from least now o h.moments; late = h.late; why = h.why } in
    subst (λ (x : Shown). KeptWithin least last x) (sym k.3) reached
tick_within tick.Write least last now o n later before h k =
    let reached : KeptWithin least last (reaching now o) = record { moments = reached_from least now o h.moments; late = h.late; why = h.why } in
    subst (λ (x : Shown). KeptWithin least last x) (sym k.1.2) (late_within least last k.1.0 now (reaching now o) later before k.1.1 reached)
tick_within tick.Over least last now o n later before h k =
    let m = h.moments in
    let reached : KeptWithin least last (reaching now o) = record { moments = reached_from least now o h.moments; late = h.late; why = h.why } in
    elim k [
      | inl stalled ↦ subst (λ (x : Shown). KeptWithin least last x) (sym stalled.1)
          (ended_within least last (why.Stalled (stuck_since o.moments) now) (reaching now o) (from_later least o.moments.took o.moments.filled m.took m.filled, before) reached)
      | inr idle ↦ subst (λ (x : Shown). KeptWithin least last x) (sym idle.2)
          (ended_within least last (why.Idle (Clock (quiet_since o.moments) now)) (reaching now o) (from_or least o.moments.took o.moments.opened m.took m.opened, before) reached)
    ]

-- what its placing leaves
pub placed_within : (least last : ℕ) (lives : List Life) (c : Shown) → KeptWithin least last c
    → KeptWithin least last (record c { lives = lives; ending = record c.ending { told = 0 } })
placed_within least last lives c h = record { moments = h.moments; late = h.late; why = h.why }

hijacked_within : (none : Bool) (least last : ℕ) (c : Shown) → KeptWithin least last c → KeptWithin least last (drained_hijacked none c)
hijacked_within true least last c h = ended_within least last why.Hijacked c tt h
hijacked_within false least last c h = record { moments = h.moments; late = h.late; why = h.why }

room_within : (room : Bool) (level least last : ℕ) (c : Shown) → KeptWithin least last c
    → KeptWithin least last (if room then c else ended_as (why.Idle (Drain level)) c)
room_within true level least last c h = h
room_within false level least last c h = ended_within least last (why.Idle (Drain level)) c tt h

reading_within : (begun : Option ℕ) (level least last : ℕ) (c : Shown) → KeptWithin least last c → KeptWithin least last (drained_reading begun level c)
reading_within None level least last c h = room_within (nat_lt (length c.lives) lives_limit) level least last c h
reading_within (Some since) level least last c h = h

in_within : (s : State) (level least last : ℕ) (c : Shown) → KeptWithin least last c → KeptWithin least last (drained_in s level c)
in_within state.Reading level least last c h = reading_within c.moments.begun level least last c h
in_within state.Ready level least last c h = h
in_within state.Answering level least last c h = h
in_within state.Hijacked level least last c h =
    hijacked_within (no_bytes c.owed) least last (record c { ending = record c.ending { dismissed = true } })
    (record { moments = h.moments; late = h.late; why = h.why })
in_within state.Over level least last c h = h

from_within : (taken level least last : ℕ) (c : Shown) → KeptWithin least last c → KeptWithin least last (drained_from taken level c)
from_within zero level least last c h = h
from_within (suc n) level least last c h = in_within c.state level least last c h

-- what the telling of a drain leaves
pub drained_within : (level least last : ℕ) (c : Shown) → KeptWithin least last c → KeptWithin least last (drained level c)
drained_within level least last c h =
    from_within c.taken level least last (record c { ending = record c.ending { told = level } })
    (record { moments = h.moments; late = h.late; why = h.why })
