-- That a connection of which nothing was told of its end stays such a one, and that no drain ended it.
use Rattle.std.proofs.Common.{◌≡◌, ◌≢◌, ℕ, zero, suc, ◌≤◌, ◌<◌, Bool, true, false, List, [], ◌∷◌, refl, sym, ap, subst, ◌∙◌, arith, Option, None, Some, ◌⊎◌, inl, inr, nat_lt}
use Rattle.std.proofs.lemmas.Bool.Decides.{nat_tests}
use Rattle.std.specs.Prelude.{length, if◌then◌else◌}
use Rattle.rack_types.specs.declared.peer.Local.{Local}
use Rattle.rack_outside.specs.Link.{Seen}
use Rattle.talk_core.specs.declared.ended.Life.{Life}
use Rattle.talk_core.specs.declared.ended.Why.{Why}
use Rattle.talk_core.specs.declared.ended.Why.TheVariants as why
use Rattle.talk_core.specs.declared.ended.IdleBy.TheVariants.{Drain}
use Rattle.talk_core.specs.Lives.{lives_limit}
use Rattle.conn_steps.specs.declared.moments.Ending.{Ending}
use Rattle.conn_steps.specs.declared.moments.Late.{Late}
use Rattle.conn_steps.specs.declared.moments.Moments.{Moments}
use Rattle.conn_steps.specs.declared.state.Next.{Next}
use Rattle.conn_steps.specs.declared.state.Tick.{Tick}
use Rattle.conn_steps.specs.declared.state.Tick.TheVariants as tick
use Rattle.conn_steps.specs.declared.state.State.{State}
use Rattle.conn_steps.specs.declared.state.State.TheVariants as state
use Rattle.conn_core.specs.Calls.{Feeds, Turns, Flushes}
use Rattle.conn_steps.specs.Ends.{TurnEnds, IsOfFeed}
use Rattle.conn_steps.specs.Keeps.{Drains, reaching, no_bytes}
use Rattle.conn_steps.specs.Opened.{opened, untold, first_moments}
use Rattle.conn_steps.specs.Owner.{MayPlace, ended_as, Ticks, drained_reading, drained_hijacked, drained_in, drained_from, drained}
use Rattle.conn_steps.specs.Shown.{Shown}
use Rattle.conn_core.specs.Transfer.{IsBareWhy, Transfer, as_untold}
use Rattle.conn_core.specs.Within.{MomentsBy, KeptFrom, LateWithin, WhyWithin, KeptWithin}
use Rattle.conn_core.proofs.WithinLemmas.{feed_moments, turn_moments, flush_moments, kept_from, reached_from}

-- a call's own why is bare, where no request took too long
bare_own : (w : Option Why) (s u : Seen) → TurnEnds None w s u → IsBareWhy w
bare_own None s u h = tt
bare_own (Some why.Closed) s u h = tt
bare_own (Some why.PeerEnd) s u h = tt
bare_own (Some (why.Idle by)) s u h = absurd h
bare_own (Some (why.TimedOut since now)) s u h = cc (h.0)
bare_own (Some (why.Stalled since now)) s u h = absurd h
bare_own (Some (why.Unread level)) s u h = absurd h
bare_own (Some why.ReadFailed) s u h = tt
bare_own (Some why.WriteFailed) s u h = tt
bare_own (Some (why.Halted level)) s u h = absurd h
bare_own (Some why.NoMemory) s u h = tt
bare_own (Some why.Hijacked) s u h = tt

bare_feed : (w : Option Why) → IsOfFeed w → IsBareWhy w
bare_feed None h = tt
bare_feed (Some why.Closed) h = absurd h
bare_feed (Some why.PeerEnd) h = tt
bare_feed (Some (why.Idle by)) h = absurd h
bare_feed (Some (why.TimedOut since now)) h = absurd h
bare_feed (Some (why.Stalled since now)) h = absurd h
bare_feed (Some (why.Unread level)) h = absurd h
bare_feed (Some why.ReadFailed) h = tt
bare_feed (Some why.WriteFailed) h = absurd h
bare_feed (Some (why.Halted level)) h = absurd h
bare_feed (Some why.NoMemory) h = tt
bare_feed (Some why.Hijacked) h = tt

nothing_told : (t : ℕ) (k : Option ℕ) (l : Option Late) (b : Bool) → t ≡ 0 → k ≡ None → l ≡ None → b ≡ false
    → record { told = t; closing = k; late = l; dismissed = b } ≡ untold
nothing_told t k l b e f g h =
    ap (λ (x : ℕ). record { told = x; closing = k; late = l; dismissed = b }) e ∙ ap (λ (x : Option ℕ). record { told = 0; closing = x; late = l; dismissed = b }) f
    ∙ ap (λ (x : Option Late). record { told = 0; closing = None; late = x; dismissed = b }) g
    ∙ ap (λ (x : Bool). record { told = 0; closing = None; late = None; dismissed = x }) h

-- what several moves leave of an end of which nothing was told
untold_drains : (o n : Shown) → o.ending ≡ untold → Drains o n → n.ending ≡ untold
untold_drains o n none h =
    let told : n.ending.told ≡ 0 = h.told ∙ ap (λ (x : Ending). x.told) none in
    let late : n.ending.late ≡ None = h.late ∙ ap (λ (x : Ending). x.late) none in
    let left : n.ending.dismissed ≡ false = h.dismissed ∙ ap (λ (x : Ending). x.dismissed) none in
    let closing : n.ending.closing ≡ None =
    elim h.closing [
      | inl same ↦ same ∙ ap (λ (x : Ending). x.closing) none
      | inr once ↦ absurd (let zero_told : o.ending.told ≡ 0 = ap (λ (x : Ending). x.told) none in omega (arith, zero_told, once.1))
    ] in
    nothing_told n.ending.told n.ending.closing n.ending.late n.ending.dismissed told closing late left

no_mark : (c : Shown) → false ≡ true → MayPlace c
no_mark c e = cc

-- it stays one behind each of its own calls
pub feed_transfer : (local : Local) (least now : ℕ) (marked : Bool) (r : Next) (o n : Shown) (s u : Seen) → least ≤ now → Transfer local least marked o
    → Feeds now r (reaching now o) n s u → Transfer local least false n
feed_transfer local least now marked r o n s u later h f = record {
  local_is = f.once.local ∙ h.local_is;
  moments = kept_from least now (reaching now o).moments n.moments later (reached_from least now o h.moments) (feed_moments now r (reaching now o) n s u f);
  untold_is = f.keeps.ending ∙ h.untold_is;
  why = bare_feed n.why f.why;
  waits = no_mark n;
}

pub turn_transfer : (local : Local) (least now : ℕ) (marked : Bool) (r : Next) (o n : Shown) (s u : Seen) → least ≤ now → Transfer local least marked o
    → Turns now r (reaching now o) n s u → Transfer local least false n
turn_transfer local least now marked r o n s u later h f = record {
  local_is = f.moved.local ∙ h.local_is;
  moments = kept_from least now (reaching now o).moments n.moments later (reached_from least now o h.moments) (turn_moments now r (reaching now o) n s u f);
  untold_is = untold_drains (reaching now o) n h.untold_is f.drains;
  why = bare_own n.why s u f.ends;
  waits = no_mark n;
}

pub flush_transfer : (local : Local) (least now : ℕ) (marked : Bool) (r : Next) (o n : Shown) (s u : Seen) → least ≤ now → Transfer local least marked o
    → Flushes now r (reaching now o) n s u → Transfer local least false n
flush_transfer local least now marked r o n s u later h f = record {
  local_is = f.moved.local ∙ h.local_is;
  moments = kept_from least now (reaching now o).moments n.moments later (reached_from least now o h.moments) (flush_moments now r (reaching now o) n s u f);
  untold_is = untold_drains (reaching now o) n h.untold_is f.drains;
  why = bare_own n.why s u (subst (λ (l : Option Late). TurnEnds l n.why s u) (ap (λ (x : Ending). x.late) h.untold_is) f.ends);
  waits = no_mark n;
}

-- and behind a tick that changed nothing
pub tick_transfer : (local : Local) (least now : ℕ) (marked : Bool) (o n : Shown) → Transfer local least marked o → Ticks tick.Still now (reaching now o) n
    → Transfer local least marked n
tick_transfer local least now marked o n h k =
    let reached : Transfer local least marked (reaching now o) = record {
      local_is = h.local_is;
      moments = reached_from least now o h.moments;
      untold_is = h.untold_is;
      why = h.why;
      waits = h.waits;
    } in
    subst (λ (x : Shown). Transfer local least marked x) (sym k.3) reached

-- at its start, placed anew, with the mark and without it
pub opened_transfer : (peer : List ℕ) (local : Local) (phase least now : ℕ) → least ≤ now → Transfer local least true (opened peer local phase now)
opened_transfer peer local phase least now later = record {
  local_is = refl;
  moments = record { opened = later; took = tt; begun = tt; filled = later };
  untold_is = refl;
  why = tt;
  waits = λ e. inl (refl, (λ (over : state.Reading ≡ state.Over). cc));
}

pub transfer_unmarked : (local : Local) (least : ℕ) (marked : Bool) (c : Shown) → Transfer local least marked c → Transfer local least false c
transfer_unmarked local least marked c h =
    record { local_is = h.local_is; moments = h.moments; untold_is = h.untold_is; why = h.why; waits = no_mark c }

pub transfer_marked : (local : Local) (least : ℕ) (marked : Bool) (c : Shown) → Transfer local least marked c → MayPlace c → Transfer local least true c
transfer_marked local least marked c h may =
    record { local_is = h.local_is; moments = h.moments; untold_is = h.untold_is; why = h.why; waits = λ e. may }

pub placed_transfer : (local : Local) (least : ℕ) (marked : Bool) (lives : List Life) (c : Shown) → Transfer local least marked (as_untold c)
    → Transfer local least marked (record c { lives = lives; ending = record c.ending { told = 0 } })
placed_transfer local least marked lives c h =
    record { local_is = h.local_is; moments = h.moments; untold_is = h.untold_is; why = h.why; waits = h.waits }

-- a drain leaves one that still reads as it was, and one of which no byte was ever read, but for that telling
room_keeps : (room : Bool) (level : ℕ) (c : Shown) → (if room then c else ended_as (why.Idle (Drain level)) c).state ≡ state.Reading
    → (if room then c else ended_as (why.Idle (Drain level)) c) ≡ c
room_keeps true level c e = refl
room_keeps false level c e = cc (e)

reading_keeps : (begun : Option ℕ) (level : ℕ) (c : Shown) → (drained_reading begun level c).state ≡ state.Reading → drained_reading begun level c ≡ c
reading_keeps None level c e = room_keeps (nat_lt (length c.lives) lives_limit) level c e
reading_keeps (Some since) level c e = refl

hijacked_keeps : (none : Bool) (c : Shown) → c.state ≡ state.Hijacked → (drained_hijacked none c).state ≡ state.Reading → ⊥
hijacked_keeps true c unfed e = cc (e)
hijacked_keeps false c unfed e = cc (unfed, e)

in_keeps : (s : State) (level : ℕ) (c : Shown) → c.state ≡ s → (drained_in s level c).state ≡ state.Reading → drained_in s level c ≡ c
in_keeps state.Reading level c is e = reading_keeps c.moments.begun level c e
in_keeps state.Ready level c is e = refl
in_keeps state.Answering level c is e = refl
in_keeps state.Hijacked level c is e =
    absurd (hijacked_keeps (no_bytes c.owed) (record c { ending = record c.ending { dismissed = true } }) is e)
in_keeps state.Over level c is e = refl

from_keeps : (taken level : ℕ) (c : Shown) → (taken ≡ 0) ⊎ ((drained_from taken level c).state ≡ state.Reading) → drained_from taken level c ≡ c
from_keeps zero level c h = refl
from_keeps (suc n) level c h = elim h [ inl none ↦ absurd (omega (arith, none)) | inr reads ↦ in_keeps c.state level c refl reads ]

room_taken : (room : Bool) (level : ℕ) (c : Shown) → (if room then c else ended_as (why.Idle (Drain level)) c).taken ≡ c.taken
room_taken true level c = refl
room_taken false level c = refl

reading_taken : (begun : Option ℕ) (level : ℕ) (c : Shown) → (drained_reading begun level c).taken ≡ c.taken
reading_taken None level c = room_taken (nat_lt (length c.lives) lives_limit) level c
reading_taken (Some since) level c = refl

hijacked_taken : (none : Bool) (c : Shown) → (drained_hijacked none c).taken ≡ c.taken
hijacked_taken true c = refl
hijacked_taken false c = refl

in_taken : (s : State) (level : ℕ) (c : Shown) → (drained_in s level c).taken ≡ c.taken
in_taken state.Reading level c = reading_taken c.moments.begun level c
in_taken state.Ready level c = refl
in_taken state.Answering level c = refl
in_taken state.Hijacked level c = hijacked_taken (no_bytes c.owed) (record c { ending = record c.ending { dismissed = true } })
in_taken state.Over level c = refl

from_taken : (taken level : ℕ) (c : Shown) → (drained_from taken level c).taken ≡ c.taken
from_taken zero level c = refl
from_taken (suc n) level c = in_taken c.state level c

pub drained_keeps : (level : ℕ) (c : Shown) → ((drained level c).taken ≡ 0) ⊎ ((drained level c).state ≡ state.Reading)
    → drained level c ≡ record c { ending = record c.ending { told = level } }
drained_keeps level c h =
    let told : Shown = record c { ending = record c.ending { told = level } } in
    from_keeps c.taken level told (elim h [ inl none ↦ inl (sym (from_taken c.taken level told) ∙ none) | inr reads ↦ inr reads ])

-- one that was told a drain and may be placed anew, but for that telling
pub drained_transfer : (local : Local) (least level : ℕ) (marked : Bool) (c n : Shown) → Transfer local least marked (as_untold c) → n ≡ drained level c
    → MayPlace n → Transfer local least true (as_untold n)
drained_transfer local least level marked c n h is may =
    let reads : ((drained level c).taken ≡ 0) ⊎ ((drained level c).state ≡ state.Reading) =
    elim may [
      | inl unread ↦ inl (ap (λ (x : Shown). x.taken) (sym is) ∙ unread.0)
      | inr idle ↦ inr (ap (λ (x : Shown). x.state) (sym is) ∙ idle.0)
    ] in
    let keeps : n ≡ record c { ending = record c.ending { told = level } } = is ∙ drained_keeps level c reads in
    let from : Transfer local least marked (as_untold n) = subst (λ (x : Shown). Transfer local least marked (as_untold x)) (sym keeps)
    (record { local_is = h.local_is; moments = h.moments; untold_is = h.untold_is; why = h.why; waits = h.waits }) in
    record { local_is = from.local_is; moments = from.moments; untold_is = from.untold_is; why = from.why; waits = λ e. may }

-- it keeps no moments outside any bounds
pub transfer_within : (local : Local) (least last : ℕ) (marked : Bool) (c : Shown) → Transfer local least marked c → KeptWithin least last c
transfer_within local least last marked c h = record {
  moments = h.moments;
  late = subst (λ (x : Ending). LateWithin least last x.late) (sym h.untold_is) tt;
  why = bare_within c.why h.why;
}
  where
    bare_within : (w : Option Why) → IsBareWhy w → WhyWithin least last w
    bare_within None b = tt
    bare_within (Some why.Closed) b = tt
    bare_within (Some why.PeerEnd) b = tt
    bare_within (Some (why.Idle by)) b = absurd b
    bare_within (Some (why.TimedOut since now)) b = absurd b
    bare_within (Some (why.Stalled since now)) b = absurd b
    bare_within (Some (why.Unread level)) b = absurd b
    bare_within (Some why.ReadFailed) b = tt
    bare_within (Some why.WriteFailed) b = tt
    bare_within (Some (why.Halted level)) b = absurd b
    bare_within (Some why.NoMemory) b = tt
    bare_within (Some why.Hijacked) b = tt
