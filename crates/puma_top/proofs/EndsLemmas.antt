-- Why a connection ended that was driven.
use Rattle.std.proofs.Common.{Bool, ◌≡◌, ◌≢◌, ◌≤◌, ℕ, refl, ap, subst, ◌∙◌, arith, Option, None, Some, inl, inr}
use Rattle.rack_outside.specs.Link.{Seen}
use Rattle.rack_outside.specs.Told.{Rose}
use Rattle.rack_outside.specs.declared.link.LinkRead.{LinkRead}
use Rattle.rack_outside.specs.declared.link.LinkRead.TheVariants as read
use Rattle.rack_outside.proofs.CallerLemmas.{rose_within}
use Rattle.talk_core.specs.declared.ended.Why.{Why}
use Rattle.talk_core.specs.declared.ended.Why.TheVariants as why
use Rattle.conn_steps.specs.Ends.{TurnEnds, FeedEnds, IsOfFeed}
use Rattle.conn_core.specs.Calls.{Feeds}
use Rattle.conn_steps.specs.declared.moments.Ending.{Ending}
use Rattle.conn_steps.specs.declared.moments.Late.{Late}
use Rattle.conn_steps.specs.Keeps.{Drains, DrainsOnce}
use Rattle.conn_steps.specs.Moves.{FedTo, ToldTo, BehindRead}
use Rattle.conn_steps.specs.Opened.{untold}
use Rattle.conn_steps.specs.Shown.{Shown}
use Rattle.conn_steps.specs.declared.state.Next.{Next}
use Rattle.conn_steps.specs.declared.state.State.{State}
use Rattle.conn_steps.specs.declared.state.State.TheVariants as state
use Rattle.puma_top.specs.Drive.{EndsSo}
use Rattle.puma_top.specs.OnceSteps.{IsOfOnce}

-- since an earlier moment
pub ends_on : (w : Option Why) (first s u : Seen) → first.failed_reads ≤ s.failed_reads → first.failed_writes ≤ s.failed_writes
    → EndsSo w s u → EndsSo w first u
ends_on None first s u reads writes h = tt
ends_on (Some why.Closed) first s u reads writes h = tt
ends_on (Some why.PeerEnd) first s u reads writes h = tt
ends_on (Some (why.Idle by)) first s u reads writes h = h
ends_on (Some (why.TimedOut since now)) first s u reads writes h = h
ends_on (Some (why.Stalled since now)) first s u reads writes h = h
ends_on (Some (why.Unread level)) first s u reads writes h = h
ends_on (Some why.ReadFailed) first s u reads writes h =
    let last : u.failed_reads ≤ u.failed_reads = omega arith in
    rose_within first.failed_reads s.failed_reads u.failed_reads u.failed_reads reads h last
ends_on (Some why.WriteFailed) first s u reads writes h =
    let last : u.failed_writes ≤ u.failed_writes = omega arith in
    rose_within first.failed_writes s.failed_writes u.failed_writes u.failed_writes writes h last
ends_on (Some (why.Halted level)) first s u reads writes h = h
ends_on (Some why.NoMemory) first s u reads writes h = tt
ends_on (Some why.Hijacked) first s u reads writes h = tt

none_some : {A : Type 0} (x : A) → None ≡ Some x → ⊥
none_some {A} x e = cc

-- by a turn, or by a flush where no request took too long
pub turn_ends : (w : Option Why) (s u : Seen) → TurnEnds None w s u → EndsSo w s u
turn_ends None s u h = tt
turn_ends (Some why.Closed) s u h = tt
turn_ends (Some why.PeerEnd) s u h = tt
turn_ends (Some (why.Idle by)) s u h = h
turn_ends (Some (why.TimedOut since moment)) s u h = none_some (record { since = since; now = moment }) h.0
turn_ends (Some (why.Stalled since moment)) s u h = h
turn_ends (Some (why.Unread level)) s u h = h
turn_ends (Some why.ReadFailed) s u h = h.1
turn_ends (Some why.WriteFailed) s u h = h.1
turn_ends (Some (why.Halted level)) s u h = h
turn_ends (Some why.NoMemory) s u h = tt
turn_ends (Some why.Hijacked) s u h = tt

pub flush_ends : (e : Ending) (w : Option Why) (s u : Seen) → e ≡ untold → TurnEnds e.late w s u → EndsSo w s u
flush_ends e w s u is h = turn_ends w s u (subst (λ (x : Ending). TurnEnds x.late w s u) is h)

-- nothing was told of its end, and so nothing comes of a drain
told_of : (o n : Shown) → o.ending ≡ untold → DrainsOnce o n → ⊥
told_of o n is d = omega (arith, ap (λ (x : Ending). x.told) is, d.1)

pub still_untold : (o n : Shown) → o.ending ≡ untold → Drains o n → n.ending ≡ o.ending
still_untold o n is h =
    let closing : n.ending.closing ≡ o.ending.closing = elim h.closing [ inl same ↦ same | inr once ↦ absurd (told_of o n is once) ] in
    ap (λ (x : ℕ). record { told = x; closing = n.ending.closing; late = n.ending.late; dismissed = n.ending.dismissed }) h.told
    ∙ ap (λ (x : Option ℕ). record { told = o.ending.told; closing = x; late = n.ending.late; dismissed = n.ending.dismissed }) closing
    ∙ ap (λ (x : Option Late). record { told = o.ending.told; closing = o.ending.closing; late = x; dismissed = n.ending.dismissed }) h.late
    ∙ ap (λ (x : Bool). record { told = o.ending.told; closing = o.ending.closing; late = o.ending.late; dismissed = x }) h.dismissed

-- behind bytes no read has failed
fed_sound : (b : State) (w : Option Why) → FedTo b w → w ≢ Some why.ReadFailed
fed_sound state.Reading w h = λ e. cc (e, h)
fed_sound state.Ready w h = λ e. cc (e, h)
fed_sound state.Answering w h = absurd h
fed_sound state.Hijacked w h = absurd h
fed_sound state.Over w h = λ e. cc (e, h)

told_sound : (b : State) (w : Option Why) → ToldTo b w → w ≢ Some why.ReadFailed
told_sound state.Reading w h = absurd h
told_sound state.Ready w h = absurd h
told_sound state.Answering w h = absurd h
told_sound state.Hijacked w h = λ e. cc (e, h)
told_sound state.Over w h = λ e. elim h [ inl x ↦ cc (e, x) | inr x ↦ cc (e, x) ]

-- a read fails only where that was counted
read_fails : (b : State) (a : LinkRead) (o n : Shown) (s u : Seen) → o.why ≡ None → BehindRead b a o n → FeedEnds a s u → n.why ≡ Some why.ReadFailed
    → Rose s.failed_reads u.failed_reads
read_fails state.Reading (read.Bytes n) old new s u none h ends e = absurd (fed_sound new.state new.why h.0 e)
read_fails state.Reading read.NotYet old new s u none h ends e = let same : new.why ≡ old.why = ap (λ (x : Shown). x.why) h in cc (e, same, none)
read_fails state.Reading read.End old new s u none h ends e = cc (e, h.1)
read_fails state.Reading read.Failed old new s u none h ends e = ends.1
read_fails state.Ready a old new s u none h ends e = absurd h
read_fails state.Answering a old new s u none h ends e = absurd h
read_fails state.Hijacked (read.Bytes n) old new s u none h ends e = absurd (told_sound new.state new.why h e)
read_fails state.Hijacked read.NotYet old new s u none h ends e = let same : new.why ≡ old.why = ap (λ (x : Shown). x.why) h in cc (e, same, none)
read_fails state.Hijacked read.End old new s u none h ends e = absurd (told_sound new.state new.why h.0 e)
read_fails state.Hijacked read.Failed old new s u none h ends e = ends.1
read_fails state.Over a old new s u none h ends e = absurd h

-- by a feed
feed_ends_by : (w : Option Why) (s u : Seen) → IsOfFeed w → (w ≡ Some why.ReadFailed → Rose s.failed_reads u.failed_reads) → EndsSo w s u
feed_ends_by None s u h fails = tt
feed_ends_by (Some why.Closed) s u h fails = tt
feed_ends_by (Some why.PeerEnd) s u h fails = tt
feed_ends_by (Some (why.Idle by)) s u h fails = h
feed_ends_by (Some (why.TimedOut since now)) s u h fails = h
feed_ends_by (Some (why.Stalled since now)) s u h fails = h
feed_ends_by (Some (why.Unread level)) s u h fails = h
feed_ends_by (Some why.ReadFailed) s u h fails = fails refl
feed_ends_by (Some why.WriteFailed) s u h fails = absurd h
feed_ends_by (Some (why.Halted level)) s u h fails = h
feed_ends_by (Some why.NoMemory) s u h fails = tt
feed_ends_by (Some why.Hijacked) s u h fails = tt

pub feed_ends : (now : ℕ) (a : Next) (o n : Shown) (s u : Seen) → o.why ≡ None → Feeds now a o n s u → EndsSo n.why s u
feed_ends now a o n s u none h = feed_ends_by n.why s u h.why (read_fails o.state h.answer o n s u none h.once.behind h.ends)

-- only so a connection ends that nobody drains, halts or times
pub of_once : (w : Why) (s u : Seen) → EndsSo (Some w) s u → IsOfOnce w
of_once why.Closed s u h = tt
of_once why.PeerEnd s u h = tt
of_once (why.Idle by) s u h = h
of_once (why.TimedOut since moment) s u h = h
of_once (why.Stalled since moment) s u h = h
of_once (why.Unread level) s u h = h
of_once why.ReadFailed s u h = tt
of_once why.WriteFailed s u h = tt
of_once (why.Halted level) s u h = h
of_once why.NoMemory s u h = tt
of_once why.Hijacked s u h = tt
