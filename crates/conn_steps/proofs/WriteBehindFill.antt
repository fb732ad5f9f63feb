-- What is said behind a fill.
use Rattle.std.proofs.Common.{◌≡◌, ◌≢◌, ℕ, ◌+◌, ◌<◌, ◌≤◌, false, List, [], length, take, drop, refl, sym, ap, subst, ◌∙◌, arith, Option, Some, inl, inr}
use Rattle.rack_outside.specs.Link.{Seen, Writes, IsOneWrite, WritesAhead, next_place}
use Rattle.rack_outside.specs.declared.link.LinkWrite.{LinkWrite}
use Rattle.rack_outside.specs.declared.link.LinkWrite.TheVariants as write
use Rattle.reply_framing.specs.declared.types.After.{After}
use Rattle.reply_framing.specs.declared.types.After.TheVariants.{Keep, Close, Hijack}
use Rattle.talk_core.specs.Counts.{counted_by}
use Rattle.talk_core.specs.declared.ended.Why.{Why}
use Rattle.message_framing.specs.Intake.{LacksRightly}
use Rattle.conn_steps.specs.declared.budget.SayStep.{SayStep}
use Rattle.conn_steps.specs.declared.budget.SayStep.TheVariants as said
use Rattle.conn_steps.specs.declared.state.State.{State}
use Rattle.conn_steps.specs.declared.state.State.TheVariants as state
use Rattle.conn_steps.specs.Ends.{TurnEnds, IsOfFlush}
use Rattle.conn_steps.specs.Inner.{SaysOn, SaidLeaves, Says, SaysOnce, Fills}
use Rattle.conn_steps.specs.Moves.{ring_room, SameShown, WantsMemory, StillOwes, KeptTo, SentTo, BehindWrite, WritesOnce}
use Rattle.conn_steps.specs.Keeps.{no_bytes}
use Rattle.conn_steps.specs.Moments.{ended_by}
use Rattle.conn_steps.specs.Shown.{Shown}
use Rattle.conn_steps.specs.declared.moments.Ending.{Ending}
use Rattle.conn_steps.proofs.KeepsLemmas.{keeps_behind}
use Rattle.conn_steps.proofs.ShownLemmas.{appended_nil}

leaves_behind : (now : ℕ) (result : SayStep) (old mid new : Shown) (s s' : Seen) → Fills now old mid → SaidLeaves result mid new s s' → SaidLeaves result old new s s'
leaves_behind now said.Unwritten old mid new s s' f l = l
leaves_behind now said.Wrote old mid new s s' f l =
    λ is. subst (λ (x : List ℕ). length new.owed < length x) f.owed (l (is ∙ sym f.state))
leaves_behind now said.Waits old mid new s s' f l =
    (l.0 ∙ f.state, l.1, subst (λ (x : List ℕ). length new.owed ≤ length x) f.owed l.2, l.3)

-- a fill changes nothing of what is shown
pub says_behind : (now : ℕ) (result : SayStep) (old mid new : Shown) (s s' : Seen) → Fills now old mid → Says result mid new s s' → Says result old new s s'
says_behind now result old mid new s s' f h = record {
  moved = record {
    peer = h.moved.peer ∙ f.same.peer;
    local = h.moved.local ∙ f.same.local;
    lives = h.moved.lives ∙ f.same.lives;
    tag = h.moved.tag;
    link_peer = h.moved.link_peer;
    borrows = h.moved.borrows;
    input = h.moved.input;
    waits = h.moved.waits;
    failed_reads = h.moved.failed_reads;
    failed_writes = h.moved.failed_writes;
    reads_are = h.moved.reads_are;
    writes_are = h.moved.writes_are;
    came = h.moved.came;
    given = h.moved.given;
    taken = h.moved.taken ∙ ap (λ (t : ℕ). counted_by (length h.moved.came) t) f.same.taken;
  };
  came = h.came;
  given = h.given;
  calls = h.calls ∙ f.calls;
  replied = subst (λ (x : State). SaysOn x new.state old.replied new.replied) f.state
      (subst (λ (n : ℕ). SaysOn mid.state new.state n new.replied) f.replied h.replied);
  why = h.why;
  ends = subst (λ (x : Ending). TurnEnds x.late new.why s s') f.ending h.ends;
  leaves = leaves_behind now result old mid new s s' f h.leaves;
}

-- memory was refused before a write
pub unwritten : (old new : Shown) (s : Seen) → WantsMemory old new → Says said.Unwritten old new s s
unwritten old new s w = record {
  moved = record {
    peer = w.same.peer;
    local = w.same.local;
    lives = w.same.lives;
    tag = refl;
    link_peer = refl;
    borrows = refl;
    input = refl;
    waits = omega arith;
    failed_reads = omega arith;
    failed_writes = omega arith;
    reads_are = refl;
    writes_are = refl;
    came = [];
    given = sym (appended_nil s.given);
    taken = w.same.taken;
  };
  came = refl;
  given = refl;
  calls = w.calls;
  replied = subst (λ (x : State). SaysOn old.state x old.replied new.replied) (sym w.state) tt;
  why = subst IsOfFlush (sym w.why) tt;
  ends = subst (λ (x : Option Why). TurnEnds old.ending.late x s s) (sym w.why) refl;
  leaves = w.state;
}

same_then : (old mid new : Shown) → SameShown old mid → SameShown mid new → SameShown old new
same_then old mid new h k = record {
  peer = k.peer ∙ h.peer;
  local = k.local ∙ h.local;
  lives = k.lives ∙ h.lives;
  taken = k.taken ∙ h.taken;
}

-- one write of the ring, which is the front of what is owed
abbrev pub wrote_once : (a : LinkWrite) (old new : Shown) (s s' : Seen) (ring : List ℕ) → ring ≡ take ring_room old.owed → Writes a ring s s'
    → IsOneWrite s s' → WritesAhead a ring s.ahead (next_place s) s'.ahead → SameShown old new → new.calls ≡ old.calls → BehindWrite a old new
    → WritesOnce a old new s s'
wrote_once a old new s s' ring front writes one ahead same calls behind = record {
  offers = subst (λ (x : List ℕ). Writes a x s s') front writes;
  one = one;
  ahead = subst (λ (x : List ℕ). WritesAhead a x s.ahead (next_place s) s'.ahead) front ahead;
  same = same;
  calls = calls;
  behind = behind;
}

-- nor of how a write went
still_behind : (now : ℕ) (old mid new : Shown) (rest left : List ℕ) → rest ≡ left → Fills now old mid → StillOwes rest mid new → StillOwes left old new
still_behind now old mid new rest left e f h = record {
  some = λ none. h.some (e ∙ none);
  owed = h.owed ∙ e;
  state = h.state ∙ f.state;
  why = h.why;
  replied = h.replied ∙ f.replied;
  unfed = h.unfed ∙ f.unfed;
  after = h.after ∙ f.after;
  sure = λ sure. h.sure (inl (f.sure sure));
}

kept_behind : (now : ℕ) (x : State) (w : Option Why) (old mid new : Shown) → Fills now old mid → KeptTo x w mid new → KeptTo x w old new
kept_behind now state.Reading w old mid new f h = (h.0, h.1 ∙ ap (λ (n : ℕ). n + 1) f.replied, h.2)
kept_behind now state.Ready w old mid new f h = (h.0, h.1 ∙ ap (λ (n : ℕ). n + 1) f.replied, h.2)
kept_behind now state.Answering w old mid new f h = absurd h
kept_behind now state.Hijacked w old mid new f h = absurd h
kept_behind now state.Over w old mid new f h = (h.0, subst (λ (x : List ℕ). LacksRightly [] x) f.unfed h.1)

sent_behind : (now : ℕ) (x : State) (a : After) (old mid new : Shown) → Fills now old mid → SentTo x a mid new → SentTo x a old new
sent_behind now state.Answering Keep old mid new f h = kept_behind now new.state new.why old mid new f h
sent_behind now state.Answering Close old mid new f h = (h.0, h.1 ∙ ap (λ (x : Ending). Some (ended_by x.late)) f.ending)
sent_behind now state.Answering Hijack old mid new f h = (h.0, λ unfed. h.1 unfed ∙ ap (λ (n : ℕ). n + 1) f.replied)
sent_behind now state.Hijacked Keep old mid new f h = (h.0, h.1, h.2 ∙ f.replied, h.3)
sent_behind now state.Hijacked Close old mid new f h = h
sent_behind now state.Hijacked Hijack old mid new f h = absurd h
sent_behind now state.Reading a old mid new f h = absurd h
sent_behind now state.Ready a old mid new f h = absurd h
sent_behind now state.Over a old mid new f h = absurd h

behind_same : (now : ℕ) (a : LinkWrite) (old mid new : Shown) → Fills now old mid → BehindWrite a mid new → BehindWrite a old new
behind_same now (write.Took n) old mid new f h =
    let left : drop n mid.owed ≡ drop n old.owed = ap (λ (x : List ℕ). drop n x) f.owed in
    elim h [
      | inl still ↦ inl (still_behind now old mid new (drop n mid.owed) (drop n old.owed) left f still)
      | inr sent ↦ inr (
        sym left ∙ sent.0,
        subst (λ (x : State). SentTo x old.after old new) f.state
            (subst (λ (x : After). SentTo mid.state x old new) f.after (sent_behind now mid.state mid.after old mid new f sent.1)),
      )
    ]
behind_same now write.NotYet old mid new f h = still_behind now old mid new mid.owed old.owed f.owed f h
behind_same now write.Failed old mid new f h = h
behind_same now write.NoMemory old mid new f h = h

write_behind : (now : ℕ) (a : LinkWrite) (old mid new : Shown) (s s' : Seen) → Fills now old mid → WritesOnce a mid new s s' → WritesOnce a old new s s'
write_behind now a old mid new s s' f h = record {
  offers = subst (λ (x : List ℕ). Writes a (take ring_room x) s s') f.owed h.offers;
  one = h.one;
  ahead = subst (λ (x : List ℕ). WritesAhead a (take ring_room x) s.ahead (next_place s) s'.ahead) f.owed h.ahead;
  same = same_then old mid new f.same h.same;
  calls = h.calls ∙ f.calls;
  behind = behind_same now a old mid new f h.behind;
}

-- nor of what a write does
pub once_behind : (now : ℕ) (result : SayStep) (old mid new : Shown) (s s' : Seen) → result ≢ said.Unwritten → Fills now old mid → no_bytes mid.ring ≡ false
    → SaysOnce now result mid new s s' → SaysOnce now result old new s s'
once_behind now said.Unwritten old mid new s s' not f some h = absurd (not refl)
once_behind now said.Wrote old mid new s s' not f some h =
    (h.0, h.1, write_behind now h.0 old mid new s s' f h.2, keeps_behind now h.0 old mid new f some h.3)
once_behind now said.Waits old mid new s s' not f some h =
    (write_behind now write.NotYet old mid new s s' f h.0, keeps_behind now write.NotYet old mid new f some h.1)

pub says_ending : (now : ℕ) (result : SayStep) (old new : Shown) (s s' : Seen) → SaysOnce now result old new s s' → new.ending ≡ old.ending
says_ending now said.Unwritten old new s s' h = h.4.ending
says_ending now said.Wrote old new s s' h = h.3.ending
says_ending now said.Waits old new s s' h = h.1.ending
