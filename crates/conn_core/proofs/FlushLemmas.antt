-- What a flush did so far.
use Rattle.std.proofs.Common.{◌≡◌, ◌≢◌, ◌↔◌, ℕ, ◌+◌, ◌≤◌, Bool, true, false, IsTrue, List, [], ◌++◌, length, refl, sym, ap, subst, ◌∙◌, arith, Option, None, ◌⊎◌, inl, inr}
use Rattle.rack_outside.specs.Link.{Seen}
use Rattle.rack_outside.specs.Told.{Rose}
use Rattle.talk_core.specs.declared.ended.Why.{Why}
use Rattle.conn_steps.specs.declared.budget.SayStep.{SayStep}
use Rattle.conn_steps.specs.declared.budget.SayStep.TheVariants as said
use Rattle.conn_steps.specs.declared.moments.Late.{Late}
use Rattle.conn_steps.specs.declared.at.At.{At}
use Rattle.conn_steps.specs.declared.state.Next.{Next}
use Rattle.conn_steps.specs.declared.state.Next.TheVariants as next
use Rattle.conn_steps.specs.declared.state.State.{State}
use Rattle.conn_steps.specs.declared.state.State.TheVariants as state
use Rattle.conn_core.specs.Answers.{FlushedSo}
use Rattle.conn_steps.specs.Ends.{TurnEnds, RestsBehind, IsOfFlush}
use Rattle.conn_core.specs.Calls.{IsListening, Leaves, IsStillOwing, FlushTells, Flushes}
use Rattle.conn_steps.specs.Inner.{writes_of, SaysOn, SaidLeaves, Says}
use Rattle.conn_steps.specs.Keeps.{Drains}
use Rattle.conn_steps.specs.Moves.{IsOwing}
use Rattle.conn_steps.specs.At.{IsSaying, IsHearing, state_at}
use Rattle.conn_steps.specs.Shown.{Shown, Moved}
use Rattle.conn_core.proofs.MovesOfCalls.{FlushMade}
use Rattle.conn_core.proofs.PartsOfCalls.{moved_same, moved_then, ends_then, drains_same, drains_then}
use Rattle.conn_core.proofs.WhyLemmas.{owing_live}
use Rattle.conn_core.proofs.TurnLemmas.{IsBelow, says_rests}

-- what a flush of so many writes did so far
pub record Flushing (old new : Shown) (s s' : Seen) (writes : ℕ) : Type 0 where
  pub few : writes ≤ 16
  pub moved : Moved old new s s' 0 writes
  pub came : moved.came ≡ []
  pub given : s'.given ≡ s.given
  pub calls : new.calls ≡ old.calls
  pub rests : Leaves old.state old new
  pub drains : Drains old new
  pub why : IsOfFlush new.why
  pub ends : TurnEnds old.ending.late new.why s s'

-- and each write took bytes
abbrev pub Falling : Shown → Shown → ℕ → Type 0
Falling old new writes = new.state ≡ old.state → length new.owed + writes ≤ length old.owed

pub flushing_start : (o : Shown) (s : Seen) → IsOwing o → o.why ≡ None → Flushing o o s s 0
flushing_start o s owing none =
    let few : 0 ≤ 16 = omega arith in
    let within : o.replied ≤ o.replied = omega arith in
    record {
      few = few;
      moved = moved_same o o s 0 0 (record { peer = refl; local = refl; lives = refl; taken = refl }) refl refl;
      came = refl;
      given = refl;
      calls = refl;
      rests = elim owing [
        | inl saying ↦ subst (λ (b : State). Leaves b o o) (sym saying)
            (subst (λ (b : State). RestsBehind b o.replied o.replied) (sym saying) within)
        | inr unfed ↦ subst (λ (b : State). Leaves b o o) (sym unfed.0) (λ e. refl, inl unfed.0)
      ];
      drains = drains_same o o refl;
      why = subst IsOfFlush (sym none) tt;
      ends = subst (λ (w : Option Why). TurnEnds o.ending.late w s s) (sym none) refl;
    }

-- a hijacker that has the connection keeps it behind a write, or it ended
held_on : (b : State) (r q : ℕ) → SaysOn state.Hijacked b r q
    → (b ≡ state.Hijacked → q ≡ r) × ((b ≡ state.Hijacked) ⊎ (b ≡ state.Over))
held_on state.Reading r q on = absurd (cc on.0)
held_on state.Ready r q on = absurd (cc on.0)
held_on state.Answering r q on = absurd (cc on.0)
held_on state.Hijacked r q on = (λ e. on, inl refl)
held_on state.Over r q on = (λ e. cc, inr refl)

-- it had it before a write where something was owed
held_still : (m : Shown) → (m.state ≡ state.Hijacked) ⊎ (m.state ≡ state.Over) → IsOwing m → m.state ≡ state.Hijacked
held_still m h owing = elim h [ inl unfed ↦ unfed | inr over ↦ absurd (owing_live m owing over) ]

leaves_on : (x : State) (o m n : Shown) → Leaves x o m → IsOwing m → SaysOn m.state n.state m.replied n.replied → IsBelow n.state n.replied
    → Leaves x o n
leaves_on state.Reading o m n h owing on below = absurd h
leaves_on state.Ready o m n h owing on below = absurd h
leaves_on state.Answering o m n h owing on below = says_rests m.state n.state o.replied m.replied n.replied on below h
leaves_on state.Hijacked o m n h owing on below =
    let unfed = held_still m h.1 owing in
    let k = held_on n.state m.replied n.replied (subst (λ (b : State). SaysOn b n.state m.replied n.replied) unfed on) in
    (λ e. k.0 e ∙ h.0 unfed, k.1)
leaves_on state.Over o m n h owing on below = absurd h

-- where a flush leaves the state that it found, that stood before its last write too
state_before : (x : State) (o m n : Shown) → Leaves x o m → IsOwing m → SaysOn m.state n.state m.replied n.replied → n.state ≡ x → m.state ≡ x
state_before state.Reading o m n h owing on e = absurd h
state_before state.Ready o m n h owing on e = absurd h
state_before state.Answering o m n h owing on e = (subst (λ (b : State). SaysOn m.state b m.replied n.replied) e on).0
state_before state.Hijacked o m n h owing on e = held_still m h.1 owing
state_before state.Over o m n h owing on e = absurd h

pub flushing_step : (a : SayStep) (o m n : Shown) (s t u : Seen) (w x : ℕ) → w + writes_of a ≡ x → x ≤ 16 → Flushing o m s t w → Says a m n t u
    → IsOwing m → m.why ≡ None → IsBelow n.state n.replied → n.ending ≡ m.ending → Flushing o n s u x
flushing_step a o m n s t u w x is few h p owing none below ending =
    let nothing : 0 + 0 ≡ 0 = omega arith in
    let later : m.calls ≤ n.calls = omega (arith, p.calls) in
    let earlier : o.calls ≤ m.calls = omega (arith, h.calls) in
    record {
      few = few;
      moved = moved_then o m n s t u 0 w 0 (writes_of a) 0 x nothing is h.moved p.moved;
      came = ap (λ (y : List ℕ). y ++ p.moved.came) h.came ∙ p.came;
      given = p.given ∙ h.given;
      calls = p.calls ∙ h.calls;
      rests = leaves_on o.state o m n h.rests owing p.replied below;
      drains = drains_then o m n later earlier h.drains (drains_same m n ending);
      why = p.why;
      ends = ends_then o.ending.late m.why n.why s t u none h.moved.failed_reads h.moved.failed_writes
          (subst (λ (y : Option Late). TurnEnds y n.why t u) h.drains.late p.ends) h.ends;
    }

pub falling_start : (o : Shown) → Falling o o 0
falling_start o same = omega arith

pub falling_step : (o m n : Shown) (s t u : Seen) (w : ℕ) → Falling o m w → Flushing o m s t w → Says said.Wrote m n t u → IsOwing m
    → Falling o n (w + 1)
falling_step o m n s t u w h f p owing same =
    let before = state_before o.state o m n f.rests owing p.replied same in
    let a = p.leaves (same ∙ sym before) in
    let b = h before in
    omega (arith, a, b)

-- what such writes leave of what is owed, and one more that may have had to wait
abbrev pub Fallen : Shown → Shown → ℕ → Type 0
Fallen old new writes = new.state ≡ old.state → length new.owed + writes ≤ length old.owed + 1

pub fallen : (o n : Shown) (w : ℕ) → Falling o n w → Fallen o n w
fallen o n w h same = let a = h same in omega (arith, a)

pub fallen_over : (o n : Shown) (w : ℕ) → IsOwing o → n.state ≡ state.Over → Fallen o n w
fallen_over o n w owing over same = absurd (owing_live o owing (sym same ∙ over))

pub fallen_step : (o m n : Shown) (t u : Seen) (w : ℕ) → Falling o m w → SaidLeaves said.Waits m n t u → Fallen o n (w + 1)
fallen_step o m n t u w h p same = let b = h (sym p.0 ∙ same) in omega (arith, p.2, b)

-- a hijacker that has the connection owes some bytes
owing_some : (n : Shown) → IsOwing n → n.state ≡ state.Hijacked → n.owed ≢ []
owing_some n owing unfed = elim owing [ inl x ↦ absurd (cc) | inr x ↦ x.1 ]

-- what is owed is what a hijacker said, where no reply was under way
held_first : (o : Shown) (handed : Bool) → IsOwing o → (IsTrue handed ↔ (o.state ≡ state.Answering)) → handed ≡ false → o.state ≡ state.Hijacked
held_first o handed owing by not =
    elim owing [ inl saying ↦ let t : handed ≡ true = by.1 saying in cc | inr x ↦ x.0 ]

still_owing : (o n : Shown) → IsStillOwing o n → IsOwing n
still_owing o n h = elim h [ inl saying ↦ inl saying | inr k ↦ inr (k.0, k.2) ]

module _ {B H : Type 0} (a : At B H) (o n : Shown) (s u : Seen) (w : ℕ) (handed : Bool) (h : Flushing o n s u w) (falls : Fallen o n w)
    (is : n.state ≡ state_at a) (owing : IsOwing o) (by : IsTrue handed ↔ (o.state ≡ state.Answering)) (says : IsSaying a → IsOwing n)
    (hears : IsHearing a → IsListening n) (stopped : Rose s.waits u.waits ⊎ (¬ (IsOwing n) ⊎ (w ≡ 16))) where
  flush_tells : (result : Next) → FlushedSo result a w handed → FlushTells result w o n s u
  flush_tells next.Waiting f =
      let still : IsStillOwing o n =
      elim f.0 [
        | inl saying ↦ inl (is ∙ saying)
        | inr k ↦ inr (is ∙ k.0, held_first o handed owing by k.2, owing_some n (says k.1) (is ∙ k.0))
      ] in (
        still,
        f.1,
        elim stopped [ inl rose ↦ rose | inr k ↦ elim k [ inl not ↦ absurd (not (still_owing o n still)) | inr e ↦ absurd (f.1 e) ] ],
      )
  flush_tells next.More f = (
    elim f.0 [
      | inl reading ↦ inl (is ∙ reading)
      | inr k ↦ inr (is ∙ k.0, elim k.1 [ inl hear ↦ inr (hears hear).1 | inr t ↦ inl (by.0 t) ])
    ],
    f.1,
  )
  flush_tells next.Ready f = (is ∙ f.0, f.1)
  flush_tells next.TurnOver f = (λ e. f.0 (sym is ∙ e), f.1)
  flush_tells next.Over f = is ∙ f

  -- and its end
  pub flushing_end : (now : ℕ) (result : Next) → FlushedSo result a w handed → FlushMade now o n s u w → Flushes now result o n s u
  flushing_end now result f made = record {
    writes = w;
    few = h.few;
    moves = made.moves;
    waited = made.waited;
    made = made.made;
    stops = made.stops;
    moved = h.moved;
    came = h.came;
    given = h.given;
    calls = h.calls;
    falls = falls;
    rests = h.rests;
    drains = h.drains;
    why = h.why;
    ends = h.ends;
    tells = flush_tells result f;
  }
