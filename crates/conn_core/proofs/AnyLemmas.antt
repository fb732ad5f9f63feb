-- What an owner carries of a connection whatever its runner is: each call keeps it.
use Rattle.std.proofs.Common.{◌≡◌, ℕ, zero, suc, ◌<◌, ◌≤◌, Bool, true, false, nat_lt, List, [], refl, sym, ap, subst, ◌∙◌, arith, Option, None, Some, ◌⊎◌, ⊎_elim, ◌+◌}
use Rattle.std.specs.Prelude.{length, if◌then◌else◌}
use Rattle.std.proofs.lemmas.Bool.Decides.{nat_tests}
use Rattle.rack_types.specs.declared.answer.Answer.{Answer}
use Rattle.rack_types.specs.declared.answer.Answer.TheVariants.{Raised}
use Rattle.rack_types.specs.declared.body.Body.{Ghosts}
use Rattle.rack_types.specs.declared.peer.Local.{Local}
use Rattle.rack_types.specs.Body.{Content}
use Rattle.rack_types.specs.Env.{Pairs}
use Rattle.rack_types.specs.Runner.{Asked}
use Rattle.rack_outside.specs.Link.{Seen}
use Rattle.talk_core.specs.declared.ended.Why.{Why}
use Rattle.talk_core.specs.declared.ended.IdleBy.TheVariants.{Drain}
use Rattle.talk_core.specs.declared.ended.Life.{Life}
use Rattle.talk_core.specs.declared.ended.Why.TheVariants as why
use Rattle.talk_core.specs.Answered.{Answers, tell_by, tell_from}
use Rattle.talk_core.specs.Lives.{AreLives, lives_limit}
use Rattle.talk_core.specs.Tail.{Voice}
use Rattle.talk_core.specs.Teller.{Stack, Stacks, Teller, tell}
use Rattle.talk_core.proofs.CallerLemmas.{lives_later, placed_are, joined, joined_below, joined_from, from_joined}
use Rattle.conn_core.specs.declared.conn.Conn.{Conn}
use Rattle.conn_steps.specs.declared.inside.Inside.{Inside}
use Rattle.conn_steps.specs.declared.moments.Ending.{Ending}
use Rattle.conn_steps.specs.declared.state.Next.{Next}
use Rattle.conn_steps.specs.declared.state.State.{State}
use Rattle.conn_steps.specs.declared.state.State.TheVariants as state
use Rattle.conn_steps.specs.declared.state.Tick.{Tick}
use Rattle.conn_steps.specs.declared.state.Tick.TheVariants as tick
use Rattle.conn_core.specs.Calls.{Feeds, Flushes, Turns}
use Rattle.conn_steps.specs.Holds.{kept}
use Rattle.conn_core.specs.Holds.{Holds, HoldsWith}
use Rattle.conn_steps.specs.Keeps.{no_bytes, reaching}
use Rattle.conn_steps.specs.Opened.{opened}
use Rattle.conn_steps.specs.Owner.{HasRoomFor, IsNoneAbove, placed, Ticks, ended_as, late_as, drained, drained_from, drained_in, drained_reading, drained_hijacked}
use Rattle.conn_steps.specs.Ran.{Ran}
use Rattle.conn_core.specs.Ran.{HoldsAny}
use Rattle.conn_steps.specs.Shown.{Shown}
use Rattle.conn_core.specs.Shown.{shown, link_of}
use Rattle.conn_steps.proofs.CallerLemmas.{no_answers}
use Rattle.conn_steps.proofs.CallerLemmas.{retold}
use Rattle.conn_core.proofs.TurnLemmas.{last_before}

-- both sides, the lives, how many requests were run, and which reply closes by draining are as before
pub record SameGround (old new : Shown) : Type 0 where
  pub local : new.local ≡ old.local
  pub peer : new.peer ≡ old.peer
  pub lives : new.lives ≡ old.lives
  pub calls : new.calls ≡ old.calls
  pub closing : new.ending.closing ≡ old.ending.closing

pub ground_same : (o n : Shown) → n ≡ o → SameGround o n
ground_same o n e = record {
  local = ap (λ (x : Shown). x.local) e;
  peer = ap (λ (x : Shown). x.peer) e;
  lives = ap (λ (x : Shown). x.lives) e;
  calls = ap (λ (x : Shown). x.calls) e;
  closing = ap (λ (x : Shown). x.ending.closing) e;
}

-- each call but a turn leaves them as they are
pub ground_fed : (now : ℕ) (result : Next) (o n : Shown) (s u : Seen) → Feeds now result (reaching now o) n s u → SameGround o n
ground_fed now result o n s u f = record {
  local = f.once.local;
  peer = f.once.peer;
  lives = f.once.lives;
  calls = f.once.calls;
  closing = ap (λ (e : Ending). e.closing) f.keeps.ending;
}

pub ground_flushed : (now : ℕ) (result : Next) (o n : Shown) (s u : Seen) → Flushes now result (reaching now o) n s u → SameGround o n
ground_flushed now result o n s u f = record {
  local = f.moved.local;
  peer = f.moved.peer;
  lives = f.moved.lives;
  calls = f.calls;
  closing = ⊎_elim (λ e. e) (λ once. absurd (omega (arith, once.4, once.5, f.calls))) f.drains.closing;
}

ground_by : (o m n : Shown) → SameGround o m → n ≡ m → SameGround o n
ground_by o m n h e = subst (λ (x : Shown). SameGround o x) (sym e) h

pub ground_ended : (w : Why) (o n : Shown) → n ≡ ended_as w o → SameGround o n
ground_ended w o n e = ground_by o (ended_as w o) n (record { local = refl; peer = refl; lives = refl; calls = refl; closing = refl }) e

pub ground_ticked : (result : Tick) (now : ℕ) (o n : Shown) → Ticks result now (reaching now o) n → SameGround o n
ground_ticked tick.Still now o n t = ground_by o (reaching now o) n (record { local = refl; peer = refl; lives = refl; calls = refl; closing = refl }) t.3
ground_ticked tick.Write now o n t =
    ground_by o (late_as t.1.0 now (reaching now o)) n (record { local = refl; peer = refl; lives = refl; calls = refl; closing = refl }) t.1.2
ground_ticked tick.Over now o n t =
    ⊎_elim (λ h. ground_by o (ended_as _ (reaching now o)) n (record { local = refl; peer = refl; lives = refl; calls = refl; closing = refl }) h.1)
    (λ h. ground_by o (ended_as _ (reaching now o)) n (record { local = refl; peer = refl; lives = refl; calls = refl; closing = refl }) h.2) t

drained_ground : (level : ℕ) (c : Shown) → SameGround c (drained level c)
drained_ground level c = from c.taken
  where
    d : Shown
    d = record c { ending = record c.ending { told = level } }

    as_here : SameGround c d
    as_here = record { local = refl; peer = refl; lives = refl; calls = refl; closing = refl }

    room : (b : Bool) → SameGround c (if b then d else ended_as (why.Idle (Drain level)) d)
    room true = as_here
    room false = record { local = refl; peer = refl; lives = refl; calls = refl; closing = refl }

    reading : (o : Option ℕ) → SameGround c (drained_reading o level d)
    reading None = room (nat_lt (length c.lives) lives_limit)
    reading (Some since) = as_here

    handed : (b : Bool) → SameGround c (drained_hijacked b (record d { ending = record d.ending { dismissed = true } }))
    handed true = record { local = refl; peer = refl; lives = refl; calls = refl; closing = refl }
    handed false = record { local = refl; peer = refl; lives = refl; calls = refl; closing = refl }

    in_state : (x : State) → SameGround c (drained_in x level d)
    in_state state.Reading = reading c.moments.begun
    in_state state.Ready = as_here
    in_state state.Answering = as_here
    in_state state.Hijacked = handed (no_bytes c.owed)
    in_state state.Over = as_here

    from : (n : ℕ) → SameGround c (drained_from n level d)
    from zero = as_here
    from (suc n) = in_state c.state

pub ground_drained : (level : ℕ) (o n : Shown) → n ≡ drained level o → SameGround o n
ground_drained level o n e = subst (λ (x : Shown). SameGround o x) (sym e) (drained_ground level o)

module _ {L B H : Type 0} {g : Ghosts B} (seen : L → Seen) (V : Voice H) (IsFit : Answer Content H → Type 0) where
  -- by any call that leaves those as they are, and keeps that it stands for its talk over whatever replies
  pub any_kept : (c d : Conn L B H g) → SameGround (shown c) (shown d) → ((T : Teller H) → HoldsWith seen V T c → HoldsWith seen V T d)
      → HoldsAny seen V IsFit c → HoldsAny seen V IsFit d
  any_kept c d same keeps h =
      let a = h.answers in
      let o = shown c in
      let n = shown d in
      let T : Teller H = tell_by a o.local o.peer o.ending.closing in
      let is : T ≡ tell_by a n.local n.peer n.ending.closing =
      ap (λ (l : Local). tell_by a l o.peer o.ending.closing) (sym same.local)
      ∙ ap (λ (p : List ℕ). tell_by a n.local p o.ending.closing) (sym same.peer)
      ∙ ap (λ (x : Option ℕ). tell_by a n.local n.peer x) (sym same.closing) in
      record {
        answers = a;
        fit = λ k lt. h.fit k (omega (arith, lt, same.calls));
        lives_are = subst (λ (x : List Life). AreLives x n.calls) (sym same.lives) (subst (λ (k : ℕ). AreLives o.lives k) (sym same.calls) h.lives_are);
        stands = subst (λ (U : Teller H). HoldsWith seen V U d) is (keeps T h.stands);
      }

  -- from its opening on
  pub any_opened : (c : Conn L B H g) (peer : List ℕ) (local : Local) (phase now : ℕ) → shown c ≡ opened peer local phase now
      → ((S : Stacks H) → Holds seen V S c) → HoldsAny seen V IsFit c
  any_opened c peer local phase now is holds =
      let o = shown c in
      let S : Stacks H = λ phase ps input. Raised [] in
      let h = holds S in
      let p = c.inside.value in
      let T : Teller H = tell S o.lives o.local o.peer o.ending.closing in
      let U : Teller H = tell_by no_answers o.local o.peer o.ending.closing in
      let none : o.calls ≡ 0 = ap (λ (x : Shown). x.calls) is in
      record {
        answers = no_answers;
        fit = λ k lt. absurd (omega (arith, lt, none));
        lives_are = h.lives_are;
        stands = retold V T U (seen c.link) p.peer p.at (kept p) (λ i lt r. absurd (omega (arith, lt, none))) h.stands;
      }

  pub any_fed : (c d : Conn L B H g) (now : ℕ) (result : Next) → Feeds now result (reaching now (shown c)) (shown d) (seen (link_of c)) (seen (link_of d))
      → ((T : Teller H) → HoldsWith seen V T c → HoldsWith seen V T d) → HoldsAny seen V IsFit c → HoldsAny seen V IsFit d
  any_fed c d now result f = any_kept c d (ground_fed now result (shown c) (shown d) (seen (link_of c)) (seen (link_of d)) f)

  pub any_flushed : (c d : Conn L B H g) (now : ℕ) (result : Next) → Flushes now result (reaching now (shown c)) (shown d) (seen (link_of c)) (seen (link_of d))
      → ((T : Teller H) → HoldsWith seen V T c → HoldsWith seen V T d) → HoldsAny seen V IsFit c → HoldsAny seen V IsFit d
  any_flushed c d now result f = any_kept c d (ground_flushed now result (shown c) (shown d) (seen (link_of c)) (seen (link_of d)) f)

  pub any_ticked : (c d : Conn L B H g) (now : ℕ) (result : Tick) → Ticks result now (reaching now (shown c)) (shown d)
      → ((T : Teller H) → HoldsWith seen V T c → HoldsWith seen V T d) → HoldsAny seen V IsFit c → HoldsAny seen V IsFit d
  any_ticked c d now result t = any_kept c d (ground_ticked result now (shown c) (shown d) t)

  pub any_drained : (c d : Conn L B H g) (level : ℕ) → shown d ≡ drained level (shown c)
      → ((T : Teller H) → HoldsWith seen V T c → HoldsWith seen V T d) → HoldsAny seen V IsFit c → HoldsAny seen V IsFit d
  any_drained c d level e = any_kept c d (ground_drained level (shown c) (shown d) e)

  pub any_ended : (c d : Conn L B H g) (w : Why) → shown d ≡ ended_as w (shown c)
      → ((T : Teller H) → HoldsWith seen V T c → HoldsWith seen V T d) → HoldsAny seen V IsFit c → HoldsAny seen V IsFit d
  any_ended c d w e = any_kept c d (ground_ended w (shown c) (shown d) e)

  -- a watcher or a touch had its link
  pub any_lent : (c d : Conn L B H g) → shown d ≡ shown c
      → ((T : Teller H) → HoldsWith seen V T c → HoldsWith seen V T d) → HoldsAny seen V IsFit c → HoldsAny seen V IsFit d
  any_lent c d e = any_kept c d (ground_same (shown c) (shown d) e)

  -- placing may give it another life
  pub any_placed : (c d : Conn L B H g) (phase : ℕ) → shown d ≡ placed phase (shown c) → HasRoomFor phase (shown c) → IsNoneAbove phase (shown c)
      → ((T : Teller H) → HoldsWith seen V T c → HoldsWith seen V T d) → HoldsAny seen V IsFit c → HoldsAny seen V IsFit d
  any_placed c d phase p room none_above keeps h =
      let o = shown c in
      let n = shown d in
      let a = h.answers in
      let calls : n.calls ≡ o.calls = ap (λ (x : Shown). x.calls) p in
      let T : Teller H = tell_by a o.local o.peer o.ending.closing in
      let is : T ≡ tell_by a n.local n.peer n.ending.closing =
      ap (λ (l : Local). tell_by a l o.peer o.ending.closing) (sym (ap (λ (x : Shown). x.local) p))
      ∙ ap (λ (e : List ℕ). tell_by a n.local e o.ending.closing) (sym (ap (λ (x : Shown). x.peer) p))
      ∙ ap (λ (x : Option ℕ). tell_by a n.local n.peer x) (sym (ap (λ (x : Shown). x.ending.closing) p)) in
      record {
        answers = a;
        fit = λ k lt. h.fit k (omega (arith, lt, calls));
        lives_are = subst (λ (x : Shown). AreLives x.lives x.calls) (sym p) (placed_are o.lives phase o.calls h.lives_are room none_above);
        stands = subst (λ (U : Teller H). HoldsWith seen V U d) is (keeps T h.stands);
      }

  -- and a turn, of any runner all of whose answers are such, those that it gave and those that it foretells: behind those
  -- that came before there are those that it gave
  pub any_turned : {R : Type 0} (c d : Conn L B H g) (now : ℕ) (result : Next) (answer : R → Stack H)
      (answered answered' : Option (List (Answer Content H))) (asked asked' : Option (List (Asked × Bool)))
      → Turns now result (reaching now (shown c)) (shown d) (seen (link_of c)) (seen (link_of d)) → (h : HoldsAny seen V IsFit c)
      → (r : Ran (λ (U : Teller H). HoldsWith seen V U d) (tell_by h.answers (shown c).local (shown c).peer (shown c).ending.closing) answer (shown c).calls
      (seen (link_of c)) (seen (link_of d)) (shown d) answered answered' asked asked')
      → ((k : ℕ) → (shown c).calls ≤ k → k < (shown c).calls + r.good → IsFit (r.answers k)) → ((x : R) (ps : Pairs) (input : List ℕ) → IsFit (answer x ps input))
      → (m : HoldsAny seen V IsFit d) × ((k : ℕ) → k < (shown c).calls → m.answers k ≡ h.answers k) × ((k : ℕ) → (shown c).calls ≤ k → m.answers k ≡ r.answers k)
  any_turned {R} c d now result answer answered answered' asked asked' t h r given fit = (
    record {
      answers = J;
      fit = fits;
      lives_are = let later : o.calls ≤ n.calls = omega (arith, t.calls) in
          subst (λ (x : List Life). AreLives x n.calls) (sym t.moved.lives) (lives_later o.lives o.calls n.calls later h.lives_are);
      stands = retold V (tell_from (tell_by a n.local n.peer o.ending.closing) first r.answers n.local n.peer n.ending.closing)
          (tell_by J n.local n.peer n.ending.closing) (seen d.link) p.peer p.at (kept p)
          (from_joined a r.answers n.local n.peer o.ending.closing n.ending.closing first n.calls
          (λ k lt. last_before (reaching now o) n k lt t.drains.closing))
          (subst (λ (U : Teller H). HoldsWith seen V (tell_from U first r.answers n.local n.peer n.ending.closing) d) sides r.stands);
    },
    λ k lt. joined_below first a r.answers k lt,
    λ k from. joined_from first a r.answers k from,
  )
    where
      o : Shown
      o = shown c

      n : Shown
      n = shown d

      a : Answers H
      a = h.answers

      first : ℕ
      first = o.calls

      p : Inside B H g
      p = d.inside.value

      J : Answers H
      J = joined first a r.answers

      sides : tell_by a o.local o.peer o.ending.closing ≡ tell_by a n.local n.peer o.ending.closing
      sides =
          ap (λ (l : Local). tell_by a l o.peer o.ending.closing) (sym t.moved.local)
          ∙ ap (λ (e : List ℕ). tell_by a n.local e o.ending.closing) (sym t.moved.peer)

      fits : (k : ℕ) → k < n.calls → IsFit (J k)
      fits k lt = go (nat_lt k first) refl
        where
          go : (b : Bool) → nat_lt k first ≡ b → IsFit (J k)
          go true is =
              let below : k < first = grind (arith, nat_tests, is) in subst IsFit (sym (joined_below first a r.answers k below)) (h.fit k below)
          go false is =
              let behind : first ≤ k = grind (arith, nat_tests, is) in
              subst IsFit (sym (joined_from first a r.answers k behind))
              (⊎_elim (λ few. given k behind few) (λ gives. subst IsFit (sym gives.3) (fit gives.0 gives.1 gives.2)) (r.gives k behind lt))
