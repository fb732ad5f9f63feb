-- What the steps of a connection leave that is driven, and that they come to an end.
use Rattle.std.proofs.Common.{◌≡◌, ◌≢◌, ℕ, suc, ◌+◌, ◌-◌, ◌*◌, ◌^◌, ◌<◌, ◌≤◌, min, List, [], ◌∷◌, length, refl, sym, ap, subst, ◌∙◌, arith, None, inl, inr}
use Rattle.rack_types.specs.Env.{Pairs}
use Rattle.rack_outside.specs.Link.{Seen}
use Rattle.rack_outside.specs.Told.{Rose}
use Rattle.reply_framing.specs.declared.types.After.{After}
use Rattle.reply_framing.specs.declared.types.After.TheVariants.{Keep, Close, Hijack}
use Rattle.talk_core.specs.declared.ended.Life.{Life}
use Rattle.talk_core.specs.Teller.{Stack, Stacks, last_phase}
use Rattle.conn_steps.specs.Ends.{RestsBehind}
use Rattle.conn_core.specs.Calls.{Feeds, Turns, Flushes}
use Rattle.conn_steps.specs.Keeps.{reaching}
use Rattle.conn_steps.specs.Opened.{untold}
use Rattle.conn_steps.specs.Shown.{Shown, Moved}
use Rattle.conn_steps.specs.declared.state.Next.{Next}
use Rattle.conn_steps.specs.declared.state.Next.TheVariants as next
use Rattle.conn_steps.specs.declared.state.State.{State}
use Rattle.conn_steps.specs.declared.state.State.TheVariants as state
use Rattle.conn_core.proofs.CallerLemmas.{moved_none, moved_then, taken_by}
use Rattle.puma_top.specs.Drive.{EndsSo, Drives, left_of, left_to, still_left, owing, still_owing, saying, still_saying, IsSaid}
use Rattle.puma_top.specs.Once.{most_taken}
use Rattle.puma_top.proofs.EndsLemmas.{ends_on, feed_ends, turn_ends, flush_ends, still_untold}
use Rattle.puma_top.proofs.HeardLemmas.{heard_end, heard_state}

-- at the start
pub driven_none : (o : Shown) (s : Seen) → o.why ≡ None → Drives o o s s
driven_none o s none = record {
  reads = 0;
  writes = 0;
  moved = moved_none o s;
  ending = refl;
  ends = subst (λ w. EndsSo w s s) (sym none) tt;
}

-- some steps more
pub driven : (o m n : Shown) (s t u : Seen) → Drives o m s t → Drives m n t u → Drives o n s u
driven o m n s t u d e = record {
  reads = d.reads + e.reads;
  writes = d.writes + e.writes;
  moved = moved_then o m n s t u d.reads d.writes e.reads e.writes (d.reads + e.reads) (d.writes + e.writes) refl refl d.moved e.moved;
  ending = e.ending ∙ d.ending;
  ends = ends_on n.why s t u d.moved.failed_reads d.moved.failed_writes e.ends;
}

-- the moment that a call is handed changes nothing else
reached : (now : ℕ) (o n : Shown) (s u : Seen) (x y : ℕ) → Moved (reaching now o) n s u x y → Moved o n s u x y
reached now o n s u x y h = record {
  peer = h.peer;
  local = h.local;
  lives = h.lives;
  tag = h.tag;
  link_peer = h.link_peer;
  borrows = h.borrows;
  input = h.input;
  waits = h.waits;
  failed_reads = h.failed_reads;
  failed_writes = h.failed_writes;
  reads_are = h.reads_are;
  writes_are = h.writes_are;
  came = h.came;
  given = h.given;
  taken = h.taken;
}

-- each call is such a step
pub feed_driven : (now : ℕ) (a : Next) (o m n : Shown) (s t u : Seen) → m.why ≡ None → Drives o m s t → Feeds now a (reaching now m) n t u → Drives o n s u
feed_driven now a o m n s t u none d h = driven o m n s t u d (record {
  reads = 1;
  writes = 0;
  moved = reached now m n t u 1 0 h.moved;
  ending = h.keeps.ending;
  ends = feed_ends now a (reaching now m) n t u none h;
})

pub turn_driven : (now : ℕ) (a : Next) (o m n : Shown) (s t u : Seen) → o.ending ≡ untold → Drives o m s t → Turns now a (reaching now m) n t u → Drives o n s u
turn_driven now a o m n s t u is d h = driven o m n s t u d (record {
  reads = h.reads;
  writes = h.writes;
  moved = reached now m n t u h.reads h.writes h.moved;
  ending = still_untold (reaching now m) n (d.ending ∙ is) h.drains;
  ends = turn_ends n.why t u h.ends;
})

pub flush_driven : (now : ℕ) (a : Next) (o m n : Shown) (s t u : Seen) → o.ending ≡ untold → Drives o m s t → Flushes now a (reaching now m) n t u
    → Drives o n s u
flush_driven now a o m n s t u is d h = driven o m n s t u d (record {
  reads = 0;
  writes = h.writes;
  moved = reached now m n t u 0 h.writes h.moved;
  ending = still_untold (reaching now m) n (d.ending ∙ is) h.drains;
  ends = flush_ends m.ending n.why t u (d.ending ∙ is) h.ends;
})

-- nothing waits where no wait is counted
calm : (x y : ℕ) → x ≡ 0 → y ≡ 0 → Rose x y → ⊥
calm x y e f rose = omega (arith, e, f, rose)

-- no byte that was taken is lost
pub taken_more : (o n : Shown) (s u : Seen) (x y : ℕ) → o.taken < most_taken → Moved o n s u x y → o.taken ≤ n.taken
taken_more o n s u x y few h =
    let fits : o.taken < 2 ^ 64 = omega (arith, few) in
    let is : n.taken ≡ min (o.taken + length h.came) (2 ^ 64 - 1) = h.taken ∙ taken_by (length h.came) o.taken fits in
    omega (arith, few, is)

-- and where some came there are more
taken_some : (o n : Shown) (s u : Seen) (x y : ℕ) → o.taken < most_taken → (h : Moved o n s u x y) → 0 < length h.came → o.taken < n.taken
taken_some o n s u x y few h some =
    let fits : o.taken < 2 ^ 64 = omega (arith, few) in
    let is : n.taken ≡ min (o.taken + length h.came) (2 ^ 64 - 1) = h.taken ∙ taken_by (length h.came) o.taken fits in
    omega (arith, few, is, some)

at_state : (c : Shown) (b : State) → c.state ≡ b → still_left c ≡ left_of b c.taken c.replied (left_to c.owed c.after)
at_state c b e = ap (λ (x : State). left_of x c.taken c.replied (left_to c.owed c.after)) e

-- what is still to be done for a hijacker
left_few : (owed : List ℕ) (after : After) → left_to owed after ≤ 3
left_few [] after = omega arith
left_few (b ∷ bs) Keep = omega arith
left_few (b ∷ bs) Close = omega arith
left_few (b ∷ bs) Hijack = omega arith

left_some : (owed : List ℕ) (after : After) → 0 < left_to owed after
left_some [] after = omega arith
left_some (b ∷ bs) Keep = omega arith
left_some (b ∷ bs) Close = omega arith
left_some (b ∷ bs) Hijack = omega arith

left_none : (owed : List ℕ) (after : After) → owed ≡ [] → left_to owed after ≡ 2
left_none owed after e = ap (λ (l : List ℕ). left_to l after) e

left_last : (owed : List ℕ) (after : After) → owed ≢ [] → after ≡ Close → left_to owed after ≡ 1
left_last [] after some e = absurd (some refl)
left_last (b ∷ bs) after some e = ap (λ (a : After). left_to (b ∷ bs) a) e

left_more : (owed : List ℕ) (after : After) → owed ≢ [] → after ≢ Close → left_to owed after ≡ 3
left_more [] after some other = absurd (some refl)
left_more (b ∷ bs) Keep some other = refl
left_more (b ∷ bs) Close some other = absurd (other refl)
left_more (b ∷ bs) Hijack some other = refl

-- each step leaves less. This is a read for the reader of requests
pub feed_less : (now : ℕ) (a : Next) (o n : Shown) (s u : Seen) → o.state ≡ state.Reading → o.taken < most_taken → s.waits ≡ 0 → u.waits ≡ 0
    → Feeds now a o n s u → still_left n < still_left o
feed_less now next.Waiting o n s u is few e f h = absurd (calm s.waits u.waits e f h.tells.3)
feed_less now next.More o n s u is few e f h =
    let same : n.state ≡ state.Reading = h.tells.0 ∙ is in
    let was : still_left o ≡ 6 * (most_taken - o.taken) + 6 * (10001 - o.replied) + 6 = at_state o state.Reading is in
    let left : still_left n ≡ 6 * (most_taken - n.taken) + 6 * (10001 - n.replied) + 6 = at_state n state.Reading same in
    elim h.tells.1 [
      | inl some ↦ let more : o.taken < n.taken = taken_some o n s u 1 0 few h.moved some in omega (arith, few, more, was, left, h.replied)
      | inr end ↦ absurd (heard_end h.answer o n s u is end same h.once)
    ]
feed_less now next.Ready o n s u is few e f h =
    let taken : o.taken ≤ n.taken = taken_more o n s u 1 0 few h.moved in
    let was : still_left o ≡ 6 * (most_taken - o.taken) + 6 * (10001 - o.replied) + 6 = at_state o state.Reading is in
    let left : still_left n ≡ 6 * (most_taken - n.taken) + 6 * (10001 - n.replied) + 5 = at_state n state.Ready h.tells in
    omega (arith, taken, was, left, h.replied)
feed_less now next.TurnOver o n s u is few e f h = absurd h.tells
feed_less now next.Over o n s u is few e f h =
    let was : still_left o ≡ 6 * (most_taken - o.taken) + 6 * (10001 - o.replied) + 6 = at_state o state.Reading is in
    let left : still_left n ≡ 0 = at_state n state.Over h.tells in
    omega (arith, was, left)

turned_less : (b : State) (t r x q h : ℕ) → t ≤ x → h ≤ 3 → RestsBehind b r q → left_of b x q h < left_of state.Ready t r h
turned_less state.Reading t r x q h more few rests = omega (arith, more, rests.0, rests.1)
turned_less state.Ready t r x q h more few rests = omega (arith, more, rests.0, rests.1)
turned_less state.Answering t r x q h more few rests = omega (arith, more, rests)
turned_less state.Hijacked t r x q h more few rests = omega (arith, more, few)
turned_less state.Over t r x q h more few rests = omega arith

pub turn_less : (now : ℕ) (a : Next) (o n : Shown) (s u : Seen) → o.state ≡ state.Ready → o.taken < most_taken → Turns now a o n s u → still_left n < still_left o
turn_less now a o n s u is few h =
    let less : still_left n < left_of state.Ready o.taken o.replied (left_to n.owed n.after) =
    turned_less n.state o.taken o.replied n.taken n.replied (left_to n.owed n.after) (taken_more o n s u h.reads h.writes few h.moved)
    (left_few n.owed n.after) h.rests in
    subst (λ (k : ℕ). still_left n < k) (sym (at_state o state.Ready is)) less

said_less : (b : State) (t r x q h : ℕ) → t ≤ x → h ≤ 3 → RestsBehind b r q → b ≢ state.Answering → left_of b x q h < left_of state.Answering t r h
said_less state.Reading t r x q h more few rests other = omega (arith, more, rests.0, rests.1)
said_less state.Ready t r x q h more few rests other = omega (arith, more, rests.0, rests.1)
said_less state.Answering t r x q h more few rests other = absurd (other refl)
said_less state.Hijacked t r x q h more few rests other = omega (arith, more, few)
said_less state.Over t r x q h more few rests other = omega arith

pub say_less : (o n : Shown) (s u : Seen) → o.state ≡ state.Answering → o.taken < most_taken → Drives o n s u → RestsBehind n.state o.replied n.replied
    → n.state ≢ state.Answering → still_left n < still_left o
say_less o n s u is few h rests other =
    let less : still_left n < left_of state.Answering o.taken o.replied (left_to n.owed n.after) =
    said_less n.state o.taken o.replied n.taken n.replied (left_to n.owed n.after) (taken_more o n s u h.reads h.writes few h.moved)
    (left_few n.owed n.after) rests other in
    subst (λ (k : ℕ). still_left n < k) (sym (at_state o state.Answering is)) less

-- what a hijacker said is written
pub tail_less : (o n : Shown) (s u : Seen) → o.state ≡ state.Hijacked → o.owed ≢ [] → o.taken < most_taken → Drives o n s u → IsSaid o n
    → still_left n < still_left o
tail_less o n s u is some few h said =
    let was : still_left o ≡ 6 * (most_taken - o.taken) + left_to o.owed o.after = at_state o state.Hijacked is in
    let taken : o.taken ≤ n.taken = taken_more o n s u h.reads h.writes few h.moved in
    elim said [
      | inl over ↦
          let left : still_left n ≡ 0 = at_state n state.Over over in
          let more : 0 < left_to o.owed o.after = left_some o.owed o.after in
          omega (arith, was, left, more)
      | inr on ↦
          let left : still_left n ≡ 6 * (most_taken - n.taken) + left_to n.owed n.after = at_state n state.Hijacked on.0 in
          let none : left_to n.owed n.after ≡ 2 = left_none n.owed n.after on.1 in
          let more : left_to o.owed o.after ≡ 3 = left_more o.owed o.after some on.2 in
          omega (arith, was, left, none, more, taken)
    ]

-- it is told what a read gives
pub hear_less : (now : ℕ) (a : Next) (o n : Shown) (s u : Seen) → o.state ≡ state.Hijacked → o.owed ≡ [] → o.taken < most_taken → s.waits ≡ 0 → u.waits ≡ 0
    → Feeds now a o n s u → still_left n < still_left o
hear_less now next.Waiting o n s u is none few e f h = absurd (calm s.waits u.waits e f h.tells.3)
hear_less now next.More o n s u is none few e f h =
    let was : still_left o ≡ 6 * (most_taken - o.taken) + left_to o.owed o.after = at_state o state.Hijacked is in
    let two : left_to o.owed o.after ≡ 2 = left_none o.owed o.after none in
    let left : still_left n ≡ 6 * (most_taken - n.taken) + left_to n.owed n.after = at_state n state.Hijacked (h.tells.0 ∙ is) in
    elim h.tells.1 [
      | inl some ↦
          let more : o.taken < n.taken = taken_some o n s u 1 0 few h.moved some in
          let three : left_to n.owed n.after ≤ 3 = left_few n.owed n.after in
          omega (arith, few, more, was, two, left, three)
      | inr end ↦
          let taken : o.taken ≤ n.taken = taken_more o n s u 1 0 few h.moved in
          let last = heard_state h.answer o n s u is h.once in
          let one : left_to n.owed n.after ≡ 1 = left_last n.owed n.after (last.1 end (h.tells.0 ∙ is)).1 (last.1 end (h.tells.0 ∙ is)).0 in
          omega (arith, taken, was, two, left, one)
    ]
hear_less now next.Ready o n s u is none few e f h = elim (heard_state h.answer o n s u is h.once).0 [ inl x ↦ cc (x, h.tells) | inr x ↦ cc (x, h.tells) ]
hear_less now next.TurnOver o n s u is none few e f h = absurd h.tells
hear_less now next.Over o n s u is none few e f h =
    let was : still_left o ≡ 6 * (most_taken - o.taken) + left_to o.owed o.after = at_state o state.Hijacked is in
    let two : left_to o.owed o.after ≡ 2 = left_none o.owed o.after none in
    let left : still_left n ≡ 0 = at_state n state.Over h.tells in
    omega (arith, was, two, left)

-- each flush leaves less to be said
owing_at : (c : Shown) (b : State) → c.state ≡ b → still_owing c ≡ owing b (length c.owed)
owing_at c b e = ap (λ (x : State). owing x (length c.owed)) e

owing_by : (b : State) (w x y : ℕ) → w ≡ 16 → (b ≡ state.Answering → x + w ≤ y + 1) → owing b x < suc y
owing_by state.Reading w x y e h = omega arith
owing_by state.Ready w x y e h = omega arith
owing_by state.Answering w x y e h = omega (arith, e, h refl)
owing_by state.Hijacked w x y e h = omega arith
owing_by state.Over w x y e h = omega arith

pub flush_less : (now : ℕ) (a : Next) (o n : Shown) (s u : Seen) → o.state ≡ state.Answering → s.waits ≡ 0 → u.waits ≡ 0 → Flushes now a o n s u
    → still_owing n < still_owing o
flush_less now next.Waiting o n s u is e f h = absurd (calm s.waits u.waits e f h.tells.2)
flush_less now next.More o n s u is e f h =
    let was : still_owing o ≡ suc (length o.owed) = owing_at o state.Answering is in
    elim h.tells.0 [
      | inl reads ↦ let left : still_owing n ≡ 0 = owing_at n state.Reading reads in omega (arith, was, left)
      | inr on ↦ let left : still_owing n ≡ 0 = owing_at n state.Hijacked on.0 in omega (arith, was, left)
    ]
flush_less now next.Ready o n s u is e f h =
    let was : still_owing o ≡ suc (length o.owed) = owing_at o state.Answering is in
    let left : still_owing n ≡ 0 = owing_at n state.Ready h.tells.0 in
    omega (arith, was, left)
flush_less now next.TurnOver o n s u is e f h =
    subst (λ (k : ℕ). still_owing n < k) (sym (owing_at o state.Answering is))
    (owing_by n.state h.writes (length n.owed) (length o.owed) h.tells.1 (λ same. h.falls (same ∙ sym is)))
flush_less now next.Over o n s u is e f h =
    let was : still_owing o ≡ suc (length o.owed) = owing_at o state.Answering is in
    let left : still_owing n ≡ 0 = owing_at n state.Over h.tells in
    omega (arith, was, left)

-- and so does each flush of what a hijacker said
saying_at : (c : Shown) (b : State) → c.state ≡ b → still_saying c ≡ saying b (length c.owed)
saying_at c b e = ap (λ (x : State). saying x (length c.owed)) e

saying_by : (b : State) (w x y : ℕ) → w ≡ 16 → (b ≡ state.Hijacked → x + w ≤ y + 1) → saying b x < suc y
saying_by state.Reading w x y e h = omega arith
saying_by state.Ready w x y e h = omega arith
saying_by state.Answering w x y e h = omega arith
saying_by state.Hijacked w x y e h = omega (arith, e, h refl)
saying_by state.Over w x y e h = omega arith

some_owed : (xs : List ℕ) → xs ≢ [] → 0 < length xs
some_owed [] some = absurd (some refl)
some_owed (x ∷ xs) some = omega arith

pub tail_falls : (now : ℕ) (a : Next) (o n : Shown) (s u : Seen) → o.state ≡ state.Hijacked → o.owed ≢ [] → s.waits ≡ 0 → u.waits ≡ 0 → Flushes now a o n s u
    → still_saying n < still_saying o
tail_falls now next.Waiting o n s u is some e f h = absurd (calm s.waits u.waits e f h.tells.2)
tail_falls now next.More o n s u is some e f h =
    let was : still_saying o ≡ suc (length o.owed) = saying_at o state.Hijacked is in
    elim h.tells.0 [
      | inl reads ↦ let left : still_saying n ≡ 0 = saying_at n state.Reading reads in omega (arith, was, left)
      | inr on ↦ elim on.1 [
        | inl answers ↦ absurd (two_states answers is)
        | inr none ↦
            let left : still_saying n ≡ suc (length n.owed) = saying_at n state.Hijacked on.0 in
            let bytes : 0 < length o.owed = some_owed o.owed some in
            omega (arith, was, left, bytes, ap length none)
      ]
    ]
  where
    two_states : o.state ≡ state.Answering → o.state ≡ state.Hijacked → ⊥
    two_states x y = cc
tail_falls now next.Ready o n s u is some e f h =
    let was : still_saying o ≡ suc (length o.owed) = saying_at o state.Hijacked is in
    let left : still_saying n ≡ 0 = saying_at n state.Ready h.tells.0 in
    omega (arith, was, left)
tail_falls now next.TurnOver o n s u is some e f h =
    subst (λ (k : ℕ). still_saying n < k) (sym (saying_at o state.Hijacked is))
    (saying_by n.state h.writes (length n.owed) (length o.owed) h.tells.1 (λ same. h.falls (same ∙ sym is)))
tail_falls now next.Over o n s u is some e f h =
    let was : still_saying o ≡ suc (length o.owed) = saying_at o state.Hijacked is in
    let left : still_saying n ≡ 0 = saying_at n state.Over h.tells in
    omega (arith, was, left)

-- it rests as behind what came before
pub rests_on : (b : State) (k r q : ℕ) → k ≤ r → RestsBehind b r q → RestsBehind b k q
rests_on state.Reading k r q few h = let more : k < q = omega (arith, few, h.0) in (more, h.1)
rests_on state.Ready k r q few h = let more : k < q = omega (arith, few, h.0) in (more, h.1)
rests_on state.Answering k r q few h = omega (arith, few, h)
rests_on state.Hijacked k r q few h = omega (arith, few, h)
rests_on state.Over k r q few h = tt

pub rests_then : (a b : State) (k r q : ℕ) → a ≡ state.Answering → RestsBehind a k r → RestsBehind b r q → RestsBehind b k q
rests_then a b k r q e h i = rests_on b k r q (subst (λ (x : State). RestsBehind x k r) e h) i

pub rests_start : (a : State) (k : ℕ) → a ≡ state.Answering → RestsBehind a k k
rests_start a k e = let same : k ≤ k = omega arith in subst (λ (x : State). RestsBehind x k k) (sym e) same

-- a runner ran as often as the connection says
pub room_for_turn : (runs calls : ℕ) → runs ≡ calls → calls < 10000 → runs ≤ 2 ^ 64 - 11
room_for_turn runs calls e few = omega (arith, e, few)

pub counts_on : (runs then_runs calls then_calls : ℕ) → runs ≡ calls → then_runs + calls ≡ runs + then_calls → then_runs ≡ then_calls
counts_on runs then_runs calls then_calls e more = omega (arith, e, more)

pub counts_same : (runs calls then_calls : ℕ) → runs ≡ calls → then_calls ≡ calls → runs ≡ then_calls
counts_same runs calls then_calls e same = e ∙ sym same

-- and answers as it did at the start
pub answers_then : {H : Type 0} (S : Stacks H) (first now : Stack H) (lives later : List Life) → later ≡ lives
    → ((ps : Pairs) (input : List ℕ) → S (last_phase lives) ps input ≡ first ps input)
    → ((ps : Pairs) (input : List ℕ) → now ps input ≡ first ps input)
    → (ps : Pairs) (input : List ℕ) → S (last_phase later) ps input ≡ now ps input
answers_then {H} S first now lives later same answers steady ps input =
    ap (λ (x : List Life). S (last_phase x) ps input) same ∙ answers ps input ∙ sym (steady ps input)
