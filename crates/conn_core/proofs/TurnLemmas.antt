-- What the steps of a turn leave, and what a turn did so far.
use Rattle.std.proofs.Common.{◌≡◌, ◌≢◌, ◌↔◌, ℕ, ◌+◌, ◌-◌, ◌<◌, ◌≤◌, Bool, true, false, IsTrue, List, [], ◌∷◌, length, refl, sym, ap, subst, ◌∙◌, arith, Option, None, Some, ◌⊎◌, inl, inr, ltb}
use Rattle.std.specs.Prelude.{◌==◌, ◌||◌}
use Rattle.std.proofs.lemmas.Bool.Decides.{Decides-ltb, nat_tests}
use Rattle.rack_outside.specs.Link.{Seen}
use Rattle.rack_outside.specs.Told.{Rose}
use Rattle.rack_outside.specs.declared.link.LinkRead.{LinkRead}
use Rattle.rack_outside.specs.declared.link.LinkRead.TheVariants as read
use Rattle.rack_outside.proofs.CallerLemmas.{rose_within}
use Rattle.rack_types.specs.declared.peer.Local.{Local}
use Rattle.rack_types.specs.Env.{Pairs}
use Rattle.rack_types.specs.declared.answer.Answer.{Answer}
use Rattle.rack_types.specs.Body.{Content}
use Rattle.rack_env.specs.Environment.{env_pairs}
use Rattle.message_framing.specs.declared.intake.Intake.{Intake}
use Rattle.reply_framing.specs.Reply.{reply}
use Rattle.talk_core.specs.Counts.{counted_by}
use Rattle.talk_core.specs.declared.ended.Why.{Why}
use Rattle.talk_core.specs.Teller.{Stack, Teller, reply_of, ask_of, is_last}
use Rattle.conn_steps.specs.declared.budget.Budget.{Budget}
use Rattle.conn_steps.specs.declared.budget.SayStep.{SayStep}
use Rattle.conn_steps.specs.declared.budget.Step.{Step}
use Rattle.conn_steps.specs.declared.budget.Step.TheVariants as step
use Rattle.conn_steps.specs.declared.moments.Ending.{Ending}
use Rattle.conn_steps.specs.declared.moments.Late.{Late}
use Rattle.conn_steps.specs.declared.at.At.{At}
use Rattle.conn_steps.specs.declared.at.At.TheVariants as at
use Rattle.conn_steps.specs.declared.state.Next.{Next}
use Rattle.conn_steps.specs.declared.state.Next.TheVariants as next
use Rattle.conn_steps.specs.declared.state.State.{State}
use Rattle.conn_steps.specs.declared.state.State.TheVariants as state
use Rattle.conn_core.specs.Answers.{TurnedSo}
use Rattle.conn_steps.specs.Ends.{TurnEnds, RestsBehind}
use Rattle.conn_core.specs.Calls.{IsSpent, IsListening, TurnTells, Turns}
use Rattle.conn_steps.specs.Keeps.{Drains, DrainsOnce}
use Rattle.conn_steps.specs.Inner.{IsFed, ReadLeaves, ReadsBy, TakesUp, TellsBy, TellsFrom, writes_of, HijackedOn, SaysOn, Says, Steps, IsSpentBudget, StepLeaves}
use Rattle.conn_steps.specs.Moves.{SameShown, StartsAs}
use Rattle.conn_steps.specs.At.{IsHearing, state_at}
use Rattle.conn_steps.specs.Rests.{RestsAt}
use Rattle.conn_steps.specs.Shown.{Shown, Moved, replied_at}
use Rattle.conn_steps.proofs.CallerLemmas.{counted_sum}
use Rattle.conn_core.proofs.MovesOfCalls.{full, TurnMade}
use Rattle.conn_core.proofs.PartsOfCalls.{counted_lists, moved_same, moved_by, moved_then, ends_then, drains_then, drains_same, drains_run}
use Rattle.conn_steps.proofs.CallerLemmas.{unclosed, untimed}

-- fewer than 10,000 replies were sent whole where it rests
abbrev pub IsBelow : State → ℕ → Type 0
IsBelow state.Reading n = n < 10000
IsBelow state.Ready n = n < 10000
IsBelow state.Answering n = Unit
IsBelow state.Hijacked n = Unit
IsBelow state.Over n = Unit

pub is_below : {B H : Type 0} (a : At B H) (intake : Intake) (unfed ring : List ℕ) (calls : ℕ) (m : Ending) → RestsAt a intake unfed ring calls m
    → IsBelow (state_at a) (replied_at a calls)
is_below {B} {H} at.Reading intake unfed ring calls m h = h.1.1.0
is_below {B} {H} at.Asked intake unfed ring calls m h = h.1.0
is_below {B} {H} (at.Refused f) intake unfed ring calls m h = h.1.0
is_below {B} {H} (at.Answering f) intake unfed ring calls m h = tt
is_below {B} {H} (at.Writing keeps) intake unfed ring calls m h = tt
is_below {B} {H} (at.Handing x) intake unfed ring calls m h = tt
is_below {B} {H} at.Refusing intake unfed ring calls m h = tt
is_below {B} {H} (at.Listening x) intake unfed ring calls m h = tt
is_below {B} {H} (at.Speaking x) intake unfed ring calls m h = tt
is_below {B} {H} at.Parting intake unfed ring calls m h = tt
is_below {B} {H} (at.Over w) intake unfed ring calls m h = tt

-- behind a read it rests as before it
fed_rests : (b : State) (n r q : ℕ) → IsFed b → q ≡ r → RestsBehind state.Reading n r → RestsBehind b n q
fed_rests state.Reading n r q fed e h = subst (λ (x : ℕ). RestsBehind state.Reading n x) (sym e) h
fed_rests state.Ready n r q fed e h = subst (λ (x : ℕ). RestsBehind state.Reading n x) (sym e) h
fed_rests state.Answering n r q fed e h = absurd fed
fed_rests state.Hijacked n r q fed e h = absurd fed
fed_rests state.Over n r q fed e h = tt

read_fed : (a : LinkRead) (n : Shown) (came : List ℕ) (s u : Seen) → ReadLeaves a n came s u → IsFed n.state
read_fed (read.Bytes k) n came s u h = h.2
read_fed read.NotYet n came s u h = subst IsFed (sym h.1) tt
read_fed read.End n came s u h = subst IsFed (sym h.1) tt
read_fed read.Failed n came s u h = subst IsFed (sym h.1) tt

-- nothing came where the link ended or failed
pub nothing_read : (a : LinkRead) (n : Shown) (came : List ℕ) (s u : Seen) → (a ≡ read.End) ⊎ (a ≡ read.Failed) → ReadLeaves a n came s u → came ≡ []
nothing_read (read.Bytes k) n came s u e h = elim e [ inl x ↦ cc | inr x ↦ cc ]
nothing_read read.NotYet n came s u e h = h.0
nothing_read read.End n came s u e h = h.0
nothing_read read.Failed n came s u e h = h.0

-- behind a run it answers, or a hijacker has it, or it ended
starts_rests : (b : State) (w : Option Why) (k : ℕ) (o n : Shown) → StartsAs b w o n → k ≤ o.replied → RestsBehind b k n.replied
starts_rests state.Reading w k o n h few = absurd h
starts_rests state.Ready w k o n h few = absurd h
starts_rests state.Answering w k o n h few = omega (arith, h.1, few)
starts_rests state.Hijacked w k o n h few = omega (arith, h.1, few)
starts_rests state.Over w k o n h few = tt

starts_ends : (b : State) (w : Option Why) (o n : Shown) (s : Seen) → StartsAs b w o n → TurnEnds None w s s
starts_ends state.Reading w o n s h = absurd h
starts_ends state.Ready w o n s h = absurd h
starts_ends state.Answering w o n s h = subst (λ (x : Option Why). TurnEnds None x s s) (sym h.0) refl
starts_ends state.Hijacked w o n s h = subst (λ (x : Option Why). TurnEnds None x s s) (sym h.0) refl
starts_ends state.Over w o n s h =
    elim h [
      | inl e ↦ subst (λ (x : Option Why). TurnEnds None x s s) (sym e) refl
      | inr e ↦ subst (λ (x : Option Why). TurnEnds None x s s) (sym e) refl
    ]

-- behind what was taken up
takes_rests : (now runs k : ℕ) (o n : Shown) → TakesUp now runs o n → k ≤ o.replied → RestsBehind n.state k n.replied
takes_rests now runs k o n h few =
    elim h [
      | inl run ↦ starts_rests n.state n.why k o n run.2.place few
      | inr none ↦ elim none.1 [
        | inl names ↦
            let within : k ≤ n.replied = omega (arith, names.2.replied, few) in
            subst (λ (b : State). RestsBehind b k n.replied) (sym names.2.state) within
        | inr wants ↦ subst (λ (b : State). RestsBehind b k n.replied) (sym wants.1.state) tt
      ]
    ]

takes_ends : (now runs : ℕ) (o n : Shown) (s : Seen) → TakesUp now runs o n → TurnEnds None n.why s s
takes_ends now runs o n s h =
    elim h [
      | inl run ↦ starts_ends n.state n.why o n s run.2.place
      | inr none ↦ elim none.1 [
        | inl names ↦ subst (λ (x : Option Why). TurnEnds None x s s) (sym names.2.why) refl
        | inr wants ↦ subst (λ (x : Option Why). TurnEnds None x s s) (sym wants.1.why) refl
      ]
    ]

takes_same : (now runs : ℕ) (o n : Shown) → TakesUp now runs o n → SameShown o n
takes_same now runs o n h = elim h [ inl run ↦ run.2.same | inr none ↦ elim none.1 [ inl names ↦ names.2.same | inr wants ↦ wants.1.same ] ]

takes_calls : (now runs : ℕ) (o n : Shown) → TakesUp now runs o n → n.calls ≡ o.calls + runs
takes_calls now runs o n h =
    elim h [
      | inl run ↦ omega (arith, run.0, run.2.calls)
      | inr none ↦ elim none.1 [
        | inl names ↦ omega (arith, none.0, names.2.calls)
        | inr wants ↦ omega (arith, none.0, wants.1.calls)
      ]
    ]

takes_drains : (now runs : ℕ) (o n : Shown) → TakesUp now runs o n → o.ending.closing ≡ None → Drains o n
takes_drains now runs o n h none =
    elim h [
      | inl run ↦ drains_run o n run.2.calls run.3.ending none
      | inr other ↦ elim other.1 [ inl names ↦ drains_same o n names.3.ending | inr wants ↦ drains_same o n wants.2.ending ]
    ]

-- nothing ends the connection where a request or a refusal stands
pub ready_unended : {B H : Type 0} (a : At B H) (intake : Intake) (unfed ring : List ℕ) (calls : ℕ) (m : Ending) → RestsAt a intake unfed ring calls m
    → state_at a ≡ state.Ready → (m.closing ≡ None) × (m.late ≡ None)
ready_unended {B} {H} at.Reading intake unfed ring calls m h e = cc
ready_unended {B} {H} at.Asked intake unfed ring calls m h e = (unclosed m h.1.1.1, untimed m h.1.1.1)
ready_unended {B} {H} (at.Refused f) intake unfed ring calls m h e = (unclosed m h.1.1, untimed m h.1.1)
ready_unended {B} {H} (at.Answering f) intake unfed ring calls m h e = cc
ready_unended {B} {H} (at.Writing keeps) intake unfed ring calls m h e = cc
ready_unended {B} {H} (at.Handing x) intake unfed ring calls m h e = cc
ready_unended {B} {H} at.Refusing intake unfed ring calls m h e = cc
ready_unended {B} {H} (at.Listening x) intake unfed ring calls m h e = cc
ready_unended {B} {H} (at.Speaking x) intake unfed ring calls m h e = cc
ready_unended {B} {H} at.Parting intake unfed ring calls m h e = cc
ready_unended {B} {H} (at.Over w) intake unfed ring calls m h e = cc

-- where a hijacker has it behind a write, more replies were sent whole, or it had it before
held_rests : (a : State) (n r q : ℕ) → HijackedOn a r q → RestsBehind a n r → n < q
held_rests state.Reading n r q on h = absurd on
held_rests state.Ready n r q on h = absurd on
held_rests state.Answering n r q on h = omega (arith, on, h)
held_rests state.Hijacked n r q on h = omega (arith, on, h)
held_rests state.Over n r q on h = absurd on

-- what a write leaves
pub says_rests : (a b : State) (n r q : ℕ) → SaysOn a b r q → IsBelow b q → RestsBehind a n r → RestsBehind b n q
says_rests a state.Reading n r q on below h =
    let few : n ≤ r = subst (λ (x : State). RestsBehind x n r) on.0 h in
    let more : n < q = omega (arith, on.1, few) in
    (more, below)
says_rests a state.Ready n r q on below h =
    let few : n ≤ r = subst (λ (x : State). RestsBehind x n r) on.0 h in
    let more : n < q = omega (arith, on.1, few) in
    (more, below)
says_rests a state.Answering n r q on below h =
    let few : n ≤ r = subst (λ (x : State). RestsBehind x n r) on.0 h in
    omega (arith, on.1, few)
says_rests a state.Hijacked n r q on below h = held_rests a n r q on h
says_rests a state.Over n r q on below h = tt

-- some are left, where the last of none was made
pub unspent : (b : Bool) (l : Budget) → (IsTrue b ↔ IsSpentBudget l) → b ≡ false → (0 < l.runs) × (0 < l.reads) × (0 < l.writes)
unspent b l is none =
    let not : IsSpentBudget l → ⊥ = λ h. let t : b ≡ true = is.1 h in cc in
    let runs : l.runs ≢ 0 = λ e. not (inl e) in
    let reads : l.reads ≢ 0 = λ e. not (inr (inl e)) in
    let writes : l.writes ≢ 0 = λ e. not (inr (inr e)) in
    (omega (arith, runs), omega (arith, reads), omega (arith, writes))

-- a step that wasn't made
pub stays : (o : Shown) (s : Seen) (l : Budget) → Steps o o s s l l
stays o s l =
    let reads : l.reads - l.reads ≡ 0 = omega arith in
    let writes : l.writes - l.writes ≡ 0 = omega arith in
    let few : l.runs ≤ l.runs = omega arith in
    let fewer : l.reads ≤ l.reads = omega arith in
    let fewest : l.writes ≤ l.writes = omega arith in
    record {
      moved = moved_same o o s (l.reads - l.reads) (l.writes - l.writes)
          (record { peer = refl; local = refl; lives = refl; taken = refl }) reads writes;
      came = refl;
      calls = refl;
      few = (few, fewer, fewest);
      replied = λ n h. h;
      drains = drains_same o o refl;
      ends = λ late first reads writes h. h;
    }

-- one that read
pub read_steps : (a : LinkRead) (o n : Shown) (s u : Seen) (l : Budget) (came : ℕ) (h : ReadsBy a o n s u)
    → came ≡ counted_by (length h.moved.came) l.came → 0 < l.reads → o.state ≡ state.Reading → o.why ≡ None
    → n.ending ≡ o.ending → Steps o n s u l (record { runs = l.runs; reads = l.reads - 1; writes = l.writes; came = came })
read_steps a o n s u l came h is some reading none ending =
    let one : 1 ≡ l.reads - (l.reads - 1) = omega (arith, some) in
    let nothing : 0 ≡ l.writes - l.writes = omega arith in
    let few : l.runs ≤ l.runs = omega arith in
    let fewer : l.reads - 1 ≤ l.reads = omega arith in
    let fewest : l.writes ≤ l.writes = omega arith in
    record {
      moved = moved_by o n s u 1 0 (l.reads - (l.reads - 1)) (l.writes - l.writes) one nothing h.moved;
      came = is;
      calls = ap (λ k. k + l.runs) h.calls;
      few = (few, fewer, fewest);
      replied = λ k x. fed_rests n.state k o.replied n.replied (read_fed a n h.moved.came s u h.leaves) h.replied
          (subst (λ (b : State). RestsBehind b k o.replied) reading x);
      drains = drains_same o n ending;
      ends = λ late first reads writes x. ends_then None o.why n.why first s u none reads writes h.ends x;
    }

-- one that took up a request or a refusal
pub start_steps : (now : ℕ) (o n : Shown) (s : Seen) (l m : Budget) → TakesUp now (l.runs - m.runs) o n → m ≡ record l { runs = m.runs } → m.runs ≤ l.runs
    → o.state ≡ state.Ready → o.why ≡ None → o.ending.closing ≡ None → Steps o n s s l m
start_steps now o n s l m h is few ready none unclosing =
    let same_reads : m.reads ≡ l.reads = ap (λ (x : Budget). x.reads) is in
    let same_writes : m.writes ≡ l.writes = ap (λ (x : Budget). x.writes) is in
    let reads : l.reads - m.reads ≡ 0 = omega (arith, same_reads) in
    let writes : l.writes - m.writes ≡ 0 = omega (arith, same_writes) in
    let fewer : m.reads ≤ l.reads = omega (arith, same_reads) in
    let fewest : m.writes ≤ l.writes = omega (arith, same_writes) in
    let calls : n.calls + m.runs ≡ o.calls + l.runs = omega (arith, takes_calls now (l.runs - m.runs) o n h, few) in
    record {
      moved = moved_same o n s (l.reads - m.reads) (l.writes - m.writes) (takes_same now (l.runs - m.runs) o n h) reads writes;
      came = ap (λ (x : Budget). x.came) is;
      calls = calls;
      few = (few, fewer, fewest);
      replied = λ k x.
          let below : k < o.replied = (subst (λ (b : State). RestsBehind b k o.replied) ready x).0 in
          let within : k ≤ o.replied = omega (arith, below) in
          takes_rests now (l.runs - m.runs) k o n h within;
      drains = takes_drains now (l.runs - m.runs) o n h unclosing;
      ends = λ late first reads writes x. ends_then None o.why n.why first s s none reads writes (takes_ends now (l.runs - m.runs) o n s h) x;
    }

-- one that said
pub say_steps : (a : SayStep) (o n : Shown) (s u : Seen) (l : Budget) (writes : ℕ) → Says a o n s u → writes + writes_of a ≡ l.writes
    → o.why ≡ None → IsBelow n.state n.replied → n.ending ≡ o.ending
    → Steps o n s u l (record { runs = l.runs; reads = l.reads; writes = writes; came = l.came })
say_steps a o n s u l writes h is none below ending =
    let nothing : 0 ≡ l.reads - l.reads = omega arith in
    let one : writes_of a ≡ l.writes - writes = omega (arith, is) in
    let few : l.runs ≤ l.runs = omega arith in
    let fewer : l.reads ≤ l.reads = omega arith in
    let fewest : writes ≤ l.writes = omega (arith, is) in
    record {
      moved = moved_by o n s u 0 (writes_of a) (l.reads - l.reads) (l.writes - writes) nothing one h.moved;
      came = ap (λ (x : List ℕ). counted_by (length x) l.came) (sym h.came);
      calls = ap (λ k. k + l.runs) h.calls;
      few = (few, fewer, fewest);
      replied = λ k x. says_rests o.state n.state k o.replied n.replied h.replied below x;
      drains = drains_same o n ending;
      ends = λ late first reads writes x. ends_then None o.why n.why first s u none reads writes (subst (λ (y : Option Late). TurnEnds y n.why s u) late h.ends) x;
    }

-- what a turn did so far, of which this is left
pub record Turning (old new : Shown) (s s' : Seen) (l : Budget) : Type 0 where
  pub moved : Moved old new s s' (160 - l.reads) (160 - l.writes)
  pub came : l.came ≡ counted_by (length moved.came) 0
  pub calls : new.calls + l.runs ≡ old.calls + 10
  pub few : (l.runs ≤ 10) × (l.reads ≤ 160) × (l.writes ≤ 160)
  pub rests : RestsBehind new.state old.replied new.replied
  pub drains : Drains old new
  pub ends : TurnEnds None new.why s s'

-- its first part
pub turning_start : (now : ℕ) (o n : Shown) (s : Seen) (f l : Budget) → f ≡ full → TakesUp now (f.runs - l.runs) o n → l ≡ record f { runs = l.runs }
    → l.runs ≤ f.runs → o.ending.closing ≡ None → Turning o n s s l
turning_start now o n s f l all h is few unclosing =
    let ten : f.runs ≡ 10 = ap (λ (x : Budget). x.runs) all in
    let same_reads : l.reads ≡ 160 = ap (λ (x : Budget). x.reads) is ∙ ap (λ (x : Budget). x.reads) all in
    let same_writes : l.writes ≡ 160 = ap (λ (x : Budget). x.writes) is ∙ ap (λ (x : Budget). x.writes) all in
    let reads : 160 - l.reads ≡ 0 = omega (arith, same_reads) in
    let writes : 160 - l.writes ≡ 0 = omega (arith, same_writes) in
    let fewest : l.runs ≤ 10 = omega (arith, ten, few) in
    let fewer_reads : l.reads ≤ 160 = omega (arith, same_reads) in
    let fewer_writes : l.writes ≤ 160 = omega (arith, same_writes) in
    let calls : n.calls + l.runs ≡ o.calls + 10 = omega (arith, takes_calls now (f.runs - l.runs) o n h, ten, few) in
    let within : o.replied ≤ o.replied = omega arith in
    record {
      moved = moved_same o n s (160 - l.reads) (160 - l.writes) (takes_same now (f.runs - l.runs) o n h) reads writes;
      came = ap (λ (x : Budget). x.came) is ∙ ap (λ (x : Budget). x.came) all;
      calls = calls;
      few = (fewest, fewer_reads, fewer_writes);
      rests = takes_rests now (f.runs - l.runs) o.replied o n h within;
      drains = takes_drains now (f.runs - l.runs) o n h unclosing;
      ends = takes_ends now (f.runs - l.runs) o n s h;
    }

-- and a step
pub turning_step : (o m n : Shown) (s t u : Seen) (l k : Budget) → o.ending.late ≡ None → Turning o m s t l → Steps m n t u l k → Turning o n s u k
turning_step o m n s t u l k late h p =
    let reads : (160 - l.reads) + (l.reads - k.reads) ≡ 160 - k.reads = omega (arith, h.few.1, p.few.1) in
    let writes : (160 - l.writes) + (l.writes - k.writes) ≡ 160 - k.writes = omega (arith, h.few.2, p.few.2) in
    let few : k.runs ≤ 10 = omega (arith, h.few.0, p.few.0) in
    let fewer : k.reads ≤ 160 = omega (arith, h.few.1, p.few.1) in
    let fewest : k.writes ≤ 160 = omega (arith, h.few.2, p.few.2) in
    let calls : n.calls + k.runs ≡ o.calls + 10 = omega (arith, h.calls, p.calls) in
    let more : m.calls ≤ n.calls = omega (arith, p.calls, p.few.0) in
    let before : o.calls ≤ m.calls = omega (arith, h.calls, h.few.0) in
    record {
      moved = moved_then o m n s t u (160 - l.reads) (160 - l.writes) (l.reads - k.reads) (l.writes - k.writes) (160 - k.reads) (160 - k.writes)
          reads writes h.moved p.moved;
      came = p.came ∙ ap (λ j. counted_by (length p.moved.came) j) h.came ∙ counted_lists h.moved.came p.moved.came 0;
      calls = calls;
      few = (few, fewer, fewest);
      rests = p.replied o.replied h.rests;
      drains = drains_then o m n more before h.drains p.drains;
      ends = p.ends (h.drains.late ∙ late) s h.moved.failed_reads h.moved.failed_writes h.ends;
    }

-- how many runs, reads and writes were made is told by how many are left
spent_left : (l : Budget) → (l.runs ≤ 10) × (l.reads ≤ 160) × (l.writes ≤ 160) → IsSpent (10 - l.runs) (160 - l.reads) (160 - l.writes) → IsSpentBudget l
spent_left l few h =
    elim h [
      | inl e ↦ let z : l.runs ≡ 0 = omega (arith, e, few.0) in inl z
      | inr k ↦ elim k [
        | inl e ↦ let z : l.reads ≡ 0 = omega (arith, e, few.1) in inr (inl z)
        | inr e ↦ let z : l.writes ≡ 0 = omega (arith, e, few.2) in inr (inr z)
      ]
    ]

left_spent : (l : Budget) → IsSpentBudget l → IsSpent (10 - l.runs) (160 - l.reads) (160 - l.writes)
left_spent l h =
    elim h [
      | inl e ↦ let z : 10 - l.runs ≡ 10 = omega (arith, e) in inl z
      | inr k ↦ elim k [
        | inl e ↦ let z : 160 - l.reads ≡ 160 = omega (arith, e) in inr (inl z)
        | inr e ↦ let z : 160 - l.writes ≡ 160 = omega (arith, e) in inr (inr z)
      ]
    ]

-- some came, where some were counted
came_some : (came : List ℕ) (n : ℕ) → n ≡ counted_by (length came) 0 → 0 < n → 0 < length came
came_some [] n is some = omega (arith, is, some)
came_some (b ∷ came) n is some = omega arith

some_came : (came : List ℕ) (n : ℕ) → n ≡ counted_by (length came) 0 → 0 < length came → 0 < n
some_came came n is some = omega (arith, is, some, counted_sum (length came) 0 some)

-- the link had to wait in the last step, or a hijacker has the connection and nothing is owed, or no step may be made
waited : (n : Shown) (s u : Seen) (l : Budget)
    → Rose s.waits u.waits ⊎ ((n.state ≡ state.Over) ⊎ (IsListening n ⊎ IsSpentBudget l))
    → n.state ≢ state.Over → ¬ (IsSpentBudget l) → Rose s.waits u.waits ⊎ IsListening n
waited n s u l h live more =
    elim h [
      | inl rose ↦ inl rose
      | inr k ↦ elim k [
        | inl over ↦ absurd (live over)
        | inr j ↦ elim j [ inl handed ↦ inr handed | inr spent ↦ absurd (more spent) ]
      ]
    ]

module _ {B H : Type 0} (a : At B H) (o n : Shown) (s u : Seen) (l : Budget) (more : Bool) (h : Turning o n s u l) (is : n.state ≡ state_at a)
    (got : IsTrue more ↔ (o.replied < n.replied))
    (stopped : Rose s.waits u.waits ⊎ ((n.state ≡ state.Over) ⊎ (IsListening n ⊎ IsSpentBudget l))) where
  -- behind a hijacker's taking over, a reply was sent whole
  handed_got : IsListening n → IsTrue more
  handed_got handed = got.1 (subst (λ (b : State). RestsBehind b o.replied n.replied) handed.0 h.rests)

  pub turn_tells : (result : Next) → TurnedSo result a l more → TurnTells result (10 - l.runs) (160 - l.reads) (160 - l.writes) h.moved.came o n s u
  turn_tells next.Waiting f =
      let live : n.state ≢ state.Over = λ e. f.0 (sym is ∙ e) in (
        live,
        λ spent. f.1 (spent_left l h.few spent),
        λ x. elim x [
          | inl some ↦ let k = some_came h.moved.came l.came h.came some in omega (arith, k, f.2)
          | inr rose ↦ let t : more ≡ true = got.1 rose in let e : more ≡ false = f.3 in cc
        ],
        elim (waited n s u l stopped live f.1) [
          | inl rose ↦ rose
          | inr handed ↦ let t : more ≡ true = handed_got handed in let e : more ≡ false = f.3 in absurd (cc)
        ],
      )
  turn_tells next.More f =
      let live : n.state ≢ state.Over = λ e. f.0 (sym is ∙ e) in (
        live,
        λ spent. f.1 (spent_left l h.few spent),
        elim f.2 [ inl some ↦ inl (came_some h.moved.came l.came h.came some) | inr t ↦ inr (got.0 t) ],
        waited n s u l stopped live f.1,
      )
  turn_tells next.Ready f = absurd f
  turn_tells next.TurnOver f = (λ e. f.0 (sym is ∙ e), left_spent l f.1)
  turn_tells next.Over f = is ∙ f

  -- and its end
  abbrev pub turning_end : (now : ℕ) (result : Next) → TurnedSo result a l more → TurnMade now o n s u (10 - l.runs) (160 - l.reads) (160 - l.writes)
      → Turns now result o n s u
  turning_end now result f made =
      let runs : 10 - l.runs ≤ 10 = omega arith in
      let reads : 160 - l.reads ≤ 160 = omega arith in
      let writes : 160 - l.writes ≤ 160 = omega arith in
      let calls : n.calls ≡ o.calls + (10 - l.runs) = omega (arith, h.calls, h.few.0) in
      record {
        runs = 10 - l.runs;
        reads = 160 - l.reads;
        writes = 160 - l.writes;
        few = (runs, reads, writes);
        moves = made.moves;
        waited = made.waited;
        made = made.made;
        stops = made.stops;
        moved = h.moved;
        calls = calls;
        rests = h.rests;
        drains = h.drains;
        ends = h.ends;
        tells = turn_tells result f;
      }

-- why a turn stops: the link had to wait in the last step, or none may be made
pub step_stops : {B H : Type 0} (r : Step) (l k : Budget) (a b : At B H) (n : Shown) (s t u : Seen) → (r ≡ step.Waits) ⊎ (r ≡ step.Stops)
    → StepLeaves r l k a b t u → s.waits ≤ t.waits → n.state ≡ state_at b → (IsHearing b → IsListening n)
    → Rose s.waits u.waits ⊎ ((n.state ≡ state.Over) ⊎ (IsListening n ⊎ IsSpentBudget k))
step_stops {B} {H} step.GoesOn l k a b n s t u e h early is hands = elim e [ inl x ↦ cc | inr x ↦ cc ]
step_stops {B} {H} step.Waits l k a b n s t u e h early is hands =
    let last : u.waits ≤ u.waits = omega arith in inl (rose_within s.waits t.waits u.waits u.waits early h last)
step_stops {B} {H} step.Stops l k a b n s t u e h early is hands =
    elim h [
      | inl over ↦ inr (inl (is ∙ over))
      | inr j ↦ elim j [ inl hears ↦ inr (inr (inl (hands hears))) | inr spent ↦ inr (inr (inr spent)) ]
    ]

-- more replies were sent whole than before
pub risen : (b n x y : ℕ) → b ≡ x → n ≡ y → IsTrue (ltb b n) ↔ (x < y)
risen b n x y e f =
    let d = Decides-ltb b n in
    (λ t. let k : b < n = d.0 t in omega (arith, k, e, f), λ h. let k : b < n = omega (arith, h, e, f) in d.1 k)

-- the same reply, where the answers are the same
tells_as : {H : Type 0} (T : Teller H) (a b : Stack H) (l k : Local) (p q : List ℕ) (closing : Option ℕ) (i : ℕ)
    → ((ps : Pairs) (input : List ℕ) → b ps input ≡ a ps input) → k ≡ l → q ≡ p → TellsBy T a l p closing i → TellsBy T b k q closing i
tells_as {H} T a b l k p q closing i same local peer h =
    subst (λ (x : Local). TellsBy T b x q closing i) (sym local)
    (subst (λ (x : List ℕ). TellsBy T b l x closing i) (sym peer)
    (λ r. h r ∙ ap (λ (x : Answer Content H). reply (ask_of r) (env_pairs r p l) x (is_last closing i)) (sym (same (env_pairs r p l) r.body))))

-- of the requests that were run in a step
pub tells_step : {H : Type 0} (T : Teller H) (a b : Stack H) (l k : Local) (p q : List ℕ) (closing : Option ℕ) (first mid end : ℕ)
    → ((ps : Pairs) (input : List ℕ) → b ps input ≡ a ps input) → k ≡ l → q ≡ p → first ≤ mid → TellsFrom T a l p closing first end
    → TellsFrom T b k q closing mid end
tells_step {H} T a b l k p q closing first mid end same local peer more h i from below =
    let few : first ≤ i = omega (arith, more, from) in tells_as T a b l k p q closing i same local peer (h i few below)

-- of those that were run before it: the reply that closes by draining is behind them
not_yet : (k i : ℕ) → i < k → is_last (Some k) i ≡ is_last None i
not_yet k i below = ap (λ (b : Bool). (i == 9999) || b) (differs i k below)
  where
    differs : (n m : ℕ) → n < m → (n == m) ≡ false
    differs n m lt = grind (arith, nat_tests, lt)

pub last_before : (o n : Shown) (i : ℕ) → i < o.calls → (n.ending.closing ≡ o.ending.closing) ⊎ DrainsOnce o n
    → is_last n.ending.closing i ≡ is_last o.ending.closing i
last_before o n i below e =
    elim e [
      | inl same ↦ ap (λ (c : Option ℕ). is_last c i) same
      | inr once ↦
          let few : i < once.0 = omega (arith, below, once.4) in
          ap (λ (c : Option ℕ). is_last c i) once.3 ∙ not_yet once.0 i few ∙ sym (ap (λ (c : Option ℕ). is_last c i) once.2)
    ]

pub tells_before : {H : Type 0} (T : Teller H) (a : Stack H) (l : Local) (p : List ℕ) (first : ℕ) (o n : Shown) → Drains o n → o.calls ≤ n.calls
    → TellsFrom T a l p n.ending.closing first n.calls → TellsFrom T a l p o.ending.closing first o.calls
tells_before {H} T a l p first o n drains more h i from below r =
    let few : i < n.calls = omega (arith, below, more) in
    h i from few r ∙ ap (λ (b : Bool). reply_of a (env_pairs r p l) r b) (last_before o n i below drains.closing)
