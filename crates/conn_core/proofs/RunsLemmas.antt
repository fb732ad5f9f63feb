-- The runs of any runner, one behind the other.
use Rattle.std.proofs.Common.{◌≡◌, ℕ, ◌+◌, ◌<◌, ◌≤◌, Bool, true, false, nat_lt, List, [], ◌∷◌, ◌++◌, length, refl, sym, ap, subst, ◌∙◌, append_assoc, arith, length-append, Option, Some, ◌⊎◌, inl, inr, ⊎_elim}
use Rattle.std.proofs.lemmas.Bool.Decides.{nat_tests}
use Rattle.std.proofs.lemmas.List.{append-nil}
use Rattle.rack_types.specs.declared.answer.Answer.{Answer}
use Rattle.rack_types.specs.declared.answer.Answer.TheVariants.{Raised}
use Rattle.rack_types.specs.declared.body.Body.{Ghosts}
use Rattle.rack_types.specs.declared.peer.Local.{Local}
use Rattle.rack_types.specs.Body.{Content}
use Rattle.rack_types.specs.Env.{Environment}
use Rattle.rack_types.specs.Request.{Parts}
use Rattle.rack_types.specs.Runner.{Asked, BecomesBy, Becomes}
use Rattle.rack_env.specs.Environment.{environment}
use Rattle.rack_outside.specs.Link.{Seen}
use Rattle.rack_outside.specs.Told.{appended}
use Rattle.message_framing.specs.Intake.{Fed}
use Rattle.message_framing.specs.Request.{IsRequest}
use Rattle.talk_core.specs.declared.ended.Why.{Why}
use Rattle.talk_core.specs.declared.ended.Why.TheVariants as why
use Rattle.talk_core.specs.Answered.{Answers, tell_by, tell_from, answers_to, asked_as, asked_for, HasAsked, SentUpTo}
use Rattle.talk_core.specs.Tail.{Voice}
use Rattle.talk_core.specs.Teller.{Stack, Teller, AgreesBelow, is_last}
use Rattle.talk_core.proofs.CallerLemmas.{joined, joined_below, joined_from, from_before, from_here, from_agrees, tell_same, answers_joined, asked_append, appended_none, appended_twice, has_more, has_next, replies_agree, keep_agrees, silent_sent, silent_asks}
use Rattle.conn_steps.specs.declared.inside.Inside.{Inside}
use Rattle.conn_steps.specs.declared.at.At.{At}
use Rattle.conn_steps.specs.declared.at.At.TheVariants as at
use Rattle.conn_steps.specs.declared.budget.Budget.{Budget}
use Rattle.conn_steps.specs.declared.budget.Step.{Step}
use Rattle.conn_steps.specs.declared.budget.Step.TheVariants as step
use Rattle.conn_steps.specs.declared.state.State.TheVariants as state
use Rattle.conn_steps.specs.Holds.{Kept, kept, Between, StandsAt, HoldsBy}
use Rattle.conn_steps.specs.Inner.{Steps, StepMoves, budget_at}
use Rattle.conn_steps.specs.Moves.{Move, Run, Refusal, Want, Read, Write, Point, MakesMove}
use Rattle.conn_steps.specs.Owner.{BeginsRightly}
use Rattle.conn_steps.specs.At.{state_at}
use Rattle.conn_steps.specs.Ran.{Gives, AreOk, AsksOn, Ran}
use Rattle.conn_steps.specs.RunOnce.{answer_of, TellsRun}
use Rattle.conn_steps.specs.Shown.{Shown, shows, why_at}
use Rattle.conn_steps.specs.Steps.{HandsOn}
use Rattle.conn_steps.proofs.CallerLemmas.{retold}
use Rattle.conn_core.proofs.NextRequest.{begins_rightly}
use Rattle.conn_core.proofs.TurnLemmas.{last_before}

-- what was sent, by other replies that are the same so far
sent_agrees : {H : Type 0} (T U : Teller H) (s : Seen) (calls n : ℕ) → calls ≡ n → AgreesBelow calls T U → SentUpTo T s calls → SentUpTo U s n
sent_agrees {H} T U s calls n is same h =
    let below : AgreesBelow (0 + length h.requests) T U = λ i lt r. same i (omega (arith, lt, h.count)) r in
    record {
      given = h.given;
      sent = h.sent;
      tells_given = h.tells_given;
      tells_sent = h.tells_sent;
      requests = h.requests;
      rest = h.rest;
      asks = h.asks;
      count = sym is ∙ h.count;
      keeps = keep_agrees T U h.requests 0 below h.keeps;
      sent_is = h.sent_is ∙ replies_agree T U h.requests 0 below;
    }

-- behind some runs, and then more. Where memory was refused nothing more is done
pub ran_then : {R B H : Type 0} {g : Ghosts B} (V : Voice H) (T : Teller H) (answer : R → Stack H) (first : ℕ) (s t u : Seen) (p q : Inside B H g)
    (a b c : Option (List (Answer Content H))) (i j k : Option (List (Asked × Bool))) → first ≤ p.calls → p.calls ≤ q.calls → q.local ≡ p.local → q.peer ≡ p.peer
    → ((n : ℕ) → n < p.calls → is_last q.ending.closing n ≡ is_last p.ending.closing n)
    → ((shows p).why ≡ Some why.NoMemory → (q.calls ≡ p.calls) × ((shows q).why ≡ Some why.NoMemory) × (u ≡ t))
    → Ran (λ (W : Teller H). HoldsBy V W t p) T answer first s t (shows p) a b i j
    → ((U : Teller H) → HoldsBy V U t p → Ran (λ (W : Teller H). HoldsBy V W u q) U answer p.calls t u (shows q) b c j k)
    → Ran (λ (W : Teller H). HoldsBy V W u q) T answer first s u (shows q) a c i k
ran_then {R} {B} {H} {g} V T answer first s t u p q a b c i j k few more local_is peer_is last ended x next = record {
  answers = J;
  good = x.good + y.good;
  good_is = good_is;
  stands = retold V W TJ u q.peer q.at (kept q) agrees y.stands;
  gives = gives;
  answered_is = y.answered_is ∙ ap (λ (o : Option (List (Answer Content H))). appended o (answers_to y.answers p.calls y.good)) x.answered_is
      ∙ appended_twice a (answers_to x.answers first x.good) (answers_to y.answers p.calls y.good)
      ∙ ap (appended a) (sym lists);
  unsaid = unsaid;
  asks = asks;
}
  where
    U : Teller H
    U = tell_from T first x.answers p.local p.peer p.ending.closing

    y : Ran (λ (W : Teller H). HoldsBy V W u q) U answer p.calls t u (shows q) b c j k
    y = next U x.stands

    J : Answers H
    J = joined p.calls x.answers y.answers

    W : Teller H
    W = tell_from U p.calls y.answers q.local q.peer q.ending.closing

    TJ : Teller H
    TJ = tell_from T first J q.local q.peer q.ending.closing

    -- each run was Ok, or none is behind that which wasn't
    cases : (first + x.good ≡ p.calls) ⊎ ((first + x.good + 1 ≡ p.calls) × (q.calls ≡ p.calls) × (y.good ≡ 0) × ((shows q).why ≡ Some why.NoMemory) × (u ≡ t))
    cases =
        ⊎_elim (λ e. inl e) (λ e.
        let done = ended e.1 in
        let none : y.good ≡ 0 = ⊎_elim (λ f. let z : y.good ≡ 0 = omega (arith, f, done.0) in z) (λ f. absurd (omega (arith, f.0, done.0))) y.good_is in
        inr (e.0, done.0, none, done.1, done.2)) x.good_is

    good_is : AreOk first (x.good + y.good) (shows q)
    good_is =
        ⊎_elim (λ e. ⊎_elim (λ f. let z : first + (x.good + y.good) ≡ q.calls = omega (arith, e, f) in inl z)
        (λ f. let z : first + (x.good + y.good) + 1 ≡ q.calls = omega (arith, e, f.0) in inr (z, f.1)) y.good_is)
        (λ e. let z : first + (x.good + y.good) + 1 ≡ q.calls = omega (arith, e.0, e.1, e.2) in inr (z, e.3)) cases

    told : (n : ℕ) (r : Parts) → tell_by x.answers p.local p.peer p.ending.closing n r ≡ tell_by x.answers q.local q.peer p.ending.closing n r
    told n r =
        ap (λ (l : Local). tell_by x.answers l p.peer p.ending.closing n r) (sym local_is)
        ∙ ap (λ (e : List ℕ). tell_by x.answers q.local e p.ending.closing n r) (sym peer_is)

    tells : (n : ℕ) → first ≤ n → n < q.calls → (r : Parts) → W n r ≡ tell_by J q.local q.peer q.ending.closing n r
    tells n from lt r = go (nat_lt n p.calls) refl
      where
        go : (z : Bool) → nat_lt n p.calls ≡ z → W n r ≡ tell_by J q.local q.peer q.ending.closing n r
        go true is =
            let below : n < p.calls = grind (arith, nat_tests, is) in
            sym (from_before U p.calls y.answers q.local q.peer q.ending.closing n below r)
            ∙ from_here T first x.answers p.local p.peer p.ending.closing n r from ∙ told n r
            ∙ tell_same x.answers J q.local q.peer p.ending.closing q.ending.closing n r (sym (joined_below p.calls x.answers y.answers n below)) (last n below)
        go false is =
            let behind : p.calls ≤ n = grind (arith, nat_tests, is) in
            from_here U p.calls y.answers q.local q.peer q.ending.closing n r behind
            ∙ tell_same y.answers J q.local q.peer q.ending.closing q.ending.closing n r (sym (joined_from p.calls x.answers y.answers n behind)) refl

    before : AgreesBelow first T W
    before n lt r =
        from_before T first x.answers p.local p.peer p.ending.closing n lt r
        ∙ from_before U p.calls y.answers q.local q.peer q.ending.closing n (omega (arith, lt, few)) r

    agrees : AgreesBelow q.calls W TJ
    agrees = from_agrees T first J q.local q.peer q.ending.closing W q.calls before tells

    IsGiven : ℕ → Answer Content H → Type 0
    IsGiven n v = (n < first + (x.good + y.good)) ⊎ Gives answer v

    gives : (n : ℕ) → first ≤ n → n < q.calls → IsGiven n (J n)
    gives n from lt = go (nat_lt n p.calls) refl
      where
        go : (z : Bool) → nat_lt n p.calls ≡ z → IsGiven n (J n)
        go true is =
            let below : n < p.calls = grind (arith, nat_tests, is) in
            subst (IsGiven n) (sym (joined_below p.calls x.answers y.answers n below))
            (⊎_elim (λ few. let z : n < first + (x.good + y.good) = omega (arith, few) in inl z) (λ given. inr given) (x.gives n from below))
        go false is =
            let behind : p.calls ≤ n = grind (arith, nat_tests, is) in
            subst (IsGiven n) (sym (joined_from p.calls x.answers y.answers n behind))
            (⊎_elim (λ few. ⊎_elim (λ e. let z : n < first + (x.good + y.good) = omega (arith, few, e) in inl z) (λ e. absurd (omega (arith, few, behind, e.2))) cases)
            (λ given. inr given) (y.gives n behind lt))

    lists : answers_to J first (x.good + y.good) ≡ answers_to x.answers first x.good ++ answers_to y.answers p.calls y.good
    lists =
        ⊎_elim (λ e. answers_joined x.answers y.answers first p.calls x.good y.good (inl e))
        (λ e. answers_joined x.answers y.answers first p.calls x.good y.good (inr (omega (arith, e.0), e.2))) cases

    unsaid : first + (x.good + y.good) < q.calls → SentUpTo TJ u (first + (x.good + y.good))
    unsaid lt =
        ⊎_elim (λ e.
        let same : p.calls + y.good ≡ first + (x.good + y.good) = omega (arith, e) in
        sent_agrees W TJ u (p.calls + y.good) (first + (x.good + y.good)) same (λ n below r. agrees n (omega (arith, below, lt, same)) r) (y.unsaid (omega (arith, lt, e))))
        (λ e.
        let same : first + x.good ≡ first + (x.good + y.good) = omega (arith, e.2) in
        subst (λ (z : Seen). SentUpTo TJ z (first + (x.good + y.good))) (sym e.4)
        (sent_agrees U TJ t (first + x.good) (first + (x.good + y.good)) same
        (λ n below r. from_before U p.calls y.answers q.local q.peer q.ending.closing n (omega (arith, below, e.0)) r ∙ agrees n (omega (arith, below, e.0, more)) r)
        (x.unsaid (omega (arith, e.0))))) cases

    asks : (requests : List Parts) → HasAsked s first requests → AsksOn u (shows q) requests (x.good + y.good) i k
    asks requests has =
        let m = x.asks requests has in
        let n = y.asks (requests ++ m.more) m.has in
        let sum : length (requests ++ m.more) ≡ length requests + length m.more = length-append requests m.more in
        let all : length ((requests ++ m.more) ++ n.more) ≡ length (requests ++ m.more) + length n.more = length-append (requests ++ m.more) n.more in
        let as_here : asked_for p.local p.peer x.good m.more ≡ asked_for q.local q.peer x.good m.more =
        ap (λ (l : Local). asked_for l p.peer x.good m.more) (sym local_is) ∙ ap (λ (e : List ℕ). asked_for q.local e x.good m.more) (sym peer_is) in
        let joins : asked_for q.local q.peer (x.good + y.good) (m.more ++ n.more) ≡ asked_for q.local q.peer x.good m.more ++ asked_for q.local q.peer y.good n.more =
        ⊎_elim (λ e. asked_append q.local q.peer m.more n.more x.good y.good (omega (arith, e, m.has.count, has.count, sum)))
        (λ e. nothing m.more n.more (omega (arith, e.1, m.has.count, n.has.count, all)) e.2) cases in
        record {
          more = m.more ++ n.more;
          has = subst (λ (rs : List Parts). HasAsked u q.calls rs) (append_assoc requests m.more n.more) n.has;
          asked_is = n.asked_is
              ∙ ap (λ (o : Option (List (Asked × Bool))). appended o (asked_for q.local q.peer y.good n.more)) (m.asked_is ∙ ap (appended i) as_here)
              ∙ appended_twice i (asked_for q.local q.peer x.good m.more) (asked_for q.local q.peer y.good n.more) ∙ ap (appended i) (sym joins);
        }
      where
        nothing : (rs qs : List Parts) → length qs ≡ 0 → y.good ≡ 0
            → asked_for q.local q.peer (x.good + y.good) (rs ++ qs) ≡ asked_for q.local q.peer x.good rs ++ asked_for q.local q.peer y.good qs
        nothing rs [] size none =
            let same : x.good + y.good ≡ x.good = omega (arith, none) in
            ap (λ (xs : List Parts). asked_for q.local q.peer (x.good + y.good) xs) (append-nil rs)
            ∙ ap (λ (z : ℕ). asked_for q.local q.peer z rs) same ∙ sym (append-nil (asked_for q.local q.peer x.good rs))
        nothing rs (r ∷ qs) size none = absurd (omega (arith, size))

-- one that is over makes no move
over_makes : (move : Move) (m n : Point) → m.shown.state ≡ state.Over → MakesMove move m n → ⊥
over_makes Run m n e h = let both : state.Ready ≡ state.Over = sym h.0 ∙ e in cc
over_makes (Refusal fault) m n e h = let both : state.Ready ≡ state.Over = sym h.0 ∙ e in cc
over_makes Want m n e h =
    elim h.0 [
      | inl x ↦ let both : state.Ready ≡ state.Over = sym x.0 ∙ e in cc
      | inr x ↦ let both : state.Answering ≡ state.Over = sym x.0 ∙ e in cc
    ]
over_makes (Read answer) m n e h = let both : state.Reading ≡ state.Over = sym h.0 ∙ e in cc
over_makes (Write answer) m n e h =
    elim h.0 [
      | inl x ↦ let both : state.Answering ≡ state.Over = sym x ∙ e in cc
      | inr x ↦ let both : state.Hijacked ≡ state.Over = sym x.0 ∙ e in cc
    ]

-- so nothing is done behind want of memory
over_stays : (now : ℕ) (r : Step) (o n : Shown) (s u : Seen) (l k : Budget) → o.state ≡ state.Over → o.why ≡ Some why.NoMemory → StepMoves now r o n s u l k
    → (n.calls ≡ o.calls) × (n.why ≡ Some why.NoMemory) × (u ≡ s)
over_stays now step.GoesOn o n s u l k is e h = absurd (over_makes h.0 (budget_at o s l false) (budget_at n u k false) is h.1.0)
over_stays now step.Waits o n s u l k is e h = absurd (over_makes h.0 (budget_at o s l false) (budget_at n u k true) is h.1.0)
over_stays now step.Stops o n s u l k is e h = (ap (λ (x : Shown). x.calls) h.0, ap (λ (x : Shown). x.why) h.0 ∙ e, h.1)

named_over : {B H : Type 0} (a : At B H) (w : Why) → why_at a ≡ Some w → state_at a ≡ state.Over
named_over {B} {H} at.Reading w e = cc
named_over {B} {H} at.Asked w e = cc
named_over {B} {H} (at.Refused f) w e = cc
named_over {B} {H} (at.Answering f) w e = cc
named_over {B} {H} (at.Writing keeps) w e = cc
named_over {B} {H} (at.Handing h) w e = cc
named_over {B} {H} at.Refusing w e = cc
named_over {B} {H} (at.Listening h) w e = cc
named_over {B} {H} (at.Speaking h) w e = cc
named_over {B} {H} at.Parting w e = cc
named_over {B} {H} (at.Over v) w e = refl

-- behind the steps so far one more was made
pub ran_step : {R B H : Type 0} {g : Ghosts B} (V : Voice H) (T : Teller H) (answer : R → Stack H) (first : ℕ) (s t u : Seen) (p q : Inside B H g)
    (a b c : Option (List (Answer Content H))) (i j k : Option (List (Asked × Bool))) (now : ℕ) (r : Step) (l m : Budget) → first ≤ p.calls
    → Steps (shows p) (shows q) t u l m → StepMoves now r (shows p) (shows q) t u l m
    → Ran (λ (W : Teller H). HoldsBy V W t p) T answer first s t (shows p) a b i j
    → ((U : Teller H) → HoldsBy V U t p → Ran (λ (W : Teller H). HoldsBy V W u q) U answer p.calls t u (shows q) b c j k)
    → Ran (λ (W : Teller H). HoldsBy V W u q) T answer first s u (shows q) a c i k
ran_step {R} {B} {H} {g} V T answer first s t u p q a b c i j k now r l m few steps moves x next =
    let more : p.calls ≤ q.calls = omega (arith, steps.calls, steps.few.0) in
    ran_then V T answer first s t u p q a b c i j k few more steps.moved.local steps.moved.peer
    (λ n lt. last_before (shows p) (shows q) n lt steps.drains.closing)
    (λ e. over_stays now r (shows p) (shows q) t u l m (named_over p.at why.NoMemory e) e moves) x next

-- over the same connection
pub ran_of_same : {R B H : Type 0} {g : Ghosts B} (V : Voice H) (T : Teller H) (answer : R → Stack H) (s s' : Seen) (old same : Inside B H g) (d : Shown)
    (Stands : Teller H → Type 0) (a b : Option (List (Answer Content H))) (i j : Option (List (Asked × Bool))) → same ≡ old
    → (HoldsBy V T s same → Ran Stands T answer same.calls s s' d a b i j) → HoldsBy V T s old → Ran Stands T answer old.calls s s' d a b i j
ran_of_same {R} {B} {H} {g} V T answer s s' old same d Stands a b i j e ran h =
    subst (λ (x : Inside B H g). Ran Stands T answer x.calls s s' d a b i j) e (ran (subst (λ (x : Inside B H g). HoldsBy V T s x) (sym e) h))

-- what is read on, stands or is refused
pub ran_rightly : {R B H : Type 0} {g : Ghosts B} (V : Voice H) (T : Teller H) (answer : R → Stack H) (first : ℕ) (s s' : Seen) (p : Inside B H g)
    (a b : Option (List (Answer Content H))) (i j : Option (List (Asked × Bool)))
    → Ran (λ (W : Teller H). HoldsBy V W s' p) T answer first s s' (shows p) a b i j → BeginsRightly s' (shows p)
ran_rightly {R} {B} {H} {g} V T answer first s s' p a b i j r =
    begins_rightly V (tell_from T first r.answers p.local p.peer p.ending.closing) s' p r.stands
