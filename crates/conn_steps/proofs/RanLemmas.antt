-- What the runs of any runner leave: none, one, and one behind the other.
use Rattle.std.proofs.Common.{◌≡◌, ℕ, ◌+◌, ◌<◌, ◌≤◌, Bool, true, false, nat_lt, List, [], ◌∷◌, ◌++◌, length, refl, sym, ap, subst, ◌∙◌, append_assoc, arith, length-append, Option, Some, ◌⊎◌, inl, inr, ⊎_elim}
use Rattle.std.proofs.lemmas.Bool.Decides.{nat_tests}
use Rattle.std.proofs.lemmas.List.{append-nil}
use Rattle.rack_types.specs.declared.answer.Answer.{Answer}
use Rattle.rack_types.specs.declared.answer.Answer.TheVariants.{Raised}
use Rattle.rack_types.specs.declared.body.Body.{Ghosts}
use Rattle.rack_types.specs.declared.peer.Local.{Local}
use Rattle.rack_types.specs.Body.{Content}
use Rattle.rack_types.specs.Env.{Environment}
use Rattle.rack_types.specs.Request.{Parts}
use Rattle.rack_types.specs.Runner.{Asked, BecomesBy, Becomes}
use Rattle.rack_env.specs.Environment.{environment}
use Rattle.rack_outside.specs.Link.{Seen}
use Rattle.rack_outside.specs.Told.{appended}
use Rattle.message_framing.specs.Intake.{Fed}
use Rattle.message_framing.specs.Request.{IsRequest}
use Rattle.talk_core.specs.declared.ended.Why.{Why}
use Rattle.talk_core.specs.declared.ended.Why.TheVariants as why
use Rattle.talk_core.specs.Answered.{Answers, tell_by, tell_from, answers_to, asked_as, asked_for, HasAsked, SentUpTo}
use Rattle.talk_core.specs.Tail.{Voice}
use Rattle.talk_core.specs.Teller.{Stack, Teller, AgreesBelow, is_last}
use Rattle.talk_core.proofs.CallerLemmas.{joined, joined_below, joined_from, from_before, from_here, from_agrees, tell_same, answers_joined, asked_append, appended_none, appended_twice, has_more, has_next, replies_agree, keep_agrees, silent_sent, silent_asks}
use Rattle.conn_steps.specs.declared.inside.Inside.{Inside}
use Rattle.conn_steps.specs.declared.at.At.{At}
use Rattle.conn_steps.specs.declared.at.At.TheVariants as at
use Rattle.conn_steps.specs.declared.budget.Budget.{Budget}
use Rattle.conn_steps.specs.declared.budget.Step.{Step}
use Rattle.conn_steps.specs.declared.budget.Step.TheVariants as step
use Rattle.conn_steps.specs.declared.state.State.TheVariants as state
use Rattle.conn_steps.specs.Holds.{Kept, kept, Between, StandsAt, HoldsBy}
use Rattle.conn_steps.specs.Inner.{Steps, StepMoves, budget_at}
use Rattle.conn_steps.specs.Moves.{Move, Run, Refusal, Want, Read, Write, Point, MakesMove}
use Rattle.conn_steps.specs.Owner.{BeginsRightly}
use Rattle.conn_steps.specs.At.{state_at}
use Rattle.conn_steps.specs.Ran.{Gives, AreOk, AsksOn, Ran}
use Rattle.conn_steps.specs.RunOnce.{answer_of, TellsRun}
use Rattle.conn_steps.specs.Shown.{Shown, shows, why_at}
use Rattle.conn_steps.specs.Steps.{HandsOn}
use Rattle.conn_steps.proofs.RetellLemmas.{retold}

-- where no request was run
abbrev pub no_answers : {H : Type 0} → Answers H
no_answers {H} k = Raised []

pub ran_nothing : {R H : Type 0} (T : Teller H) (answer : R → Stack H) (first : ℕ) (s s' : Seen) (came : List ℕ) (d : Shown) (Stands : Teller H → Type 0)
    (answered : Option (List (Answer Content H))) (asked : Option (List (Asked × Bool))) → d.calls ≡ first → s'.given ≡ appended s.given came
    → Stands (tell_from T first no_answers d.local d.peer d.ending.closing) → Ran Stands T answer first s s' d answered answered asked asked
ran_nothing {R} {H} T answer first s s' came d Stands answered asked same more stands =
    let all : first + 0 ≡ d.calls = omega (arith, same) in
    record {
      answers = no_answers;
      good = 0;
      good_is = inl all;
      stands = stands;
      gives = λ k from lt. absurd (omega (arith, from, lt, same));
      answered_is = appended_none answered;
      unsaid = λ lt. absurd (omega (arith, lt, same));
      asks = λ requests has.
          record {
            more = [];
            has = subst (λ (rs : List Parts). HasAsked s' d.calls rs) (sym (append-nil requests))
                (subst (λ (n : ℕ). HasAsked s' n requests) (sym same) (has_more s s' first requests came more has));
            asked_is = appended_none asked;
          };
    }

pub ran_none : {R B H : Type 0} {g : Ghosts B} (V : Voice H) (T : Teller H) (answer : R → Stack H) (first : ℕ) (s s' : Seen) (came : List ℕ) (q : Inside B H g)
    (answered : Option (List (Answer Content H))) (asked : Option (List (Asked × Bool))) → q.calls ≡ first → s'.given ≡ appended s.given came → HoldsBy V T s' q
    → Ran (λ (U : Teller H). HoldsBy V U s' q) T answer first s s' (shows q) answered answered asked asked
ran_none {R} {B} {H} {g} V T answer first s s' came q answered asked same more h =
    let U : Teller H = tell_from T first no_answers q.local q.peer q.ending.closing in
    ran_nothing T answer first s s' came (shows q) (λ (W : Teller H). HoldsBy V W s' q) answered asked same more
    (retold V T U s' q.peer q.at (kept q) (λ i lt r. from_before T first no_answers q.local q.peer q.ending.closing i (omega (arith, lt, same)) r) h)

-- the requests that stand are the next
pub ran_once : {R B H : Type 0} (V : Voice H) (T : Teller H) (answer : R → Stack H) (s : Seen) (peer : List ℕ) (local : Local) (c : Kept) (d : Shown)
    (env : Environment) (x : Answer Content H) (b : At B H) (Stands : Teller H → Type 0)
    (answered answered' : Option (List (Answer Content H))) (asked asked' : Option (List (Asked × Bool)))
    → d.calls ≡ c.calls + 1 → d.local ≡ local → d.peer ≡ peer
    → (tells : TellsRun x (env.pairs, env.input.bytes) answered answered' asked asked' b) → (tells.well ≡ false → Gives answer x) → (tells.well ≡ false → d.why ≡ Some why.NoMemory)
    → ((now : List ℕ) (r : Parts) → Fed c.intake now → IsRequest now r → env ≡ environment r peer local)
    → StandsAt {B = B} V T s peer at.Asked c
    → Stands (tell_from T c.calls (λ (k : ℕ). x) d.local d.peer d.ending.closing)
    → Ran Stands T answer c.calls s s d answered answered' asked asked'
ran_once {R} {B} {H} V T answer s peer local c d env x b Stands answered answered' asked asked' count local_is peer_is tells gives refused is h stands =
    go tells.well tells.answered_is tells.asked_is gives refused
  where
    answers : Answers H
    answers = λ k. x

    U : Teller H
    U = tell_from T c.calls answers d.local d.peer d.ending.closing

    now : List ℕ
    now = h.at.0

    request : Parts
    request = h.at.1

    between : Between V T h.over h.given h.sent c now
    between = h.at.3

    asking : (env.pairs, env.input.bytes) ≡ asked_as d.local d.peer request
    asking =
        ap (λ (e : Environment). (e.pairs, e.input.bytes)) (is now request between.fed h.at.2)
        ∙ ap (λ (p : List ℕ). asked_as local p request) (sym peer_is) ∙ ap (λ (l : Local). asked_as l d.peer request) (sym local_is)

    next : (requests : List Parts) → HasAsked s c.calls requests → HasAsked s d.calls (requests ++ request ∷ [])
    next requests has =
        subst (λ (n : ℕ). HasAsked s n (requests ++ request ∷ [])) (sym count)
        (has_next s c.calls requests h.given now c.unfed between.stands.whole request has h.shows.given_is
        (silent_asks V T h.over h.given h.sent (now ++ c.unfed) c.calls between.stands) between.stands.count h.at.2)

    unsent : SentUpTo U s c.calls
    unsent =
        let below : AgreesBelow (0 + length between.stands.whole) T U =
        λ i lt r. from_before T c.calls answers d.local d.peer d.ending.closing i (omega (arith, lt, between.stands.count)) r in
        record {
          given = h.given;
          sent = h.sent;
          tells_given = h.shows.given_is;
          tells_sent = h.shows.sent_is;
          requests = between.stands.whole;
          rest = now ++ c.unfed;
          asks = silent_asks V T h.over h.given h.sent (now ++ c.unfed) c.calls between.stands;
          count = between.stands.count;
          keeps = keep_agrees T U between.stands.whole 0 below between.stands.keeps;
          sent_is = silent_sent V T h.over h.given h.sent (now ++ c.unfed) c.calls between.stands ∙ replies_agree T U between.stands.whole 0 below;
        }

    go : (well : Bool) → answered' ≡ appended answered (answer_of well x) → asked' ≡ appended asked (((env.pairs, env.input.bytes), well) ∷ [])
        → (well ≡ false → Gives answer x) → (well ≡ false → d.why ≡ Some why.NoMemory) → Ran Stands T answer c.calls s s d answered answered' asked asked'
    go true answered_is asked_is gives refused =
        let all : c.calls + 1 ≡ d.calls = omega (arith, count) in
        record {
          answers = answers;
          good = 1;
          good_is = inl all;
          stands = stands;
          gives = λ k from lt. let few : k < c.calls + 1 = omega (arith, lt, count) in inl few;
          answered_is = answered_is;
          unsaid = λ lt. absurd (omega (arith, lt, count));
          asks = λ requests has.
              record {
                more = request ∷ [];
                has = next requests has;
                asked_is = asked_is ∙ ap (λ (q : Asked). appended asked ((q, true) ∷ [])) asking;
              };
        }
    go false answered_is asked_is gives refused =
        let less : c.calls + 0 + 1 ≡ d.calls = omega (arith, count) in
        let none : c.calls ≡ c.calls + 0 = omega arith in
        record {
          answers = answers;
          good = 0;
          good_is = inr (less, refused refl);
          stands = stands;
          gives = λ k from lt. inr (gives refl);
          answered_is = answered_is;
          unsaid = λ lt. subst (λ (n : ℕ). SentUpTo U s n) none unsent;
          asks = λ requests has.
              record {
                more = request ∷ [];
                has = next requests has;
                asked_is = asked_is ∙ ap (λ (q : Asked). appended asked ((q, false) ∷ [])) asking;
              };
        }

-- want of memory in a run is want of memory of the connection
pub ran_wants : {B H : Type 0} (V : Voice H) (a b : At B H) (unfed before ring left : List ℕ) → a ≡ at.Over why.NoMemory → HandsOn V a unfed before b ring left
    → why_at b ≡ Some why.NoMemory
ran_wants {B} {H} V a b unfed before ring left e hands =
    ap (λ (x : At B H). why_at x) (subst (λ (x : At B H). HandsOn V x unfed before b ring left) e hands).0

-- no run makes of a runner itself, and one what it says
pub becomes_none : {R : Type 0} (becomes : R → R → Type 0) (r : R) → Becomes becomes r r
becomes_none {R} becomes r = ([], refl)

pub becomes_once : {R : Type 0} (becomes : R → R → Type 0) (r s : R) → becomes r s → Becomes becomes r s
becomes_once {R} becomes r s h = (s ∷ [], (h, refl))

becomes_on : {R : Type 0} (becomes : R → R → Type 0) (between more : List R) (a b c : R) → BecomesBy becomes between a b → BecomesBy becomes more b c
    → BecomesBy becomes (between ++ more) a c
becomes_on {R} becomes [] more a b c h k = subst (λ (x : R). BecomesBy becomes more x c) h k
becomes_on {R} becomes (next ∷ rest) more a b c h k = (h.0, becomes_on becomes rest more next b c h.1 k)

-- some runs, and then more
pub becomes_then : {R : Type 0} (becomes : R → R → Type 0) (a b c : R) → Becomes becomes a b → Becomes becomes b c → Becomes becomes a c
becomes_then {R} becomes a b c h k = (h.0 ++ k.0, becomes_on becomes h.0 k.0 a b c h.1 k.1)
