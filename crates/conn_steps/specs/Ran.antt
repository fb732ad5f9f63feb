-- What the runs of any runner leave of a connection. A runner need not answer a request as it answered the one before: so
-- a connection stands for its talk over the replies by the answers that came, one to each request by its number.
use Rattle.std.specs.Prelude.{◌≡◌, ℕ, ◌+◌, ◌<◌, ◌≤◌, Bool, List, ◌++◌, Option, Some, ◌⊎◌}
use Rattle.rack_types.specs.declared.answer.Answer.{Answer}
use Rattle.rack_types.specs.declared.body.Body.{Ghosts}
use Rattle.rack_types.specs.Body.{Content}
use Rattle.rack_types.specs.Env.{Pairs}
use Rattle.rack_types.specs.Request.{Parts}
use Rattle.rack_types.specs.Runner.{Asked}
use Rattle.rack_outside.specs.Link.{Seen, Tells}
use Rattle.rack_outside.specs.Told.{appended}
use Rattle.talk_core.specs.declared.ended.Why.{Why}
use Rattle.talk_core.specs.declared.ended.Why.TheVariants as why
use Rattle.talk_core.specs.Answered.{Answers, tell_by, tell_from, answers_to, asked_for, HasAsked, SentUpTo}
use Rattle.talk_core.specs.Asked.{IsAsked}
use Rattle.talk_core.specs.Lives.{AreLives}
use Rattle.talk_core.specs.Tail.{Voice}
use Rattle.talk_core.specs.Teller.{Stack, Teller}
use Rattle.conn_steps.specs.Shown.{Shown}

-- a runner foretells this answer: as it is at some moment, to some environment
abbrev pub Gives : {R H : Type 0} → (R → Stack H) → Answer Content H → Type 0
Gives {R} {H} answer given = (r : R) × (ps : Pairs) × (input : List ℕ) × (given ≡ answer r ps input)

-- of the runs from this number on so many were Ok: each of them, or each but the last, and then the connection ended
-- for want of memory
abbrev pub AreOk : ℕ → ℕ → Shown → Type 0
AreOk first good c = (first + good ≡ c.calls) ⊎ ((first + good + 1 ≡ c.calls) × (c.why ≡ Some why.NoMemory))

-- more requests were run, and a list of what was asked, where it is told, grew by their environments, in order
pub record AsksOn (s : Seen) (c : Shown) (requests : List Parts) (good : ℕ) (asked asked' : Option (List (Asked × Bool))) : Type 0 where
  pub more : List Parts
  pub has : HasAsked s c.calls (requests ++ more)
  pub asked_is : asked' ≡ appended asked (asked_for c.local c.peer good more)

-- requests were run from number `first` on, and what the runner tells grew by them: its answers by those of the runs
-- that were Ok, and what it was asked by the environments of these requests, whichever were the first ones. A connection
-- that stood for its talk over some replies does so over these below that number, and from it on over those by the
-- answers that the runner gave. Of a run that was not Ok there is no reply, and its answer is one that was foretold
pub record Ran {R H : Type 0} (Stands : Teller H → Type 0) (T : Teller H) (answer : R → Stack H) (first : ℕ) (s s' : Seen) (c : Shown)
    (answered answered' : Option (List (Answer Content H))) (asked asked' : Option (List (Asked × Bool))) : Type 0 where
  pub answers : Answers H
  pub good : ℕ
  pub good_is : AreOk first good c
  pub stands : Stands (tell_from T first answers c.local c.peer c.ending.closing)
  pub gives : (k : ℕ) → first ≤ k → k < c.calls → (k < first + good) ⊎ Gives answer (answers k)
  pub answered_is : answered' ≡ appended answered (answers_to answers first good)
  pub unsaid : first + good < c.calls → SentUpTo (tell_from T first answers c.local c.peer c.ending.closing) s' (first + good)
  pub asks : (requests : List Parts) → HasAsked s first requests → AsksOn s' c requests good asked asked'

-- the requests that were asked on a connection, counted by what they say themselves, as far as its link tells what it gave
pub record AskedAt (s : Seen) (c : Shown) : Type 0 where
  pub given : List ℕ
  pub tells : Tells s.given given
  pub asked : List Parts
  pub rest : List ℕ
  pub asks : IsAsked c.ending.closing given c.calls asked rest
