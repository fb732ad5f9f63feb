-- What a connection shows behind what a hijacker was told, and behind a run.
use Rattle.std.proofs.Common.{◌≡◌, ◌≢◌, ℕ, ◌+◌, ◌-◌, Bool, List, [], refl, sym, ap, subst, ◌∙◌, arith, Option, None, inl, inr}
use Rattle.rack_types.specs.declared.answer.Answer.{Answer}
use Rattle.rack_types.specs.Body.{Content}
use Rattle.rack_types.specs.Env.{Pairs}
use Rattle.reply_framing.specs.declared.types.After.TheVariants.{Close}
use Rattle.reply_framing.specs.declared.types.Ask.{Ask}
use Rattle.talk_core.specs.declared.ended.Why.{Why}
use Rattle.talk_core.specs.declared.ended.Why.TheVariants as why
use Rattle.talk_core.specs.Tail.{Voice}
use Rattle.conn_steps.specs.declared.at.At.{At}
use Rattle.conn_steps.specs.declared.at.At.TheVariants as at
use Rattle.conn_steps.specs.declared.state.State.{State}
use Rattle.conn_steps.specs.declared.state.State.TheVariants as state
use Rattle.conn_steps.specs.Ends.{IsOfFeed}
use Rattle.conn_steps.specs.Inner.{IsHeard}
use Rattle.conn_steps.specs.Moves.{SameShown, ToldTo, StartsAs, Starts}
use Rattle.conn_steps.specs.At.{IsHearing, state_at}
use Rattle.conn_steps.specs.Shown.{Shown, replied_at, owed_at, why_at, after_at}
use Rattle.conn_steps.specs.Steps.{BeginsAt, Tells, TellsEnd, HandsOn, EndsOn}
use Rattle.conn_steps.proofs.MovesOfSteps.{some_not}

-- what the place shows behind what the hijacker that has the connection was told
pub record HeardShown {B H : Type 0} (a b : At B H) (calls : ℕ) : Type 0 where
  pub replied : replied_at b calls ≡ replied_at a calls
  pub why : IsOfFeed (why_at b)
  pub state : IsHeard (state_at b)
  pub to : ToldTo (state_at b) (why_at b)

told_shown : {B H : Type 0} (V : Voice H) (h : H) (b : At B H) (piece ring left : List ℕ) (calls : ℕ) → Tells V h piece b ring left
    → HeardShown (at.Listening h) b calls
told_shown {B} {H} V h at.Reading piece ring left calls t = absurd t
told_shown {B} {H} V h at.Asked piece ring left calls t = absurd t
told_shown {B} {H} V h (at.Refused fault) piece ring left calls t = absurd t
told_shown {B} {H} V h (at.Answering framer) piece ring left calls t = absurd t
told_shown {B} {H} V h (at.Writing keeps) piece ring left calls t = absurd t
told_shown {B} {H} V h (at.Handing now) piece ring left calls t = absurd t
told_shown {B} {H} V h at.Refusing piece ring left calls t = absurd t
told_shown {B} {H} V h (at.Listening now) piece ring left calls t =
    record { replied = refl; why = tt; state = tt; to = refl }
told_shown {B} {H} V h (at.Speaking now) piece ring left calls t =
    record { replied = refl; why = tt; state = tt; to = refl }
told_shown {B} {H} V h at.Parting piece ring left calls t =
    record { replied = refl; why = tt; state = tt; to = refl }
told_shown {B} {H} V h (at.Over why.Closed) piece ring left calls t = absurd t
told_shown {B} {H} V h (at.Over why.PeerEnd) piece ring left calls t = absurd t
told_shown {B} {H} V h (at.Over (why.Idle by)) piece ring left calls t = absurd t
told_shown {B} {H} V h (at.Over (why.TimedOut since moment)) piece ring left calls t = absurd t
told_shown {B} {H} V h (at.Over (why.Stalled since moment)) piece ring left calls t = absurd t
told_shown {B} {H} V h (at.Over (why.Unread level)) piece ring left calls t = absurd t
told_shown {B} {H} V h (at.Over why.ReadFailed) piece ring left calls t = absurd t
told_shown {B} {H} V h (at.Over why.WriteFailed) piece ring left calls t = absurd t
told_shown {B} {H} V h (at.Over (why.Halted level)) piece ring left calls t = absurd t
told_shown {B} {H} V h (at.Over why.NoMemory) piece ring left calls t =
    record { replied = refl; why = tt; state = tt; to = inr refl }
told_shown {B} {H} V h (at.Over why.Hijacked) piece ring left calls t =
    record { replied = refl; why = tt; state = tt; to = inl refl }

pub heard_shown : {B H : Type 0} (V : Voice H) (a b : At B H) (unfed before ring left : List ℕ) (calls : ℕ) → IsHearing a
    → HandsOn V a unfed before b ring left → HeardShown a b calls
heard_shown {B} {H} V at.Reading b unfed before ring left calls is e = absurd is
heard_shown {B} {H} V at.Asked b unfed before ring left calls is e = absurd is
heard_shown {B} {H} V (at.Refused f) b unfed before ring left calls is e = absurd is
heard_shown {B} {H} V (at.Answering f) b unfed before ring left calls is e = absurd is
heard_shown {B} {H} V (at.Writing keeps) b unfed before ring left calls is e = absurd is
heard_shown {B} {H} V (at.Handing h) b unfed before ring left calls is e = absurd is
heard_shown {B} {H} V at.Refusing b unfed before ring left calls is e = absurd is
heard_shown {B} {H} V (at.Listening h) b unfed before ring left calls is e = told_shown V h b unfed ring left calls e
heard_shown {B} {H} V (at.Speaking h) b unfed before ring left calls is e = absurd is
heard_shown {B} {H} V at.Parting b unfed before ring left calls is e = absurd is
heard_shown {B} {H} V (at.Over w) b unfed before ring left calls is e = absurd is

-- a hijacker that has the connection behind the peer's end said something, and that was its last
pub record EndedShown {B H : Type 0} (a b : At B H) (ring : List ℕ) (calls : ℕ) : Type 0 where
  pub heard : HeardShown a b calls
  pub last : state_at b ≡ state.Hijacked → (after_at b ≡ Close) × (owed_at b ring ≢ [])

end_shown : {B H : Type 0} (V : Voice H) (h : H) (b : At B H) (ring : List ℕ) (calls : ℕ) → TellsEnd V h b ring
    → EndedShown (at.Listening h) b ring calls
end_shown {B} {H} V h at.Reading ring calls t = absurd t
end_shown {B} {H} V h at.Asked ring calls t = absurd t
end_shown {B} {H} V h (at.Refused fault) ring calls t = absurd t
end_shown {B} {H} V h (at.Answering framer) ring calls t = absurd t
end_shown {B} {H} V h (at.Writing keeps) ring calls t = absurd t
end_shown {B} {H} V h (at.Handing now) ring calls t = absurd t
end_shown {B} {H} V h at.Refusing ring calls t = absurd t
end_shown {B} {H} V h (at.Listening now) ring calls t = absurd t
end_shown {B} {H} V h (at.Speaking now) ring calls t = absurd t
end_shown {B} {H} V h at.Parting ring calls t =
    record { heard = record { replied = refl; why = tt; state = tt; to = refl }; last = λ e. (refl, some_not ring t.1) }
end_shown {B} {H} V h (at.Over why.Closed) ring calls t = absurd t
end_shown {B} {H} V h (at.Over why.PeerEnd) ring calls t = absurd t
end_shown {B} {H} V h (at.Over (why.Idle by)) ring calls t = absurd t
end_shown {B} {H} V h (at.Over (why.TimedOut since moment)) ring calls t = absurd t
end_shown {B} {H} V h (at.Over (why.Stalled since moment)) ring calls t = absurd t
end_shown {B} {H} V h (at.Over (why.Unread level)) ring calls t = absurd t
end_shown {B} {H} V h (at.Over why.ReadFailed) ring calls t = absurd t
end_shown {B} {H} V h (at.Over why.WriteFailed) ring calls t = absurd t
end_shown {B} {H} V h (at.Over (why.Halted level)) ring calls t = absurd t
end_shown {B} {H} V h (at.Over why.NoMemory) ring calls t =
    record { heard = record { replied = refl; why = tt; state = tt; to = inr refl }; last = λ e. cc }
end_shown {B} {H} V h (at.Over why.Hijacked) ring calls t =
    record { heard = record { replied = refl; why = tt; state = tt; to = inl refl }; last = λ e. cc }

pub ended_shown : {B H : Type 0} (V : Voice H) (a b : At B H) (ring : List ℕ) (calls : ℕ) → IsHearing a → EndsOn V a b ring
    → EndedShown a b ring calls
ended_shown {B} {H} V at.Reading b ring calls is e = absurd is
ended_shown {B} {H} V at.Asked b ring calls is e = absurd is
ended_shown {B} {H} V (at.Refused f) b ring calls is e = absurd is
ended_shown {B} {H} V (at.Answering f) b ring calls is e = absurd is
ended_shown {B} {H} V (at.Writing keeps) b ring calls is e = absurd is
ended_shown {B} {H} V (at.Handing h) b ring calls is e = absurd is
ended_shown {B} {H} V at.Refusing b ring calls is e = absurd is
ended_shown {B} {H} V (at.Listening h) b ring calls is e = end_shown V h b ring calls e
ended_shown {B} {H} V (at.Speaking h) b ring calls is e = absurd is
ended_shown {B} {H} V at.Parting b ring calls is e = absurd is
ended_shown {B} {H} V (at.Over w) b ring calls is e = absurd is

-- where a hijacker is to be told more, none of its place is over
pub hears_shown : {B H : Type 0} (a : At B H) → IsHearing a → (state_at a ≡ state.Hijacked) × (why_at a ≡ None)
hears_shown {B} {H} at.Reading is = absurd is
hears_shown {B} {H} at.Asked is = absurd is
hears_shown {B} {H} (at.Refused f) is = absurd is
hears_shown {B} {H} (at.Answering f) is = absurd is
hears_shown {B} {H} (at.Writing keeps) is = absurd is
hears_shown {B} {H} (at.Handing h) is = absurd is
hears_shown {B} {H} at.Refusing is = absurd is
hears_shown {B} {H} (at.Listening h) is = (refl, refl)
hears_shown {B} {H} (at.Speaking h) is = absurd is
hears_shown {B} {H} at.Parting is = absurd is
hears_shown {B} {H} (at.Over w) is = absurd is

pub hears_replied : {B H : Type 0} (a : At B H) (calls : ℕ) → IsHearing a → replied_at a calls ≡ calls
hears_replied {B} {H} at.Reading calls is = absurd is
hears_replied {B} {H} at.Asked calls is = absurd is
hears_replied {B} {H} (at.Refused f) calls is = absurd is
hears_replied {B} {H} (at.Answering f) calls is = absurd is
hears_replied {B} {H} (at.Writing keeps) calls is = absurd is
hears_replied {B} {H} (at.Handing h) calls is = absurd is
hears_replied {B} {H} at.Refusing calls is = absurd is
hears_replied {B} {H} (at.Listening h) calls is = refl
hears_replied {B} {H} (at.Speaking h) calls is = absurd is
hears_replied {B} {H} at.Parting calls is = absurd is
hears_replied {B} {H} (at.Over w) calls is = absurd is

one_less : (calls : ℕ) → calls + 1 - 1 ≡ calls
one_less calls = omega arith

-- what is shown behind a run, by the replies that were sent whole and the unfed bytes
more_replied : (o n : Shown) (calls : ℕ) → o.replied ≡ calls → n.replied ≡ calls + 1 → n.replied ≡ o.replied + 1
more_replied o n calls first e = e ∙ ap (λ (k : ℕ). k + 1) (sym first)

module _ {B H : Type 0} (V : Voice H) (o n : Shown) (calls : ℕ) (first : o.replied ≡ calls) where
  -- a hijacker took the connection over
  told_starts : (h : H) (b : At B H) (piece ring left : List ℕ) → n.replied ≡ replied_at b (calls + 1) → Tells V h piece b ring left
      → StartsAs (state_at b) (why_at b) o n
  told_starts h at.Reading piece ring left last t = absurd t
  told_starts h at.Asked piece ring left last t = absurd t
  told_starts h (at.Refused fault) piece ring left last t = absurd t
  told_starts h (at.Answering framer) piece ring left last t = absurd t
  told_starts h (at.Writing keeps) piece ring left last t = absurd t
  told_starts h (at.Handing now) piece ring left last t = absurd t
  told_starts h at.Refusing piece ring left last t = absurd t
  told_starts h (at.Listening now) piece ring left last t = (refl, more_replied o n calls first last)
  told_starts h (at.Speaking now) piece ring left last t = (refl, more_replied o n calls first last)
  told_starts h at.Parting piece ring left last t = (refl, more_replied o n calls first last)
  told_starts h (at.Over why.Closed) piece ring left last t = absurd t
  told_starts h (at.Over why.PeerEnd) piece ring left last t = absurd t
  told_starts h (at.Over (why.Idle by)) piece ring left last t = absurd t
  told_starts h (at.Over (why.TimedOut since moment)) piece ring left last t = absurd t
  told_starts h (at.Over (why.Stalled since moment)) piece ring left last t = absurd t
  told_starts h (at.Over (why.Unread level)) piece ring left last t = absurd t
  told_starts h (at.Over why.ReadFailed) piece ring left last t = absurd t
  told_starts h (at.Over why.WriteFailed) piece ring left last t = absurd t
  told_starts h (at.Over (why.Halted level)) piece ring left last t = absurd t
  told_starts h (at.Over why.NoMemory) piece ring left last t = inl refl
  told_starts h (at.Over why.Hijacked) piece ring left last t = inr refl

  pub run_starts : (ask : Ask) (ps : Pairs) (answer : Answer Content H) (end : Bool) (x b : At B H) (unfed before ring left : List ℕ)
      → o.unfed ≡ unfed → n.unfed ≡ left → n.replied ≡ replied_at b (calls + 1) → BeginsAt ask ps answer end x → HandsOn V x unfed before b ring left
      → StartsAs (state_at b) (why_at b) o n
  run_starts ask ps answer end at.Reading b unfed before ring left had has last begins hands = absurd begins
  run_starts ask ps answer end at.Asked b unfed before ring left had has last begins hands = absurd begins
  run_starts ask ps answer end (at.Refused fault) b unfed before ring left had has last begins hands = absurd begins
  run_starts ask ps answer end (at.Answering framer) b unfed before ring left had has last begins hands =
      subst (λ (d : At B H). StartsAs (state_at d) (why_at d) o n) (sym hands.0)
      (refl, last ∙ ap (λ (d : At B H). replied_at d (calls + 1)) hands.0 ∙ one_less calls ∙ sym first, has ∙ hands.2 ∙ sym had)
  run_starts ask ps answer end (at.Writing keeps) b unfed before ring left had has last begins hands = absurd begins
  run_starts ask ps answer end (at.Handing now) b unfed before ring left had has last begins hands = told_starts now b unfed ring left last hands
  run_starts ask ps answer end at.Refusing b unfed before ring left had has last begins hands = absurd begins
  run_starts ask ps answer end (at.Listening now) b unfed before ring left had has last begins hands = absurd begins
  run_starts ask ps answer end (at.Speaking now) b unfed before ring left had has last begins hands = absurd begins
  run_starts ask ps answer end at.Parting b unfed before ring left had has last begins hands = absurd begins
  run_starts ask ps answer end (at.Over why.Closed) b unfed before ring left had has last begins hands = absurd begins
  run_starts ask ps answer end (at.Over why.PeerEnd) b unfed before ring left had has last begins hands = absurd begins
  run_starts ask ps answer end (at.Over (why.Idle by)) b unfed before ring left had has last begins hands = absurd begins
  run_starts ask ps answer end (at.Over (why.TimedOut since moment)) b unfed before ring left had has last begins hands = absurd begins
  run_starts ask ps answer end (at.Over (why.Stalled since moment)) b unfed before ring left had has last begins hands = absurd begins
  run_starts ask ps answer end (at.Over (why.Unread level)) b unfed before ring left had has last begins hands = absurd begins
  run_starts ask ps answer end (at.Over why.ReadFailed) b unfed before ring left had has last begins hands = absurd begins
  run_starts ask ps answer end (at.Over why.WriteFailed) b unfed before ring left had has last begins hands = absurd begins
  run_starts ask ps answer end (at.Over (why.Halted level)) b unfed before ring left had has last begins hands = absurd begins
  run_starts ask ps answer end (at.Over why.NoMemory) b unfed before ring left had has last begins hands =
      subst (λ (d : At B H). StartsAs (state_at d) (why_at d) o n) (sym hands.0) (inl refl)
  run_starts ask ps answer end (at.Over why.Hijacked) b unfed before ring left had has last begins hands = absurd begins

  -- a request was run
  pub run_began : (ask : Ask) (ps : Pairs) (answer : Answer Content H) (end : Bool) (x b : At B H) (unfed before ring left : List ℕ)
      → SameShown o n → n.calls ≡ o.calls + 1 → n.state ≡ state_at b → n.why ≡ why_at b
      → o.unfed ≡ unfed → n.unfed ≡ left → n.replied ≡ replied_at b (calls + 1) → BeginsAt ask ps answer end x → HandsOn V x unfed before b ring left
      → Starts o n
  run_began ask ps answer end x b unfed before ring left same count is ended had has last begins hands = record {
    same = same;
    calls = count;
    place = subst (λ (y : State). StartsAs y n.why o n) (sym is)
        (subst (λ (w : Option Why). StartsAs (state_at b) w o n) (sym ended)
        (run_starts ask ps answer end x b unfed before ring left had has last begins hands));
  }
