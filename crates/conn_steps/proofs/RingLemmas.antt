-- What the ring holds behind each step of a connection.
use Rattle.std.proofs.Common.{◌≡◌, ◌≢◌, ℕ, Bool, List, [], refl, sym, ap, ◌∙◌}
use Rattle.std.specs.Prelude.{⊤}
use Rattle.rack_types.specs.declared.answer.Answer.{Answer}
use Rattle.rack_types.specs.Body.{Content}
use Rattle.rack_types.specs.Env.{Pairs}
use Rattle.message_framing.specs.declared.intake.Intake.{Intake}
use Rattle.reply_framing.specs.declared.types.Ask.{Ask}
use Rattle.talk_core.specs.Tail.{Voice}
use Rattle.conn_steps.specs.declared.at.At.{At}
use Rattle.conn_steps.specs.declared.at.At.TheVariants as at
use Rattle.conn_steps.specs.declared.state.State.{State}
use Rattle.conn_steps.specs.declared.state.State.TheVariants as state
use Rattle.conn_steps.specs.Inner.{IsFilledAt}
use Rattle.conn_steps.specs.Keeps.{Move, Run, ring_by}
use Rattle.conn_steps.specs.At.{IsHearing, state_at}
use Rattle.conn_steps.specs.Shown.{Shown, owed_at, ring_at}
use Rattle.conn_steps.specs.Steps.{FeedsHeld, BeginsAt, Tells, TellsEnd, HandsOn, EndsOn}

-- the ring is shown while the connection lives
pub ring_at_live : {B H : Type 0} (b : At B H) (ring : List ℕ) → state_at b ≢ state.Over → ring_at b ring ≡ ring
ring_at_live {B} {H} at.Reading ring live = refl
ring_at_live {B} {H} at.Asked ring live = refl
ring_at_live {B} {H} (at.Refused f) ring live = refl
ring_at_live {B} {H} (at.Answering f) ring live = refl
ring_at_live {B} {H} (at.Writing keeps) ring live = refl
ring_at_live {B} {H} (at.Handing h) ring live = refl
ring_at_live {B} {H} at.Refusing ring live = refl
ring_at_live {B} {H} (at.Listening h) ring live = refl
ring_at_live {B} {H} (at.Speaking h) ring live = refl
ring_at_live {B} {H} at.Parting ring live = refl
ring_at_live {B} {H} (at.Over w) ring live = absurd (live refl)

pub ring_at_filled : {B H : Type 0} (a : At B H) (ring : List ℕ) → IsFilledAt a ring → ring_at a ring ≡ ring
ring_at_filled {B} {H} at.Reading ring is = refl
ring_at_filled {B} {H} at.Asked ring is = refl
ring_at_filled {B} {H} (at.Refused f) ring is = refl
ring_at_filled {B} {H} (at.Answering f) ring is = refl
ring_at_filled {B} {H} (at.Writing keeps) ring is = refl
ring_at_filled {B} {H} (at.Handing h) ring is = refl
ring_at_filled {B} {H} at.Refusing ring is = refl
ring_at_filled {B} {H} (at.Listening h) ring is = refl
ring_at_filled {B} {H} (at.Speaking h) ring is = refl
ring_at_filled {B} {H} at.Parting ring is = refl
ring_at_filled {B} {H} (at.Over w) ring is = absurd is

-- and is all that is owed, where no reply is under way
pub ring_whole : {B H : Type 0} (b : At B H) (ring : List ℕ) (move : Move) (old new : Shown) → state_at b ≢ state.Answering → new.owed ≡ owed_at b ring
    → ring_at b ring ≡ ring_by (state_at b) move old new
ring_whole {B} {H} at.Reading ring move old new unsaid e = sym e
ring_whole {B} {H} at.Asked ring move old new unsaid e = sym e
ring_whole {B} {H} (at.Refused f) ring move old new unsaid e = sym e
ring_whole {B} {H} (at.Answering f) ring move old new unsaid e = absurd (unsaid refl)
ring_whole {B} {H} (at.Writing keeps) ring move old new unsaid e = absurd (unsaid refl)
ring_whole {B} {H} (at.Handing h) ring move old new unsaid e = absurd (unsaid refl)
ring_whole {B} {H} at.Refusing ring move old new unsaid e = absurd (unsaid refl)
ring_whole {B} {H} (at.Listening h) ring move old new unsaid e = sym e
ring_whole {B} {H} (at.Speaking h) ring move old new unsaid e = sym e
ring_whole {B} {H} at.Parting ring move old new unsaid e = sym e
ring_whole {B} {H} (at.Over w) ring move old new unsaid e = refl

pub fed_unanswering : {B H : Type 0} (b : At B H) (old new : Intake) (unfed left : List ℕ) → FeedsHeld old unfed new left b → state_at b ≢ state.Answering
fed_unanswering {B} {H} at.Reading old new unfed left f' e = cc
fed_unanswering {B} {H} at.Asked old new unfed left f' e = cc
fed_unanswering {B} {H} (at.Refused f) old new unfed left f' e = cc
fed_unanswering {B} {H} (at.Answering f) old new unfed left f' e = absurd f'
fed_unanswering {B} {H} (at.Writing keeps) old new unfed left f' e = absurd f'
fed_unanswering {B} {H} (at.Handing h) old new unfed left f' e = absurd f'
fed_unanswering {B} {H} at.Refusing old new unfed left f' e = absurd f'
fed_unanswering {B} {H} (at.Listening h) old new unfed left f' e = absurd f'
fed_unanswering {B} {H} (at.Speaking h) old new unfed left f' e = absurd f'
fed_unanswering {B} {H} at.Parting old new unfed left f' e = absurd f'
fed_unanswering {B} {H} (at.Over w) old new unfed left f' e = cc

pub told_unanswering : {B H : Type 0} (V : Voice H) (who : H) (piece ring left : List ℕ) (b : At B H) → Tells V who piece b ring left → state_at b ≢ state.Answering
told_unanswering {B} {H} V who piece ring left at.Reading t e = absurd t
told_unanswering {B} {H} V who piece ring left at.Asked t e = absurd t
told_unanswering {B} {H} V who piece ring left (at.Refused f) t e = absurd t
told_unanswering {B} {H} V who piece ring left (at.Answering f) t e = absurd t
told_unanswering {B} {H} V who piece ring left (at.Writing keeps) t e = absurd t
told_unanswering {B} {H} V who piece ring left (at.Handing h) t e = absurd t
told_unanswering {B} {H} V who piece ring left at.Refusing t e = absurd t
told_unanswering {B} {H} V who piece ring left (at.Listening h) t e = cc
told_unanswering {B} {H} V who piece ring left (at.Speaking h) t e = cc
told_unanswering {B} {H} V who piece ring left at.Parting t e = cc
told_unanswering {B} {H} V who piece ring left (at.Over w) t e = cc

pub placed : {B H : Type 0} (b d : At B H) → b ≡ d → state_at d ≢ state.Answering → state_at b ≢ state.Answering
placed {B} {H} b d e unsaid is = unsaid (sym (ap (λ (x : At B H). state_at x) e) ∙ is)

-- a hijacker has it, or it ended
abbrev pub IsTold : State → Type 0
IsTold state.Reading = ⊥
IsTold state.Ready = ⊥
IsTold state.Answering = ⊥
IsTold state.Hijacked = ⊤
IsTold state.Over = ⊤

told_is : {B H : Type 0} (V : Voice H) (who : H) (piece ring left : List ℕ) (b : At B H) → Tells V who piece b ring left → IsTold (state_at b)
told_is {B} {H} V who piece ring left at.Reading t = absurd t
told_is {B} {H} V who piece ring left at.Asked t = absurd t
told_is {B} {H} V who piece ring left (at.Refused f) t = absurd t
told_is {B} {H} V who piece ring left (at.Answering f) t = absurd t
told_is {B} {H} V who piece ring left (at.Writing keeps) t = absurd t
told_is {B} {H} V who piece ring left (at.Handing h) t = absurd t
told_is {B} {H} V who piece ring left at.Refusing t = absurd t
told_is {B} {H} V who piece ring left (at.Listening h) t = tt
told_is {B} {H} V who piece ring left (at.Speaking h) t = tt
told_is {B} {H} V who piece ring left at.Parting t = tt
told_is {B} {H} V who piece ring left (at.Over w) t = tt

end_is : {B H : Type 0} (V : Voice H) (who : H) (ring : List ℕ) (b : At B H) → TellsEnd V who b ring → IsTold (state_at b)
end_is {B} {H} V who ring at.Reading t = absurd t
end_is {B} {H} V who ring at.Asked t = absurd t
end_is {B} {H} V who ring (at.Refused f) t = absurd t
end_is {B} {H} V who ring (at.Answering f) t = absurd t
end_is {B} {H} V who ring (at.Writing keeps) t = absurd t
end_is {B} {H} V who ring (at.Handing h) t = absurd t
end_is {B} {H} V who ring at.Refusing t = absurd t
end_is {B} {H} V who ring (at.Listening h) t = tt
end_is {B} {H} V who ring (at.Speaking h) t = tt
end_is {B} {H} V who ring at.Parting t = tt
end_is {B} {H} V who ring (at.Over w) t = tt

pub heard_state : {B H : Type 0} (V : Voice H) (a b : At B H) (piece before ring left : List ℕ) → IsHearing a → HandsOn V a piece before b ring left → IsTold (state_at b)
heard_state {B} {H} V at.Reading b piece before ring left is e = absurd is
heard_state {B} {H} V at.Asked b piece before ring left is e = absurd is
heard_state {B} {H} V (at.Refused f) b piece before ring left is e = absurd is
heard_state {B} {H} V (at.Answering f) b piece before ring left is e = absurd is
heard_state {B} {H} V (at.Writing keeps) b piece before ring left is e = absurd is
heard_state {B} {H} V (at.Handing h) b piece before ring left is e = absurd is
heard_state {B} {H} V at.Refusing b piece before ring left is e = absurd is
heard_state {B} {H} V (at.Listening h) b piece before ring left is e = told_is V h piece ring left b e
heard_state {B} {H} V (at.Speaking h) b piece before ring left is e = absurd is
heard_state {B} {H} V at.Parting b piece before ring left is e = absurd is
heard_state {B} {H} V (at.Over w) b piece before ring left is e = absurd is

pub end_state : {B H : Type 0} (V : Voice H) (a b : At B H) (ring : List ℕ) → IsHearing a → EndsOn V a b ring → IsTold (state_at b)
end_state {B} {H} V at.Reading b ring is e = absurd is
end_state {B} {H} V at.Asked b ring is e = absurd is
end_state {B} {H} V (at.Refused f) b ring is e = absurd is
end_state {B} {H} V (at.Answering f) b ring is e = absurd is
end_state {B} {H} V (at.Writing keeps) b ring is e = absurd is
end_state {B} {H} V (at.Handing h) b ring is e = absurd is
end_state {B} {H} V at.Refusing b ring is e = absurd is
end_state {B} {H} V (at.Listening h) b ring is e = end_is V h ring b e
end_state {B} {H} V (at.Speaking h) b ring is e = absurd is
end_state {B} {H} V at.Parting b ring is e = absurd is
end_state {B} {H} V (at.Over w) b ring is e = absurd is

pub told_state : {B H : Type 0} (b : At B H) → IsTold (state_at b) → state_at b ≢ state.Answering
told_state {B} {H} at.Reading t e = absurd t
told_state {B} {H} at.Asked t e = absurd t
told_state {B} {H} (at.Refused f) t e = absurd t
told_state {B} {H} (at.Answering f) t e = absurd t
told_state {B} {H} (at.Writing keeps) t e = absurd t
told_state {B} {H} (at.Handing h) t e = absurd t
told_state {B} {H} at.Refusing t e = absurd t
told_state {B} {H} (at.Listening h) t e = cc
told_state {B} {H} (at.Speaking h) t e = cc
told_state {B} {H} at.Parting t e = cc
told_state {B} {H} (at.Over w) t e = cc

run_unsaid : {B H : Type 0} (b d : At B H) (ring : List ℕ) → b ≡ d → state_at d ≡ state.Answering → ring ≡ [] → (o n : Shown)
    → ring_at b ring ≡ ring_by (state_at b) Run o n
run_unsaid {B} {H} b d ring e says none o n =
    let is : state_at b ≡ state.Answering = ap (λ (x : At B H). state_at x) e ∙ says in
    ring_at_live b ring (λ over. let x : state.Answering ≡ state.Over = sym is ∙ over in cc) ∙ none
    ∙ ap (λ (x : State). ring_by x Run o n) (sym is)

-- nothing is in the ring behind a run, where a reply is under way
pub run_ring : {B H : Type 0} (V : Voice H) (x b : At B H) (ask : Ask) (ps : Pairs) (answer : Answer Content H) (end : Bool) (unfed before ring left : List ℕ)
    → BeginsAt ask ps answer end x → HandsOn V x unfed before b ring left → before ≡ [] → (o n : Shown) → n.owed ≡ owed_at b ring
    → ring_at b ring ≡ ring_by (state_at b) Run o n
run_ring {B} {H} V at.Reading b ask ps answer end unfed before ring left f' hands none o n e = absurd f'
run_ring {B} {H} V at.Asked b ask ps answer end unfed before ring left f' hands none o n e = absurd f'
run_ring {B} {H} V (at.Refused f) b ask ps answer end unfed before ring left f' hands none o n e = absurd f'
run_ring {B} {H} V (at.Answering f) b ask ps answer end unfed before ring left f' hands none o n e = run_unsaid b (at.Answering f) ring hands.0 refl (hands.1 ∙ none) o n
run_ring {B} {H} V (at.Writing keeps) b ask ps answer end unfed before ring left f' hands none o n e = absurd f'
run_ring {B} {H} V (at.Handing h) b ask ps answer end unfed before ring left f' hands none o n e = ring_whole b ring Run o n (told_unanswering V h unfed ring left b hands) e
run_ring {B} {H} V at.Refusing b ask ps answer end unfed before ring left f' hands none o n e = absurd f'
run_ring {B} {H} V (at.Listening h) b ask ps answer end unfed before ring left f' hands none o n e = absurd f'
run_ring {B} {H} V (at.Speaking h) b ask ps answer end unfed before ring left f' hands none o n e = absurd f'
run_ring {B} {H} V at.Parting b ask ps answer end unfed before ring left f' hands none o n e = absurd f'
run_ring {B} {H} V (at.Over w) b ask ps answer end unfed before ring left f' hands none o n e = ring_whole b ring Run o n (placed b (at.Over w) hands.0 (λ x. cc)) e
