-- What the moves of a connection do to the moment at which its request was begun.
use Rattle.std.proofs.Common.{◌≢◌, ℕ, Bool, List, refl, sym, subst, Option, None, inl, inr}
use Rattle.rack_outside.specs.declared.link.LinkWrite.{LinkWrite}
use Rattle.rack_types.specs.declared.answer.Answer.{Answer}
use Rattle.rack_types.specs.Body.{Content}
use Rattle.rack_types.specs.Env.{Pairs}
use Rattle.circular_buffer.specs.Buffer.{Buffer}
use Rattle.message_framing.specs.declared.intake.Intake.{Intake}
use Rattle.reply_framing.specs.declared.types.Ask.{Ask}
use Rattle.talk_core.specs.Tail.{Voice}
use Rattle.conn_steps.specs.declared.at.At.{At}
use Rattle.conn_steps.specs.declared.at.At.TheVariants as at
use Rattle.conn_steps.specs.declared.state.State.TheVariants as state
use Rattle.conn_steps.specs.Inner.{IsFilledAt}
use Rattle.conn_steps.specs.Keeps.{Write, BegunBy, BegunFrom}
use Rattle.conn_steps.specs.At.{IsSaying, IsHearing, state_at}
use Rattle.conn_steps.specs.Rests.{Begins}
use Rattle.conn_steps.specs.Steps.{BeginsAs, BeginsAt, Tells, TellsEnd, HandsOn, EndsOn, FillsTo}

-- more of a request is read nowhere else
pub begins_elsewhere : {B H : Type 0} (b : At B H) (intake : Intake) (begun : Option ℕ) → state_at b ≢ state.Reading → Begins b intake begun
begins_elsewhere {B} {H} at.Reading intake begun unread = absurd (unread refl)
begins_elsewhere {B} {H} at.Asked intake begun unread = tt
begins_elsewhere {B} {H} (at.Refused f) intake begun unread = tt
begins_elsewhere {B} {H} (at.Answering f) intake begun unread = tt
begins_elsewhere {B} {H} (at.Writing keeps) intake begun unread = tt
begins_elsewhere {B} {H} (at.Handing h) intake begun unread = tt
begins_elsewhere {B} {H} at.Refusing intake begun unread = tt
begins_elsewhere {B} {H} (at.Listening h) intake begun unread = tt
begins_elsewhere {B} {H} (at.Speaking h) intake begun unread = tt
begins_elsewhere {B} {H} at.Parting intake begun unread = tt
begins_elsewhere {B} {H} (at.Over w) intake begun unread = tt

pub begins_as : {B H : Type 0} (b : At B H) (intake : Intake) (now : ℕ) (before begun : Option ℕ) → BeginsAs b intake now before begun → Begins b intake begun
begins_as {B} {H} at.Reading intake now before begun m = m.0
begins_as {B} {H} at.Asked intake now before begun m = tt
begins_as {B} {H} (at.Refused f) intake now before begun m = tt
begins_as {B} {H} (at.Answering f) intake now before begun m = tt
begins_as {B} {H} (at.Writing keeps) intake now before begun m = tt
begins_as {B} {H} (at.Handing h) intake now before begun m = tt
begins_as {B} {H} at.Refusing intake now before begun m = tt
begins_as {B} {H} (at.Listening h) intake now before begun m = tt
begins_as {B} {H} (at.Speaking h) intake now before begun m = tt
begins_as {B} {H} at.Parting intake now before begun m = tt
begins_as {B} {H} (at.Over w) intake now before begun m = tt

pub begins_told : {B H : Type 0} (V : Voice H) (who : H) (piece ring left : List ℕ) (b : At B H) (intake : Intake) (begun : Option ℕ) → Tells V who piece b ring left → Begins b intake begun
begins_told {B} {H} V who piece ring left at.Reading intake begun t = absurd t
begins_told {B} {H} V who piece ring left at.Asked intake begun t = tt
begins_told {B} {H} V who piece ring left (at.Refused f) intake begun t = tt
begins_told {B} {H} V who piece ring left (at.Answering f) intake begun t = tt
begins_told {B} {H} V who piece ring left (at.Writing keeps) intake begun t = tt
begins_told {B} {H} V who piece ring left (at.Handing h) intake begun t = tt
begins_told {B} {H} V who piece ring left at.Refusing intake begun t = tt
begins_told {B} {H} V who piece ring left (at.Listening h) intake begun t = tt
begins_told {B} {H} V who piece ring left (at.Speaking h) intake begun t = tt
begins_told {B} {H} V who piece ring left at.Parting intake begun t = tt
begins_told {B} {H} V who piece ring left (at.Over w) intake begun t = tt

pub begins_end : {B H : Type 0} (V : Voice H) (who : H) (ring : List ℕ) (b : At B H) (intake : Intake) (begun : Option ℕ) → TellsEnd V who b ring → Begins b intake begun
begins_end {B} {H} V who ring at.Reading intake begun t = absurd t
begins_end {B} {H} V who ring at.Asked intake begun t = tt
begins_end {B} {H} V who ring (at.Refused f) intake begun t = tt
begins_end {B} {H} V who ring (at.Answering f) intake begun t = tt
begins_end {B} {H} V who ring (at.Writing keeps) intake begun t = tt
begins_end {B} {H} V who ring (at.Handing h) intake begun t = tt
begins_end {B} {H} V who ring at.Refusing intake begun t = tt
begins_end {B} {H} V who ring (at.Listening h) intake begun t = tt
begins_end {B} {H} V who ring (at.Speaking h) intake begun t = tt
begins_end {B} {H} V who ring at.Parting intake begun t = tt
begins_end {B} {H} V who ring (at.Over w) intake begun t = tt

pub begins_heard : {B H : Type 0} (V : Voice H) (a b : At B H) (piece before ring left : List ℕ) (intake : Intake) (begun : Option ℕ) → IsHearing a
    → HandsOn V a piece before b ring left → Begins b intake begun
begins_heard {B} {H} V at.Reading b piece before ring left intake begun is e = absurd is
begins_heard {B} {H} V at.Asked b piece before ring left intake begun is e = absurd is
begins_heard {B} {H} V (at.Refused f) b piece before ring left intake begun is e = absurd is
begins_heard {B} {H} V (at.Answering f) b piece before ring left intake begun is e = absurd is
begins_heard {B} {H} V (at.Writing keeps) b piece before ring left intake begun is e = absurd is
begins_heard {B} {H} V (at.Handing h) b piece before ring left intake begun is e = absurd is
begins_heard {B} {H} V at.Refusing b piece before ring left intake begun is e = absurd is
begins_heard {B} {H} V (at.Listening h) b piece before ring left intake begun is e = begins_told V h piece ring left b intake begun e
begins_heard {B} {H} V (at.Speaking h) b piece before ring left intake begun is e = absurd is
begins_heard {B} {H} V at.Parting b piece before ring left intake begun is e = absurd is
begins_heard {B} {H} V (at.Over w) b piece before ring left intake begun is e = absurd is

pub begins_ended : {B H : Type 0} (V : Voice H) (a b : At B H) (ring : List ℕ) (intake : Intake) (begun : Option ℕ) → IsHearing a → EndsOn V a b ring
    → Begins b intake begun
begins_ended {B} {H} V at.Reading b ring intake begun is e = absurd is
begins_ended {B} {H} V at.Asked b ring intake begun is e = absurd is
begins_ended {B} {H} V (at.Refused f) b ring intake begun is e = absurd is
begins_ended {B} {H} V (at.Answering f) b ring intake begun is e = absurd is
begins_ended {B} {H} V (at.Writing keeps) b ring intake begun is e = absurd is
begins_ended {B} {H} V (at.Handing h) b ring intake begun is e = absurd is
begins_ended {B} {H} V at.Refusing b ring intake begun is e = absurd is
begins_ended {B} {H} V (at.Listening h) b ring intake begun is e = begins_end V h ring b intake begun e
begins_ended {B} {H} V (at.Speaking h) b ring intake begun is e = absurd is
begins_ended {B} {H} V at.Parting b ring intake begun is e = absurd is
begins_ended {B} {H} V (at.Over w) b ring intake begun is e = absurd is

pub begins_filled : {B H : Type 0} (a b : At B H) (x y : Buffer ℕ) (intake : Intake) (begun : Option ℕ) → FillsTo a x b y → IsSaying a → Begins b intake begun
begins_filled {B} {H} at.Reading b x y intake begun e is = absurd is
begins_filled {B} {H} at.Asked b x y intake begun e is = absurd is
begins_filled {B} {H} (at.Refused f) b x y intake begun e is = absurd is
begins_filled {B} {H} (at.Answering f) at.Reading x y intake begun e is = absurd e
begins_filled {B} {H} (at.Answering f) at.Asked x y intake begun e is = tt
begins_filled {B} {H} (at.Answering f) (at.Refused fault) x y intake begun e is = tt
begins_filled {B} {H} (at.Answering f) (at.Answering new) x y intake begun e is = tt
begins_filled {B} {H} (at.Answering f) (at.Writing keeps) x y intake begun e is = tt
begins_filled {B} {H} (at.Answering f) (at.Handing h) x y intake begun e is = tt
begins_filled {B} {H} (at.Answering f) at.Refusing x y intake begun e is = tt
begins_filled {B} {H} (at.Answering f) (at.Listening h) x y intake begun e is = tt
begins_filled {B} {H} (at.Answering f) (at.Speaking h) x y intake begun e is = tt
begins_filled {B} {H} (at.Answering f) at.Parting x y intake begun e is = tt
begins_filled {B} {H} (at.Answering f) (at.Over w) x y intake begun e is = tt
begins_filled {B} {H} (at.Writing keeps) b x y intake begun e is = subst (λ (d : At B H). Begins d intake begun) (sym e.0) tt
begins_filled {B} {H} (at.Handing h) b x y intake begun e is = subst (λ (d : At B H). Begins d intake begun) (sym e.0) tt
begins_filled {B} {H} at.Refusing b x y intake begun e is = subst (λ (d : At B H). Begins d intake begun) (sym e.0) tt
begins_filled {B} {H} (at.Listening h) b x y intake begun e is = absurd is
begins_filled {B} {H} (at.Speaking h) b x y intake begun e is = subst (λ (d : At B H). Begins d intake begun) (sym e.0) tt
begins_filled {B} {H} at.Parting b x y intake begun e is = subst (λ (d : At B H). Begins d intake begun) (sym e.0) tt
begins_filled {B} {H} (at.Over w) b x y intake begun e is = absurd is

pub begins_run : {B H : Type 0} (V : Voice H) (a b : At B H) (ask : Ask) (ps : Pairs) (answer : Answer Content H) (last : Bool) (unfed before ring left : List ℕ)
    (intake : Intake) (begun : Option ℕ) → BeginsAt ask ps answer last a → HandsOn V a unfed before b ring left → Begins b intake begun
begins_run {B} {H} V at.Reading b ask ps answer last unfed before ring left intake begun f' e = absurd f'
begins_run {B} {H} V at.Asked b ask ps answer last unfed before ring left intake begun f' e = absurd f'
begins_run {B} {H} V (at.Refused f) b ask ps answer last unfed before ring left intake begun f' e = absurd f'
begins_run {B} {H} V (at.Answering f) b ask ps answer last unfed before ring left intake begun f' e = subst (λ (d : At B H). Begins d intake begun) (sym e.0) tt
begins_run {B} {H} V (at.Writing keeps) b ask ps answer last unfed before ring left intake begun f' e = absurd f'
begins_run {B} {H} V (at.Handing h) b ask ps answer last unfed before ring left intake begun f' e = begins_told V h unfed ring left b intake begun e
begins_run {B} {H} V at.Refusing b ask ps answer last unfed before ring left intake begun f' e = absurd f'
begins_run {B} {H} V (at.Listening h) b ask ps answer last unfed before ring left intake begun f' e = absurd f'
begins_run {B} {H} V (at.Speaking h) b ask ps answer last unfed before ring left intake begun f' e = absurd f'
begins_run {B} {H} V at.Parting b ask ps answer last unfed before ring left intake begun f' e = absurd f'
begins_run {B} {H} V (at.Over w) b ask ps answer last unfed before ring left intake begun f' e = subst (λ (d : At B H). Begins d intake begun) (sym e.0) tt

-- the moment at which a request was begun, by where the connection is then
pub begun_from : {B H : Type 0} (b : At B H) (intake : Intake) (now : ℕ) (before after : Option ℕ) → BeginsAs b intake now before after
    → BegunFrom (state_at b) now before after
begun_from {B} {H} at.Reading intake now before after m = m.1
begun_from {B} {H} at.Asked intake now before after m = m
begun_from {B} {H} (at.Refused f) intake now before after m = m
begun_from {B} {H} (at.Answering f) intake now before after m = m
begun_from {B} {H} (at.Writing keeps) intake now before after m = m
begun_from {B} {H} (at.Handing h) intake now before after m = m
begun_from {B} {H} at.Refusing intake now before after m = m
begun_from {B} {H} (at.Listening h) intake now before after m = m
begun_from {B} {H} (at.Speaking h) intake now before after m = m
begun_from {B} {H} at.Parting intake now before after m = m
begun_from {B} {H} (at.Over w) intake now before after m = m

pub begun_behind : {B H : Type 0} (b : At B H) (intake : Intake) (now : ℕ) (answer : LinkWrite) (before after : Option ℕ) → BeginsAs b intake now None after
    → BegunBy now (Write answer) (state_at b) before after
begun_behind {B} {H} at.Reading intake now answer before after m = m.1
begun_behind {B} {H} at.Asked intake now answer before after m = m
begun_behind {B} {H} (at.Refused f) intake now answer before after m = m
begun_behind {B} {H} (at.Answering f) intake now answer before after m = inr m
begun_behind {B} {H} (at.Writing keeps) intake now answer before after m = inr m
begun_behind {B} {H} (at.Handing h) intake now answer before after m = inr m
begun_behind {B} {H} at.Refusing intake now answer before after m = inr m
begun_behind {B} {H} (at.Listening h) intake now answer before after m = inr m
begun_behind {B} {H} (at.Speaking h) intake now answer before after m = inr m
begun_behind {B} {H} at.Parting intake now answer before after m = inr m
begun_behind {B} {H} (at.Over w) intake now answer before after m = inr m

pub begun_still : {B H : Type 0} (a : At B H) (ring : List ℕ) (now : ℕ) (answer : LinkWrite) (before : Option ℕ) → IsFilledAt a ring
    → BegunBy now (Write answer) (state_at a) before before
begun_still {B} {H} at.Reading ring now answer before is = absurd is
begun_still {B} {H} at.Asked ring now answer before is = absurd is
begun_still {B} {H} (at.Refused f) ring now answer before is = absurd is
begun_still {B} {H} (at.Answering f) ring now answer before is = inl refl
begun_still {B} {H} (at.Writing keeps) ring now answer before is = inl refl
begun_still {B} {H} (at.Handing h) ring now answer before is = inl refl
begun_still {B} {H} at.Refusing ring now answer before is = inl refl
begun_still {B} {H} (at.Listening h) ring now answer before is = absurd is
begun_still {B} {H} (at.Speaking h) ring now answer before is = inl refl
begun_still {B} {H} at.Parting ring now answer before is = inl refl
begun_still {B} {H} (at.Over w) ring now answer before is = absurd is
