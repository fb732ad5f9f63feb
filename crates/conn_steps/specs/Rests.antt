-- What lies in a connection's fields whatever its runner is: safety rests on it.
use Rattle.std.specs.Prelude.{◌≡◌, ℕ, ◌+◌, ◌<◌, Bool, true, false, List, [], length, Option, None, Some, ⊤}
use Rattle.std.specs.Coded.{×_prop, Unit-prop, le_prop, Coded-set, coded_list, coded_ℕ, Π_prop, →_prop}
use Rattle.reply_framing.specs.declared.types.After.{After}
use Rattle.reply_framing.specs.declared.types.After.TheVariants.{Keep, Close, Hijack}
use Rattle.reply_framing.specs.Reply.{body_after}
use Rattle.message_framing.specs.declared.intake.Intake.{Intake}
use Rattle.message_framing.specs.declared.standing.Standing.{Standing}
use Rattle.message_framing.specs.declared.standing.Standing.TheVariants as stands
use Rattle.message_framing.specs.Intake.{Fed, StandsWhole}
use Rattle.message_framing.specs.Request.{Begun}
use Rattle.message_framing.specs.Held.{StandsWholeAt}
use Rattle.conn_steps.specs.declared.moments.Ending.{Ending}
use Rattle.conn_steps.specs.declared.at.At.{At}
use Rattle.conn_steps.specs.declared.at.At.TheVariants as at

-- there is none
abbrev pub IsAbsent : {A : Type 0} → Option A → Type 0
IsAbsent {A} None = ⊤
IsAbsent {A} (Some x) = ⊥

-- no reply closes the connection by draining, and no request took too long
abbrev pub IsUnended : Ending → Type 0
IsUnended e = IsAbsent e.closing × IsAbsent e.late

-- where the connection goes on behind a reply, a whole request stands, a number is left for the next one, and nothing
-- ends it. No request took too long where one is answered
abbrev pub GoesOn : After → Intake → ℕ → Ending → Type 0
GoesOn Keep intake calls e = StandsWhole intake × ((0 < calls) × ((calls < 10000) × IsUnended e))
GoesOn Close intake calls e = IsAbsent e.late
GoesOn Hijack intake calls e = 0 < calls

abbrev pub after_of : Bool → After
after_of true = Keep
after_of false = Close

abbrev pub RestsAt : {B H : Type 0} → At B H → Intake → List ℕ → List ℕ → ℕ → Ending → Type 0
RestsAt {B} {H} at.Reading intake unfed ring calls e = (unfed ≡ []) × ((ring ≡ []) × ((calls < 10000) × IsUnended e))
RestsAt {B} {H} at.Asked intake unfed ring calls e = (ring ≡ []) × ((calls < 10000) × (StandsWhole intake × IsUnended e))
RestsAt {B} {H} (at.Refused f) intake unfed ring calls e = (ring ≡ []) × ((calls < 10000) × IsUnended e)
RestsAt {B} {H} (at.Answering f) intake unfed ring calls e =
    (0 < length ring + length f.rest.bytes) × GoesOn (body_after f.rest.rule f.after) intake calls e
RestsAt {B} {H} (at.Writing keeps) intake unfed ring calls e = (0 < length ring) × GoesOn (after_of keeps) intake calls e
RestsAt {B} {H} (at.Handing h) intake unfed ring calls e = (0 < length ring) × (0 < calls)
RestsAt {B} {H} at.Refusing intake unfed ring calls e = 0 < length ring
RestsAt {B} {H} (at.Listening h) intake unfed ring calls e = (unfed ≡ []) × (ring ≡ [])
RestsAt {B} {H} (at.Speaking h) intake unfed ring calls e = (unfed ≡ []) × (0 < length ring)
RestsAt {B} {H} at.Parting intake unfed ring calls e = 0 < length ring
RestsAt {B} {H} (at.Over why) intake unfed ring calls e = ⊤

-- a moment is kept exactly where of these bytes, in which nothing whole stands, a request is begun
abbrev pub BegunAs : Option ℕ → List ℕ → Type 0
BegunAs None b = ¬ (Begun b)
BegunAs (Some since) b = Begun b

-- where more of a request is to be read, a moment is kept exactly where one is begun
abbrev pub Begins : {B H : Type 0} → At B H → Intake → Option ℕ → Type 0
Begins {B} {H} at.Reading intake begun = (b : List ℕ) → Fed intake b → BegunAs begun b
Begins {B} {H} at.Asked intake begun = ⊤
Begins {B} {H} (at.Refused f) intake begun = ⊤
Begins {B} {H} (at.Answering f) intake begun = ⊤
Begins {B} {H} (at.Writing keeps) intake begun = ⊤
Begins {B} {H} (at.Handing h) intake begun = ⊤
Begins {B} {H} at.Refusing intake begun = ⊤
Begins {B} {H} (at.Listening h) intake begun = ⊤
Begins {B} {H} (at.Speaking h) intake begun = ⊤
Begins {B} {H} at.Parting intake begun = ⊤
Begins {B} {H} (at.Over why) intake begun = ⊤

pub BegunAs-prop : (o : Option ℕ) (b : List ℕ) → IsProp (BegunAs o b)
BegunAs-prop None b = →_prop (λ x y. absurd x)
BegunAs-prop (Some since) b = le_prop

pub Begins-prop : {B H : Type 0} (a : At B H) (intake : Intake) (begun : Option ℕ) → IsProp (Begins a intake begun)
Begins-prop {B} {H} at.Reading intake begun = Π_prop (λ b. →_prop (BegunAs-prop begun b))
Begins-prop {B} {H} at.Asked intake begun = Unit-prop
Begins-prop {B} {H} (at.Refused f) intake begun = Unit-prop
Begins-prop {B} {H} (at.Answering f) intake begun = Unit-prop
Begins-prop {B} {H} (at.Writing keeps) intake begun = Unit-prop
Begins-prop {B} {H} (at.Handing h) intake begun = Unit-prop
Begins-prop {B} {H} at.Refusing intake begun = Unit-prop
Begins-prop {B} {H} (at.Listening h) intake begun = Unit-prop
Begins-prop {B} {H} (at.Speaking h) intake begun = Unit-prop
Begins-prop {B} {H} at.Parting intake begun = Unit-prop
Begins-prop {B} {H} (at.Over why) intake begun = Unit-prop

pub StandsWholeAt-prop : (s : Standing) → IsProp (StandsWholeAt s)
StandsWholeAt-prop stands.Open = λ x y. absurd x
StandsWholeAt-prop (stands.Stated body) = λ x y. absurd x
StandsWholeAt-prop (stands.Chunked body) = λ x y. absurd x
StandsWholeAt-prop (stands.Whole r) = Unit-prop
StandsWholeAt-prop (stands.Refused f) = λ x y. absurd x
StandsWholeAt-prop stands.Lacking = λ x y. absurd x

pub IsAbsent-prop : {A : Type 0} (o : Option A) → IsProp (IsAbsent o)
IsAbsent-prop {A} None = Unit-prop
IsAbsent-prop {A} (Some x) = λ x y. absurd x

pub IsUnended-prop : (e : Ending) → IsProp (IsUnended e)
IsUnended-prop e = ×_prop (IsAbsent-prop e.closing) (IsAbsent-prop e.late)

pub GoesOn-prop : (after : After) (intake : Intake) (calls : ℕ) (e : Ending) → IsProp (GoesOn after intake calls e)
GoesOn-prop Keep intake calls e = ×_prop (StandsWholeAt-prop intake.standing) (×_prop le_prop (×_prop le_prop (IsUnended-prop e)))
GoesOn-prop Close intake calls e = IsAbsent-prop e.late
GoesOn-prop Hijack intake calls e = le_prop

pub RestsAt-prop : {B H : Type 0} (a : At B H) (intake : Intake) (unfed ring : List ℕ) (calls : ℕ) (e : Ending) → IsProp (RestsAt a intake unfed ring calls e)
RestsAt-prop {B} {H} at.Reading intake unfed ring calls e =
    ×_prop (Coded-set (coded_list coded_ℕ) unfed []) (×_prop (Coded-set (coded_list coded_ℕ) ring []) (×_prop le_prop (IsUnended-prop e)))
RestsAt-prop {B} {H} at.Asked intake unfed ring calls e =
    ×_prop (Coded-set (coded_list coded_ℕ) ring []) (×_prop le_prop (×_prop (StandsWholeAt-prop intake.standing) (IsUnended-prop e)))
RestsAt-prop {B} {H} (at.Refused f) intake unfed ring calls e =
    ×_prop (Coded-set (coded_list coded_ℕ) ring []) (×_prop le_prop (IsUnended-prop e))
RestsAt-prop {B} {H} (at.Answering f) intake unfed ring calls e =
    ×_prop le_prop (GoesOn-prop (body_after f.rest.rule f.after) intake calls e)
RestsAt-prop {B} {H} (at.Writing keeps) intake unfed ring calls e = ×_prop le_prop (GoesOn-prop (after_of keeps) intake calls e)
RestsAt-prop {B} {H} (at.Handing h) intake unfed ring calls e = ×_prop le_prop le_prop
RestsAt-prop {B} {H} at.Refusing intake unfed ring calls e = le_prop
RestsAt-prop {B} {H} (at.Listening h) intake unfed ring calls e =
    ×_prop (Coded-set (coded_list coded_ℕ) unfed []) (Coded-set (coded_list coded_ℕ) ring [])
RestsAt-prop {B} {H} (at.Speaking h) intake unfed ring calls e = ×_prop (Coded-set (coded_list coded_ℕ) unfed []) le_prop
RestsAt-prop {B} {H} at.Parting intake unfed ring calls e = le_prop
RestsAt-prop {B} {H} (at.Over why) intake unfed ring calls e = Unit-prop
