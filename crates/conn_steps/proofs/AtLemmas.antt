-- What stands at a place, by an equation of the place.
use Rattle.std.proofs.Common.{◌≡◌, ℕ, Bool, List, refl, ap, sym, ◌∙◌, subst, Option, None, Some, inl}
use Rattle.std.specs.Prelude.{⊤}
use Rattle.rack_outside.specs.Link.{Seen}
use Rattle.message_framing.specs.declared.intake.Intake.{Intake}
use Rattle.talk_core.specs.declared.ended.Why.{Why}
use Rattle.talk_core.specs.Stands.{ClosesAt}
use Rattle.talk_core.specs.Tail.{Voice}
use Rattle.talk_core.specs.Teller.{Teller}
use Rattle.conn_steps.specs.declared.moments.Ending.{Ending}
use Rattle.conn_steps.specs.declared.at.At.{At}
use Rattle.conn_steps.specs.Holds.{Kept, past, HoldsAt, StandsAt}
use Rattle.conn_steps.specs.Plain.{EndsPlainly}
use Rattle.conn_steps.specs.Rests.{IsAbsent, IsUnended}

pub at_place : {B H : Type 0} (a b : At B H) (V : Voice H) (T : Teller H) (s : Seen) (over : Bool) (given sent : List ℕ) (c : Kept)
    → a ≡ b → HoldsAt a V T s over given sent c → HoldsAt b V T s over given sent c
at_place {B} {H} a b V T s over given sent c e h = subst (λ (d : At B H). HoldsAt d V T s over given sent c) e h

pub stands_place : {B H : Type 0} (a b : At B H) (V : Voice H) (T : Teller H) (s : Seen) (peer : List ℕ) (c : Kept)
    → a ≡ b → StandsAt V T s peer a c → StandsAt V T s peer b c
stands_place {B} {H} a b V T s peer c e h = subst (λ (d : At B H). StandsAt V T s peer d c) e h

-- the same parts
pub kept_same : (c d : Kept) → d.intake ≡ c.intake → d.unfed ≡ c.unfed → d.ring ≡ c.ring → d.calls ≡ c.calls → d.taken ≡ c.taken → d.ending ≡ c.ending
    → c ≡ d
kept_same c d i e r n t m =
    ap (λ (x : Intake). record c { intake = x }) (sym i)
    ∙ ap (λ (x : List ℕ). record c { intake = d.intake; unfed = x }) (sym e)
    ∙ ap (λ (x : List ℕ). record c { intake = d.intake; unfed = d.unfed; ring = x }) (sym r)
    ∙ ap (λ (x : ℕ). record c { intake = d.intake; unfed = d.unfed; ring = d.ring; calls = x }) (sym n)
    ∙ ap (λ (x : ℕ). record c { intake = d.intake; unfed = d.unfed; ring = d.ring; calls = d.calls; taken = x }) (sym t)
    ∙ ap (λ (x : Ending). record d { ending = x }) (sym m)

-- what is kept where only its end is told of
pub over_same : {H : Type 0} (ended : Why) (V : Voice H) (T : Teller H) (s : Seen) (over : Bool) (given sent : List ℕ) (c d : Kept) → d.calls ≡ c.calls
    → d.ending ≡ c.ending → EndsPlainly c.ending ended V T (past s c given sent over)
    → EndsPlainly d.ending ended V T (past s d given sent over)
over_same {H} ended V T s over given sent c d n m h =
    subst (λ (x : Ending). EndsPlainly x ended V T (past s (record d { ending = x }) given sent over)) (sym m)
    (subst (λ (x : ℕ). EndsPlainly c.ending ended V T (past s (record d { calls = x; ending = c.ending }) given sent over)) (sym n) h)

-- where nothing ends a connection, no reply closes it by draining and no request took too long
pub absent : {A : Type 0} (o : Option A) → IsAbsent o → o ≡ None
absent {A} None h = refl
absent {A} (Some x) h = absurd h

pub unclosed : (e : Ending) → IsUnended e → e.closing ≡ None
unclosed e h = absent e.closing h.0

pub untimed : (e : Ending) → IsUnended e → e.late ≡ None
untimed e h = absent e.late h.1

-- one that closes by draining still does, whatever bytes come behind a hijack
pub closes_taken : (o : Option ℕ) (calls : ℕ) (rest more : List ℕ) → ClosesAt o calls ⊤ rest → ClosesAt o calls ⊤ more
closes_taken None calls rest more c = tt
closes_taken (Some k) calls rest more c = (c.0, inl tt)
