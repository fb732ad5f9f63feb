-- What stands where more is to be read, or a request waits for its turn.
use Rattle.std.proofs.Common.{◌≡◌, ℕ, ◌+◌, ◌<◌, List, [], ◌∷◌, ◌++◌, length, refl, ap, subst, ◌∙◌, arith, length-append, Option, None, Some, inl, inr}
use Rattle.std.proofs.lemmas.List.{append-nil}
use Rattle.rack_types.specs.declared.body.Body.{Ghosts}
use Rattle.rack_types.specs.declared.fault.Fault.{Fault}
use Rattle.rack_types.specs.Request.{Parts}
use Rattle.message_framing.specs.declared.intake.Intake.{Intake}
use Rattle.message_framing.specs.HeadText.{skipped}
use Rattle.message_framing.specs.Intake.{Fed}
use Rattle.rack_outside.specs.Link.{Seen}
use Rattle.message_framing.specs.Request.{Begun}
use Rattle.talk_core.specs.Tail.{Voice}
use Rattle.talk_core.specs.Talk.{Asks}
use Rattle.talk_core.specs.Teller.{Teller}
use Rattle.conn_steps.specs.declared.inside.Inside.{Inside}
use Rattle.talk_core.proofs.CallerLemmas.{asks_snoc}
use Rattle.conn_steps.specs.declared.at.At.{At}
use Rattle.conn_steps.specs.declared.at.At.TheVariants as at
use Rattle.conn_steps.specs.declared.state.State.TheVariants as state
use Rattle.conn_steps.specs.Holds.{kept, HoldsAt, HoldsBy}
use Rattle.conn_steps.specs.Owner.{RefusesNext, BeginsRightly, ReadsOn, StandsNext}
use Rattle.conn_steps.specs.At.{state_at}
use Rattle.conn_steps.specs.Rests.{BegunAs, Begins}
use Rattle.conn_steps.specs.Keeps.{BegunNow}
use Rattle.conn_steps.specs.Shown.{shows, fault_at}
use Rattle.conn_steps.proofs.CallerLemmas.{reading_place}

-- all requests in the bytes that came were run, where more of one is to be read, and a moment is kept where one is begun
pub reads_on : {B H : Type 0} {g : Ghosts B} (V : Voice H) (T : Teller H) (s : Seen) (p : Inside B H g) → state_at p.at ≡ state.Reading → HoldsBy V T s p
    → ReadsOn s (shows p)
reads_on {B} {H} {g} V T s p reading h =
    let is : p.at ≡ at.Reading = reading_place p.at reading in
    let x = subst (λ (a : At B H). HoldsAt a V T s h.over h.given h.sent (kept p)) is h.at in
    let stands = x.3.stands in
    let rest : x.0 ++ p.unfed ≡ x.0 = ap (λ (xs : List ℕ). x.0 ++ xs) x.2 ∙ append-nil x.0 in
    record {
      given = h.given;
      asked = stands.whole;
      rest = x.0;
      given_is = h.shows.given_is;
      asks = subst (λ (rs : List Parts). Asks h.given rs x.0) (append-nil stands.whole)
          (subst (λ (xs : List ℕ). Asks h.given (stands.whole ++ []) xs) rest stands.asks);
      all = stands.count;
      waits = x.1;
      begun = subst (λ (a : At B H). Begins a p.intake p.moments.begun) is p.begins x.0 x.3.fed;
    }

-- the place where a request stands
asked_place : {B H : Type 0} (a : At B H) → state_at a ≡ state.Ready → fault_at a ≡ None → a ≡ at.Asked
asked_place {B} {H} at.Reading e f = cc
asked_place {B} {H} at.Asked e f = refl
asked_place {B} {H} (at.Refused fault) e f = cc
asked_place {B} {H} (at.Answering framer) e f = cc
asked_place {B} {H} (at.Writing keeps) e f = cc
asked_place {B} {H} (at.Handing who) e f = cc
asked_place {B} {H} at.Refusing e f = cc
asked_place {B} {H} (at.Listening who) e f = cc
asked_place {B} {H} (at.Speaking who) e f = cc
asked_place {B} {H} at.Parting e f = cc
asked_place {B} {H} (at.Over w) e f = cc

pub stands_next : {B H : Type 0} {g : Ghosts B} (V : Voice H) (T : Teller H) (s : Seen) (p : Inside B H g) → state_at p.at ≡ state.Ready → fault_at p.at ≡ None
    → HoldsBy V T s p → StandsNext s (shows p)
stands_next {B} {H} {g} V T s p ready none h =
    let x = subst (λ (a : At B H). HoldsAt a V T s h.over h.given h.sent (kept p)) (asked_place p.at ready none) h.at in
    let stands = x.3.stands in
    let one : length (stands.whole ++ x.1 ∷ []) ≡ p.calls + 1 = omega (arith, stands.count, length-append stands.whole (x.1 ∷ [])) in
    record {
      given = h.given;
      asked = stands.whole ++ x.1 ∷ [];
      given_is = h.shows.given_is;
      asks = asks_snoc stands.whole h.given (x.0 ++ p.unfed) x.0 p.unfed x.1
          (subst (λ (rs : List Parts). Asks h.given rs (x.0 ++ p.unfed)) (append-nil stands.whole) stands.asks) refl x.2;
      next = one;
    }

-- the place where a refusal stands
refused_place : {B H : Type 0} (a : At B H) (f : Fault) → state_at a ≡ state.Ready → fault_at a ≡ Some f → a ≡ at.Refused f
refused_place {B} {H} at.Reading f e is = cc
refused_place {B} {H} at.Asked f e is = cc
refused_place {B} {H} (at.Refused fault) f e is = cc
refused_place {B} {H} (at.Answering framer) f e is = cc
refused_place {B} {H} (at.Writing keeps) f e is = cc
refused_place {B} {H} (at.Handing who) f e is = cc
refused_place {B} {H} at.Refusing f e is = cc
refused_place {B} {H} (at.Listening who) f e is = cc
refused_place {B} {H} (at.Speaking who) f e is = cc
refused_place {B} {H} at.Parting f e is = cc
refused_place {B} {H} (at.Over w) f e is = cc

pub refuses_next : {B H : Type 0} {g : Ghosts B} (V : Voice H) (T : Teller H) (s : Seen) (p : Inside B H g) (f : Fault) → state_at p.at ≡ state.Ready
    → fault_at p.at ≡ Some f → HoldsBy V T s p → RefusesNext f s (shows p)
refuses_next {B} {H} {g} V T s p f ready is h =
    let x = subst (λ (a : At B H). HoldsAt a V T s h.over h.given h.sent (kept p)) (refused_place p.at f ready is) h.at in
    let stands = x.3.stands in
    let rest : x.0 ++ p.unfed ≡ x.0 = ap (λ (xs : List ℕ). x.0 ++ xs) x.2 ∙ append-nil x.0 in
    record {
      given = h.given;
      asked = stands.whole;
      rest = x.0;
      given_is = h.shows.given_is;
      asks = subst (λ (rs : List Parts). Asks h.given rs x.0) (append-nil stands.whole)
          (subst (λ (xs : List ℕ). Asks h.given (stands.whole ++ []) xs) rest stands.asks);
      all = stands.count;
      refusal = x.1;
    }

-- all three of them
pub begins_rightly : {B H : Type 0} {g : Ghosts B} (V : Voice H) (T : Teller H) (s : Seen) (p : Inside B H g) → HoldsBy V T s p
    → BeginsRightly s (shows p)
begins_rightly {B} {H} {g} V T s p h = record {
  reads = λ reading. reads_on V T s p reading h;
  stands = λ ready none. stands_next V T s p ready none h;
  refuses = λ f ready is. refuses_next V T s p f ready is h;
}

-- no request is begun at the opening
pub fresh_begun : (intake : Intake) (now : ℕ) (begun : Option ℕ) → Fed intake [] → ((b : List ℕ) → Fed intake b → BegunAs begun b) → BegunNow now None begun
    → begun ≡ None
fresh_begun intake now begun fed right by =
    elim by [
      | inl none ↦ none
      | inr some ↦
          let begins : Begun [] = subst (λ (o : Option ℕ). BegunAs o []) some (right [] fed) in
          absurd (let few : skipped [] < length {A = ℕ} [] = begins in omega (arith, few))
    ]
