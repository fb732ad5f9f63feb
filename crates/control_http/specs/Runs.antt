-- What one run of the control server does, and what many do, one behind the other.
use Rattle.std.specs.Prelude.{◌≡◌, ◌≤◌, ◌⊎◌, ℕ, Bool, true, false, List, [], ◌∷◌, map, Option, Some}
use Rattle.hijack_core.specs.declared.never.Never.{Never}
use Rattle.master_core.specs.declared.loader.Load.{Load}
use Rattle.master_core.specs.declared.loader.Load.TheVariants.{Failed}
use Rattle.master_core.specs.Loads.{counted, Rose}
use Rattle.master_core.specs.State.{MasterState}
use Rattle.rack_types.specs.declared.answer.Answer.{Answer}
use Rattle.rack_types.specs.Answer.{told}
use Rattle.rack_types.specs.Body.{Content}
use Rattle.rack_types.specs.Env.{Environment}
use Rattle.rack_types.specs.Plain.{PlainBody}
use Rattle.rack_types.specs.Runner.{Asked}
use Rattle.control_http.specs.declared.seen.SlotSeen.{SlotSeen}
use Rattle.control_http.specs.declared.wish.Wish.{Wish}
use Rattle.control_http.specs.Wish.{wish_of}
use Rattle.control_http.specs.Said.{said, answer_of, order_of, loads, Orders}

-- by this load, which counts only where something was loaded, a run answers so and leaves n of the master m
pub record ServesBy (load : Load) (w : Wish) (seen : List SlotSeen) (m : MasterState) (a : Answer Content Never) (n : MasterState) : Type 0 where
  pub answers : a ≡ answer_of (said w m seen load)
  pub orders : Orders (order_of w load) m n

-- a run that was Ok: what was loaded, if anything was, is the loader's last answer
pub record Serves (w : Wish) (seen : List SlotSeen) (last : Option Load) (m : MasterState) (a : Answer Content Never) (n : MasterState) : Type 0 where
  pub load : Load
  pub last_is : loads w m ≡ true → last ≡ Some load
  pub serves : ServesBy load w seen m a n

-- what a run does with its loader, where it loads and where it doesn't, and was Ok or not: it isn't touched where
-- nothing is loaded; else it loads once, unless memory was wanted before, and where it failed its faults rose
pub record UsesLoader {X : Type 0} (loads_of faults_of : X → ℕ) (last_of : X → Option Load) (asks ok : Bool) (old new : X) : Type 0 where
  pub unasked : asks ≡ false → new ≡ old
  pub once : asks ≡ true → ok ≡ true → loads_of new ≡ counted (loads_of old)
  pub few : (loads_of new ≡ loads_of old) ⊎ (loads_of new ≡ counted (loads_of old))
  pub later : faults_of old ≤ faults_of new
  pub failed : asks ≡ true → ok ≡ true → last_of new ≡ Some Failed → Rose (faults_of old) (faults_of new)

-- what was asked in these runs, each with whether it was Ok, and these answers of those that were, lead from the
-- master m to n: each by its environment and the master that it found, and one that wasn't Ok changes nothing
abbrev pub Served : List ℕ → List SlotSeen → MasterState → List (Asked × Bool) → List (Answer Content Never) → MasterState → Type 0
Served token seen m [] [] n = n ≡ m
Served token seen m [] (a ∷ answers) n = ⊥
Served token seen m ((env, true) ∷ asked) [] n = ⊥
Served token seen m ((env, true) ∷ asked) (a ∷ answers) n =
    (k : MasterState) × (load : Load) × ServesBy load (wish_of token env.0) seen m a k × Served token seen k asked answers n
Served token seen m ((env, false) ∷ asked) answers n = Served token seen m asked answers n

-- what a history of environments tells, and one of answers
abbrev pub asked_in : List (Environment × Bool) → List (Asked × Bool)
asked_in log = map (λ p. ((p.0.pairs, p.0.input.bytes), p.1)) log

abbrev pub answers_in : {X : Type 0} → List (Answer PlainBody Never × X) → List (Answer Content Never)
answers_in log = map (λ p. told (λ b. b.content) p.0) log
