-- What a built stack answers (after Rack's URLMap and Cascade): by cases on the tree, whole bodies as data.
use Rattle.std.specs.Prelude.{ℕ, ◌==◌, Bool, true, false, ◌||◌, List, [], ◌∷◌, ◌++◌, Option, Some, None, codes, if◌then◌else◌}
use Rattle.rack_types.specs.declared.answer.Answer.{Answer}
use Rattle.rack_types.specs.declared.answer.Answer.TheVariants.{Reply, Raised, Taken}
use Rattle.rack_types.specs.declared.body.Kind.TheVariants.{Enumerable}
use Rattle.rack_types.specs.Body.{Content}
use Rattle.rack_types.specs.Env.{Pairs}
use Rattle.rack_types.specs.Plain.{plain_content}
use Rattle.stock_middleware.specs.declared.ware.Ware.{Ware}
use Rattle.stock_middleware.specs.WareBody.{no_body}
use Rattle.stock_middleware.specs.Wares.{before, after, refusal}
use Rattle.builder_core.specs.Places.{path_of, inside, best}
use Rattle.builder_core.specs.Tree.{Tree, Calls, Wraps, ByPlace, Tries, Row, NoPlace, Place}

-- what an application answers to the pairs and the input's bytes
abbrev pub Answering : Type 0 → Type 0
Answering H = Pairs → List ℕ → Answer Content H

-- no place fits
abbrev pub not_found : {H : Type 0} → Pairs → Answer Content H
not_found ps =
    Reply 404 ((codes "content-type", codes "text/plain" ∷ []) ∷ (codes "x-cascade", codes "pass" ∷ []) ∷ [])
    (plain_content ((codes "Not Found: " ++ path_of ps) ∷ []) false true Enumerable) None

-- a cascade without applications
abbrev pub nothing : {H : Type 0} → Answer Content H
nothing = Reply 404 [] no_body None

-- an answer that a cascade passes over: a reply with the status 404 or 405
abbrev pub is_passed : {H : Type 0} → Answer Content H → Bool
is_passed (Reply status headers body part) = (status == 404) || (status == 405)
is_passed (Raised text) = false
is_passed (Taken hijacker) = false

-- this answer, where it isn't passed over, else the first of the others that isn't, else the last one
abbrev pub from_first : {E H : Type 0} → (E → Answering H) → Answer Content H → List E → Answering H
from_first answer told [] ps input = told
from_first answer told (e ∷ es) ps input =
    if is_passed told then from_first answer (answer e ps input) es ps input else told

-- what a cascade answers: each application is called with the same environment
abbrev pub tried : {E H : Type 0} → (E → Answering H) → List E → Answering H
tried answer [] ps input = nothing
tried answer (e ∷ es) ps input = from_first answer (answer e ps input) es ps input

-- what the place that was found answers
abbrev pub at_place : {H : Type 0} → Option (List ℕ × Answering H) → Answering H
at_place None ps input = not_found ps
at_place (Some p) ps input = p.1 (inside p.0 ps) input

-- what a middleware around an application answers
abbrev pub worn : {H : Type 0} → Ware → Answering H → Answering H
worn {H} w inner ps input = unless_refused (refusal w ps)
  where
    unless_refused : Option (Answer Content H) → Answer Content H
    unless_refused None = after w ps (inner (before w ps input) input)
    unless_refused (Some answer) = answer

abbrev mutual
  -- What a built application answers, where `answer` says what an endpoint does.
  pub meaning : {E H : Type 0} → (E → Answering H) → Tree E → Answering H
  meaning answer (Calls e) = λ ps input. answer e ps input
  meaning answer (Wraps w t) = λ ps input. worn w (meaning answer t) ps input
  meaning answer (ByPlace row) = λ ps input. at_place (best (path_of ps) (meanings answer row)) ps input
  meaning answer (Tries es) = λ ps input. tried answer es ps input

  -- the places with what answers there
  pub meanings : {E H : Type 0} → (E → Answering H) → Row E → List (List ℕ × Answering H)
  meanings answer NoPlace = []
  meanings answer (Place place t row) = (place, meaning answer t) ∷ meanings answer row
