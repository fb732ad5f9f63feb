-- What a runner tells of one run. This serves inner contracts alone.
use Rattle.std.specs.Prelude.{◌≡◌, Bool, true, false, List, [], ◌∷◌, Option, Some}
use Rattle.rack_types.specs.declared.answer.Answer.{Answer}
use Rattle.rack_types.specs.Body.{Content}
use Rattle.rack_types.specs.Runner.{Asked}
use Rattle.rack_outside.specs.Told.{appended}
use Rattle.reply_framing.specs.declared.types.Ask.{Ask}
use Rattle.talk_core.specs.declared.ended.Why.TheVariants as why
use Rattle.conn_steps.specs.declared.at.At.{At}
use Rattle.conn_steps.specs.declared.at.At.TheVariants as at
use Rattle.conn_steps.specs.Steps.{BeginsAt}

-- a run that was Ok gave this answer
abbrev pub answer_of : {H : Type 0} → Bool → Answer Content H → List (Answer Content H)
answer_of true answer = answer ∷ []
answer_of false answer = []

-- a run was asked this, and it was Ok and gave this answer, or memory was refused
pub record TellsRun {B H : Type 0} (answer : Answer Content H) (asking : Asked) (answered answered' : Option (List (Answer Content H)))
    (asked asked' : Option (List (Asked × Bool))) (a : At B H) : Type 0 where
  pub well : Bool
  pub answered_is : answered' ≡ appended answered (answer_of well answer)
  pub asked_is : asked' ≡ appended asked ((asking, well) ∷ [])
  pub refused : well ≡ false → a ≡ at.Over why.NoMemory

-- one run, and the place at which the reply to its answer begins. Of a steady runner that answer is the one foretold, and
-- so it is where the run was refused
pub record RunsTo {B H : Type 0} (steady : Bool) (foretold : Answer Content H) (ask : Ask) (asking : Asked) (last : Bool)
    (answered answered' : Option (List (Answer Content H))) (asked asked' : Option (List (Asked × Bool))) (a : At B H) : Type 0 where
  pub answer : Answer Content H
  pub steady_is : steady ≡ true → answer ≡ foretold
  pub begins : BeginsAt ask asking.0 answer last a
  pub tells : TellsRun answer asking answered answered' asked asked' a
  pub refused_is : tells.well ≡ false → answer ≡ foretold
