-- What runs leave of a control server, as whoever lent it a master and a loader sees it.
use Rattle.std.specs.Prelude.{◌≡◌, List, ◌++◌}
use Rattle.rack_types.specs.declared.answer.Answer.{Answer}
use Rattle.rack_types.specs.Body.{Content}
use Rattle.rack_types.specs.Runner.{Asked}
use Rattle.std.specs.Prelude.{Bool}
use Rattle.hijack_core.specs.declared.never.Never.{Never}
use Rattle.control_http.specs.declared.control.Control.{Control}
use Rattle.control_http.specs.Runs.{Served, asked_in, answers_in}

-- it is the same one: it has the same master and loader, the same token, and saw the same of the slots; and what
-- was asked and answered since leads from the master that it had to the one that it has
pub record Leads {Ld : Type 0} (old new : Control Ld) : Type 0 where
  pub master : new.master.ghost_name ≡ old.master.ghost_name
  pub loader : new.loader.ghost_name ≡ old.loader.ghost_name
  pub token : new.token.now ≡ old.token.now
  pub seen : new.seen.now ≡ old.seen.now
  pub given : new.given.value ≡ old.given.value
  pub asked : List (Asked × Bool)
  pub answers : List (Answer Content Never)
  pub asked_is : asked_in new.asked.items ≡ asked_in old.asked.items ++ asked
  pub answers_is : answers_in new.answered.items ≡ answers_in old.answered.items ++ answers
  pub served : Served old.token.now old.seen.now old.master.now asked answers new.master.now
