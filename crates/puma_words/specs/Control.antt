-- The words of an order to a running server, and what they say, by what `clap` makes of them.
use Rattle.std.specs.Prelude.{List, [], ◌∷◌, Option, None, Some, codes}
use Rattle.clap.specs.Words.{Row, Text, fault_of, first_of, subcommand_of, Kinds}
use Rattle.puma_words.specs.ControlProgram.{control_app}

-- what the words say: where the control server listens, the token, and what is asked for
pub record Control : Type 0 where
  pub address : Text
  pub token : Text
  pub order : Text

-- an order has all three
abbrev pub order_with : Option Text → Option Text → Option Text → Option Control
order_with (Some address) (Some token) (Some order) = Some (record { address = address; token = token; order = order })
order_with _ _ _ = None

-- by what was found for the arguments of the subcommand that was met
abbrev pub order_met : Option (Text × List Row) → Option Control
order_met None = None
order_met (Some met) = order_with (first_of (codes "address") met.1) (first_of (codes "token") met.1) (first_of (codes "order") met.1)

-- none where there is a cause to refuse the words
abbrev pub unless_refused : Kinds → Option Control → Option Control
unless_refused [] said = said
unless_refused (kind ∷ kinds) said = None

-- the order; none where the words are none
abbrev pub control_of : List Text → Option Control
control_of words = unless_refused (fault_of control_app words) (order_met (subcommand_of control_app words))
