-- The command line of an order, as `clap` is told it: `control ADDRESS --token T ORDER`.
use Rattle.std.specs.Prelude.{Option, Some, true, codes}
use Rattle.clap.specs.Words.{App, Rule, new_app, new_rule, with_rule, with_subcommand}
use Rattle.clap.specs.declared.builder.action.ArgAction.TheVariants.{Set}
use Rattle.puma_words.specs.Program.{bare_app}

-- the address of the control server
abbrev pub address_rule : Rule
address_rule = record (new_rule (codes "address")) { required = true }

-- what is asked for
abbrev pub order_rule : Rule
order_rule = record (new_rule (codes "order")) { required = true }

-- the token
abbrev pub token_rule : Rule
token_rule = record (new_rule (codes "token")) { long = Some (codes "token"); action = Some Set; required = true }

abbrev pub bare_control : App
bare_control = with_rule (with_rule (with_rule (new_app (codes "control")) token_rule) address_rule) order_rule

abbrev pub control_app : App
control_app = with_subcommand bare_app bare_control.top
