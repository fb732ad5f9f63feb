-- The program's command line, as `clap` is told it. This serves inner contracts alone.
use Rattle.std.specs.Prelude.{◌≡◌, List, Option, Some, true, codes, if◌then◌else◌}
use Rattle.clap.specs.Words.{App, Row, Rule, Text, first_of, new_app, new_rule, one_of, with_rule, with_subcommand}
use Rattle.clap.specs.Simple.{on_top}
use Rattle.clap.specs.declared.builder.action.ArgAction.TheVariants.{SetTrue}
use Rattle.puma_words.specs.Words as words

abbrev pub no_hijack_rule : Rule
no_hijack_rule = record (new_rule (codes "no-hijack")) { long = Some (codes "no-hijack"); action = Some SetTrue }

abbrev pub stack_rule : Rule
stack_rule = record (new_rule (codes "stack")) { required = true }

abbrev pub once_app : App
once_app = with_rule (with_rule (new_app (codes "once")) no_hijack_rule) stack_rule

abbrev pub check_app : App
check_app = with_rule (new_app (codes "check")) stack_rule

abbrev pub bare_app : App
bare_app = on_top (λ s. record s {
  no_binary_name = true;
  disable_help_flag = true;
  disable_help_subcommand = true;
  subcommand_required = true;
}) (new_app (codes "puma"))

abbrev pub puma_app : App
puma_app = with_subcommand (with_subcommand bare_app once_app.top) check_app.top

-- the subcommand of a command
abbrev pub verb_of : words.Command → Text
verb_of (words.once hijack stack) = codes "once"
verb_of (words.check stack) = codes "check"

-- what is found for a command's own arguments
abbrev pub Holds : List Row → words.Command → Type 0
Holds rows (words.once hijack stack) = (first_of (codes "stack") rows ≡ Some stack)
    × (one_of (codes "no-hijack") rows ≡ Some (if hijack then codes "false" else codes "true"))
Holds rows (words.check stack) = first_of (codes "stack") rows ≡ Some stack

-- the subcommand that was met, with what was found for it, says the command
abbrev pub Met : Option (Text × List Row) → words.Command → Type 0
Met met command = (rows : List Row) × (met ≡ Some (verb_of command, rows)) × Holds rows command

-- the answer is the command that this says, where it says one
abbrev pub Follows : Option (Text × List Row) → Option words.Command → Type 0
Follows met answer = (command : words.Command) → Met met command → answer ≡ Some command
