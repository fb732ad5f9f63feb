-- What the code reads of the matches.
use Rattle.std.proofs.Common.{◌≡◌, ◌∙◌, Bool, true, false, refl, sym, ap, ap₂, subst, Option, Some, None, codes, true≢false}
use Rattle.std.specs.Prelude.{Box, if◌then◌else◌, not, option_map}
use Rattle.std.proofs.lemmas.Option.{none-some, same_Some}
use Rattle.std.specs.Box.{box_value}
use Rattle.std.specs.Str.{bytes_eq}
use Rattle.clap.specs.Matches.{first_value, one_text, subcommand_name_of}
use Rattle.clap.specs.Walk.{rows_of}
use Rattle.clap.specs.Simple.{subcommand_rows, subcommand_rows_of}
use Rattle.clap.specs.declared.parser.matches.ArgMatches.{ArgMatches}
use Rattle.clap.specs.declared.parser.matches.ArgMatches.TheViews.{out-ArgMatches, out-SubCommand}
use Rattle.clap.specs.declared.parser.matches.Found.{Found}
use Rattle.clap.specs.declared.parser.matches.SubCommand.{SubCommand}
use Rattle.clap.proofs.WalkLemmas.{first_value-rows, one_text-rows}
use Rattle.puma_words.specs.Words.{Command, Text, check, once}
use Rattle.puma_words.specs.Program.{Holds, Met, verb_of}

once_is_not_check : codes "once" ≡ codes "check" → ⊥
once_is_not_check e = true≢false (ap (bytes_eq (codes "once")) e)

-- the name and the rows of the subcommand that was met
names_met : {Z : Type 0} (o : Option (Box SubCommand Z)) → option_map (λ p. p.0) (subcommand_rows o) ≡ option_map (λ b. (out-SubCommand (box_value b)).name.now) o
names_met None = refl
names_met (Some b) = refl

-- what the code sees of the subcommand: its name, and what was found for its arguments
pub record Sees (m : ArgMatches) (verb : Text) (found : Found) : Type 0 where
  pub name : Some verb ≡ subcommand_name_of m
  pub rows : Some (rows_of found) ≡ option_map (λ p. p.1) (subcommand_rows_of m)

-- and so of the command that this says
pub record Knows (verb : Text) (found : Found) (command : Command) : Type 0 where
  pub name : verb ≡ verb_of command
  pub rows : Holds (rows_of found) command

pub knows : (m : ArgMatches) (verb : Text) (found : Found) (command : Command) → Sees m verb found → Met (subcommand_rows_of m) command → Knows verb found command
knows m verb found command sees met = record {
  name = same_Some verb (verb_of command) (sees.name ∙ sym (names_met (out-ArgMatches m).subcommand) ∙ ap (option_map (λ p. p.0)) met.1);
  rows = subst (λ rows. Holds rows command) (sym (same_Some (rows_of found) met.0 (sees.rows ∙ ap (option_map (λ p. p.1)) met.1))) met.2;
}

abbrev stack_of : Command → Text
stack_of (once hijack stack) = stack
stack_of (check stack) = stack

stack_found : (found : Found) (command : Command) → Holds (rows_of found) command → first_value found (codes "stack") ≡ Some (stack_of command)
stack_found found (once hijack stack) holds = first_value-rows found (codes "stack") ∙ holds.0
stack_found found (check stack) holds = first_value-rows found (codes "stack") ∙ holds

-- a command has a name
pub never_none : (verb : Text) (found : Found) (command : Command) → Knows verb found command → None ≡ first_value found (codes "stack") → ⊥
never_none verb found command k none = none-some (stack_of command) (none ∙ stack_found found command k.rows)

module _ (verb : Text) (found : Found) (stack : Text) where
  same_stack : (command : Command) → Knows verb found command → Some stack ≡ first_value found (codes "stack") → stack ≡ stack_of command
  same_stack command k e = same_Some stack (stack_of command) (e ∙ stack_found found command k.rows)

  pub is_check : (command : Command) → Knows verb found command → Some stack ≡ first_value found (codes "stack") → (verb ≡ codes "once" → ⊥)
      → Some (check stack) ≡ Some command
  is_check (once hijack v) k e differs = absurd (differs k.name)
  is_check (check v) k e differs = ap (λ s. Some (check s)) (same_stack (check v) k e)

  same_hijack : (hijack flag : Bool) → one_text found (codes "no-hijack") ≡ Some (if hijack then codes "false" else codes "true")
      → (one_text found (codes "no-hijack") ≡ Some (codes "true") → flag ≡ true) → (one_text found (codes "no-hijack") ≡ Some (codes "false") → flag ≡ false)
      → not flag ≡ hijack
  same_hijack true flag e on off = ap not (off e)
  same_hijack false flag e on off = ap not (on e)

  pub is_once : (flag : Bool) (command : Command) → Knows verb found command → Some stack ≡ first_value found (codes "stack") → verb ≡ codes "once"
      → (one_text found (codes "no-hijack") ≡ Some (codes "true") → flag ≡ true) → (one_text found (codes "no-hijack") ≡ Some (codes "false") → flag ≡ false)
      → Some (once (not flag) stack) ≡ Some command
  is_once flag (once hijack v) k e same on off =
      ap₂ (λ h s. Some (once h s)) (same_hijack hijack flag (one_text-rows found (codes "no-hijack") ∙ k.rows.1) on off) (same_stack (once hijack v) k e)
  is_once flag (check v) k e same on off = absurd (once_is_not_check (sym same ∙ k.name))
