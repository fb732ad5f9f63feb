use Rattle.std.proofs.Common.{◌≡◌, ℕ, Bool, List, Option, Some, ap, sym, subst, ◌∙◌}
use Rattle.std.specs.Option.{option_map}
use Rattle.puma_words.specs.Said.{said}
use Rattle.puma_words.specs.Words.{Command, once}
use Rattle.puma_words.specs.declared.command.Command.{Command as Words}
use Rattle.puma_top.specs.Quiet.{OnceDid, Did}
use Rattle.puma_top.specs.Seen.{Seen}
use Rattle.puma_top.specs.declared.status.Status.{Status}
use Rattle.puma_top.proofs.quiet.run_command.Goals as goal

said_is : (command : Option Command) (some : Option Words) (x y : Words) → option_map said some ≡ command → some ≡ Some x → x ≡ y
    → command ≡ Some (said y)
said_is command some x y e f h = sym e ∙ ap (λ (z : Option Words). option_map said z) f ∙ ap (λ (z : Words). Some (said z)) h

once_said : (s : Status) (command : Option Command) (hijack : Bool) (name : List ℕ) (old new : Seen) → command ≡ Some (once hijack name)
    → OnceDid s hijack name old new → Did s command old new
once_said s command hijack name old new is did = subst (λ (x : Option Command). Did s x old new) (sym is) did

pub returns-in-Ok-Some-Once-clause-did : goal.returns-in-Ok-Some-Once-clause-did
returns-in-Ok-Some-Once-clause-did g c =
    once_said c.run_once.result _ c.in-Ok-Some-Once.hijack c.in-Ok-Some-Once.stack.now _ _
    (said_is _ c.in-Ok-Some-Once.field-0 c.in-Ok-Some-Once.field-0-0 _ c.in-Ok-Some-Once.ensures c.in-Ok-Some-Once.field-0-is c.in-Ok-Some-Once.field-0-0-is)
    c.run_once.ensures.did
