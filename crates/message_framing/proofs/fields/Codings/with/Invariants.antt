use Rattle.rack_text.specs.Lists.{elements}
use Rattle.message_framing.proofs.FieldLemmas.{HasTaken}
use Rattle.message_framing.proofs.fields.Codings.with.Given as goal

abbrev pub invariant-loop-coding : goal.invariant-loop-coding
invariant-loop-coding l = HasTaken l.fn.self (elements l.value) l.coding-iterator l.codings
