use Rattle.std.proofs.Common.{◌≡◌, drop}
use Rattle.stack_file.specs.Said as spec
use Rattle.stack_file.proofs.LineLemmas.{behind_all}
use Rattle.stack_file.proofs.texts.texts_of.Given as goal

abbrev pub invariant-loop-word : goal.invariant-loop-word
invariant-loop-word l = spec.texts_of l.words ≡ behind_all l.texts.items (spec.texts_of (drop l.word-index l.words))
