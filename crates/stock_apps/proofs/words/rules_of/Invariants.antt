use Rattle.std.proofs.Common.{◌≡◌, drop}
use Rattle.stock_apps.specs.Words as spec
use Rattle.stock_apps.proofs.WordLemmas.{behind_all}
use Rattle.stock_apps.proofs.words.rules_of.Given as goal

abbrev pub invariant-loop-text : goal.invariant-loop-text
invariant-loop-text l = spec.rules_of l.texts ≡ behind_all l.numbers.items (spec.rules_of (drop l.text-index l.texts))
