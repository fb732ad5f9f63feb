use Rattle.std.proofs.Common.{◌≡◌, drop}
use Rattle.std.specs.List.{fold}
use Rattle.stock_apps.specs.Answers.{bad_headers}
use Rattle.stock_apps.proofs.AppLemmas.{with_bad}
use Rattle.stock_apps.proofs.bad.bad_headers.Given as goal

abbrev pub invariant-loop-n : goal.invariant-loop-n
invariant-loop-n l = fold with_bad l.headers (drop l.n-index l.numbers) ≡ bad_headers l.numbers
