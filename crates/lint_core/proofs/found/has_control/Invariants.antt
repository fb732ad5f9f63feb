use Rattle.std.proofs.Common.{◌≡◌, ◌≤◌, length, drop}
use Rattle.std.specs.List.{list_any}
use Rattle.rack_types.specs.AnswerRules.{is_control}
use Rattle.rack_types.specs.Headers.{values_at}
use Rattle.lint_core.proofs.found.has_control.Given as goal

abbrev pub invariant-values : goal.invariant-values
invariant-values l = record {
  within : l.j ≤ length (values_at l.i l.headers);
  found : l.found ≡ list_any (list_any is_control) (drop l.j (values_at l.i l.headers));
}

abbrev pub decreases-values : goal.decreases-values
decreases-values l = l.j
