use Rattle.std.proofs.Common.{◌≡◌, ◌≤◌, length, drop}
use Rattle.lint_core.specs.Found.{found_in}
use Rattle.lint_core.proofs.found.look_through.Given as goal

abbrev pub invariant-headers : goal.invariant-headers
invariant-headers l = record {
  within : l.i ≤ length l.headers;
  found : l.found ≡ found_in (drop l.i l.headers);
}

abbrev pub decreases-headers : goal.decreases-headers
decreases-headers l = l.i
