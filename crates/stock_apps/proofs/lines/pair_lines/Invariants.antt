use Rattle.std.proofs.Common.{◌≡◌, take}
use Rattle.stock_apps.specs.Lines.{pair_lines}
use Rattle.stock_apps.proofs.lines.pair_lines.Given as goal

abbrev pub invariant-loop-i : goal.invariant-loop-i
invariant-loop-i l = l.lines.items ≡ pair_lines (take l.i l.env.pairs)
