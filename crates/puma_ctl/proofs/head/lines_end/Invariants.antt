use Rattle.puma_ctl.proofs.ScanLemmas.{IsSearched}
use Rattle.puma_ctl.proofs.head.lines_end.Given as goal

abbrev pub invariant-loop-at : goal.invariant-loop-at
invariant-loop-at l = IsSearched l.text l.at
