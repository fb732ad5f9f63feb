use Rattle.std.proofs.Common.{◌≡◌, length}
use Rattle.master_core.proofs.tests.differs.Given as goal

-- the master has its slots
abbrev pub invariant-loop-i : goal.invariant-loop-i
invariant-loop-i l = length l.master.slots ≡ l.slots
