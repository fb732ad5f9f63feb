use Rattle.slot_flag.proofs.tests.+climb_together.Given as goal

abbrev pub decreases-climb_together : goal.decreases-climb_together
decreases-climb_together g l = l.threads
