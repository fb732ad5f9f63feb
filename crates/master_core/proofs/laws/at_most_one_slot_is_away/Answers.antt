use Rattle.master_core.proofs.CalmLemmas.{at_most_one_away}
use Rattle.master_core.proofs.laws.at_most_one_slot_is_away.Goals as goal

pub returns : goal.returns
returns c = at_most_one_away
