use Rattle.talk_core.proofs.LawLemmas.{stays}
use Rattle.talk_core.proofs.laws.talk_that_stopped_stays.Goals as goal

pub returns : goal.returns
returns c = stays
