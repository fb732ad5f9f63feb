use Rattle.talk_core.proofs.CompareLemmas.{one_talk}
use Rattle.talk_core.proofs.laws.one_talk_is_on_the_bytes.Goals as goal

pub returns : goal.returns
returns c = one_talk
