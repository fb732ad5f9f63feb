use Rattle.talk_core.proofs.ExistenceLemmas.{some_talk}
use Rattle.talk_core.proofs.laws.no_bytes_are_without_a_talk.Goals as goal

pub returns : goal.returns
returns c = some_talk
