use Rattle.message_framing.proofs.BoundLemmas.{waiting_bounded}
use Rattle.message_framing.proofs.laws.waiting_is_bounded.Goals as goal

pub returns : goal.returns
returns c = λ bytes waits. waiting_bounded bytes waits
