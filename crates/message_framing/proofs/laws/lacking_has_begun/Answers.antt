use Rattle.message_framing.proofs.BegunLemmas.{lacking_begun}
use Rattle.message_framing.proofs.laws.lacking_has_begun.Goals as goal

pub returns : goal.returns
returns c = λ bytes piece h. lacking_begun bytes piece h
