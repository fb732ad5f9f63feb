use Rattle.message_framing.proofs.SoundLemmas.{request_sound}
use Rattle.message_framing.proofs.laws.request_is_sound.Goals as goal

pub returns : goal.returns
returns c = λ bytes r is. request_sound bytes r is
