use Rattle.rack_text.proofs.ReadAgain.{escaped_read}
use Rattle.rack_text.proofs.laws.escaped_text_is_read_again.Goals as goal

pub returns : goal.returns
returns c = escaped_read
