use Rattle.talk_core.proofs.ChunkedLemmas.{read_again}
use Rattle.talk_core.proofs.laws.chunks_are_read_again.Goals as goal

pub returns : goal.returns
returns c = read_again
