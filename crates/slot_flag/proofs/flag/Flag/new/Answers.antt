use Rattle.slot_flag.proofs.RuleLemmas.{begins}
use Rattle.slot_flag.proofs.flag.Flag.new.Goals as goal

pub of_words-requires : goal.of_words-requires
of_words-requires c = begins
