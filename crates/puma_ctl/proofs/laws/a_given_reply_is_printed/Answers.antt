use Rattle.puma_ctl.proofs.OrderLemmas.{printed_or_excused}
use Rattle.puma_ctl.proofs.laws.a_given_reply_is_printed.Goals as goal

pub returns : goal.returns
returns c = λ outcome order old new before out link reply status body x. printed_or_excused outcome order old new before out link reply status body x.ended
