use Rattle.puma_ctl.proofs.WishRequestLemmas.{query_is, wish_is_request}
use Rattle.puma_ctl.proofs.laws.a_wish_is_a_request.Goals as goal

pub returns : goal.returns
returns c = record { request = wish_is_request; query = query_is }
