use Rattle.master_core.proofs.OrderLemmas.{orders_one, orders_some}
use Rattle.master_core.proofs.laws.one_order_is_right.Goals as goal

pub returns : goal.returns
returns c = record { total = orders_some; one = orders_one }
