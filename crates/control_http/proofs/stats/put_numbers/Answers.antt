use Rattle.control_http.specs.Stats.{last_status}
use Rattle.control_http.proofs.StatsLemmas.{six}
use Rattle.control_http.proofs.stats.put_numbers.Goals as goal

pub returns : goal.returns
unfolding last_status
returns c = six _ _ _ _ _ _ _ _ _ _ _ _ _
    c.in_ok-put_number.ensures c.in_ok-put_number-2.ensures c.in_ok-put_number-3.ensures c.in_ok-put_number-4.ensures
    c.in_ok-put_number-5.ensures c.in_ok-extend_from_slice.ensures.items
