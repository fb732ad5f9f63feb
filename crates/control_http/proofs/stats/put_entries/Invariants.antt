use Rattle.std.proofs.Common.{◌≡◌, ◌++◌, drop, codes}
use Rattle.control_http.specs.Field.{field}
use Rattle.control_http.specs.Stats.{entries}
use Rattle.control_http.proofs.stats.put_entries.Given as goal

abbrev pub invariant-loop-i : goal.invariant-loop-i
invariant-loop-i l =
    l.fn.json.items ++ field (codes ",\"worker_status\":[") (entries 0 l.slots l.seen) ≡ l.json.items ++ entries l.i (drop l.i l.slots) (drop l.i l.seen)
