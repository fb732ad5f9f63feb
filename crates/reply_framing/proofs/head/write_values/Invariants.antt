use Rattle.std.proofs.Common.{◌≡◌, ◌≤◌, ◌++◌, drop, vec_capacity}
use Rattle.std.specs.List.{flat_map}
use Rattle.rack_types.specs.Headers.{values_at}
use Rattle.reply_framing.specs.Head.{value_line}
use Rattle.reply_framing.proofs.head.write_values.Given as goal

abbrev pub invariant-loop-j : goal.invariant-loop-j
invariant-loop-j l = record {
  text : l.head.items ++ flat_map (value_line l.name) (drop l.j (values_at l.i l.headers)) ≡ l.fn.head.items ++ flat_map (value_line l.name) (values_at l.i l.headers);
  room : vec_capacity l.fn.head ≤ vec_capacity l.head;
}
