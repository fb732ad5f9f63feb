use Rattle.std.proofs.Common.{◌≡◌, ◌≤◌, ◌++◌, drop, vec_capacity}
use Rattle.std.specs.List.{flat_map}
use Rattle.reply_framing.specs.Head.{header_line, header_lines}
use Rattle.reply_framing.proofs.head.write_headers.Given as goal

abbrev pub invariant-loop-i : goal.invariant-loop-i
invariant-loop-i l = record {
  text : l.head.items ++ flat_map (header_line l.part) (drop l.i l.headers) ≡ l.fn.head.items ++ header_lines l.part l.headers;
  room : vec_capacity l.fn.head ≤ vec_capacity l.head;
}
