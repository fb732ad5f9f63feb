use Rattle.std.proofs.Common.{◌≡◌, bytes_eq, ◌&&◌, drop}
use Rattle.control_http.proofs.token.are_same.Given as goal

abbrev pub invariant-loop-i : goal.invariant-loop-i
invariant-loop-i l = bytes_eq l.bytes l.token ≡ (l.same && bytes_eq (drop l.i l.bytes) (drop l.i l.token))
