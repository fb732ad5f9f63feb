use Rattle.std.proofs.Common.{codes}
use Rattle.rack_types.proofs.FieldLemmas.{HasSeen}
use Rattle.rack_types.proofs.request.Request.persists.Given as goal

abbrev pub invariant-loop-i : goal.invariant-loop-i
invariant-loop-i l =
    HasSeen (codes "connection") (codes "close") l.self.fields l.i l.close
    × HasSeen (codes "connection") (codes "keep-alive") l.self.fields l.i l.keep_alive
