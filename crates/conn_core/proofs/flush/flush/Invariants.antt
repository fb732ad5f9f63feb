use Rattle.std.proofs.Common.{◌-◌, false}
use Rattle.talk_core.specs.Tail.{voice_of}
use Rattle.talk_core.specs.Teller.{Teller}
use Rattle.conn_steps.specs.Holds.{HoldsBy}
use Rattle.conn_steps.specs.Moves.{flush_at}
use Rattle.conn_steps.specs.Shown.{shows}
use Rattle.conn_core.proofs.MovesOfCalls.{Moving}
use Rattle.conn_core.proofs.FlushLemmas.{Flushing, Falling}
use Rattle.conn_core.proofs.flush.flush.Given as goal

abbrev pub invariant-loop-writes : goal.invariant-loop-writes
invariant-loop-writes g l = record {
  holds : (T : Teller g.row.H.Denot) → HoldsBy (voice_of g.H.Hijack) T (g.L.Link.seen l.fn.link) l.fn.inside
      → HoldsBy (voice_of g.H.Hijack) T (g.L.Link.seen l.link) l.inside;
  flushing : Flushing (shows l.fn.inside) (shows l.inside) (g.L.Link.seen l.fn.link) (g.L.Link.seen l.link) l.writes;
  moving : Moving l.fn.now (flush_at (shows l.fn.inside) (g.L.Link.seen l.fn.link) 0 false) (flush_at (shows l.inside) (g.L.Link.seen l.link) l.writes false);
  falling : Falling (shows l.fn.inside) (shows l.inside) l.writes;
}

abbrev pub decreases-loop-writes : goal.decreases-loop-writes
decreases-loop-writes g l = 16 - l.writes
