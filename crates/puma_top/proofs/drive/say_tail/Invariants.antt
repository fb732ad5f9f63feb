use Rattle.std.proofs.Common.{◌≡◌}
use Rattle.talk_core.specs.Tail.{voice_of}
use Rattle.talk_core.specs.Teller.{Stacks}
use Rattle.conn_core.specs.Holds.{Holds}
use Rattle.conn_core.specs.Shown.{shown, link_of}
use Rattle.puma_top.specs.Drive.{Drives, IsHeard, still_saying}
use Rattle.puma_top.proofs.drive.say_tail.Given as goal

abbrev pub invariant-loop-conn : goal.invariant-loop-conn
invariant-loop-conn g l = record {
  drives : Drives (shown l.fn.conn) (shown l.conn) (g.L.Link.seen (link_of l.fn.conn)) (g.L.Link.seen (link_of l.conn));
  calls : (shown l.conn).calls ≡ (shown l.fn.conn).calls;
  heard : IsHeard (shown l.fn.conn) (shown l.conn);
  holds : (S : Stacks g.row.H.Denot) → Holds g.L.Link.seen (voice_of g.H.Hijack) S l.fn.conn
      → Holds g.L.Link.seen (voice_of g.H.Hijack) S l.conn;
}

abbrev pub decreases-loop-conn : goal.decreases-loop-conn
decreases-loop-conn g l = still_saying (shown l.conn)
