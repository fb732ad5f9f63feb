use Rattle.std.proofs.Common.{◌≡◌, ℕ, List, true}
use Rattle.rack_types.specs.Env.{Pairs}
use Rattle.talk_core.specs.Tail.{voice_of}
use Rattle.talk_core.specs.Teller.{Stacks, last_phase}
use Rattle.conn_core.specs.Holds.{Holds}
use Rattle.conn_core.specs.Shown.{shown, link_of}
use Rattle.puma_top.specs.Drive.{Drives, still_left}
use Rattle.puma_top.proofs.drive.drive.Given as goal

abbrev pub invariant-loop-conn : goal.invariant-loop-conn
invariant-loop-conn g l = record {
  drives : Drives (shown l.fn.conn) (shown l.conn) (g.L.Link.seen (link_of l.fn.conn)) (g.L.Link.seen (link_of l.conn));
  counts : g.R.Runner.runs l.runner ≡ (shown l.conn).calls;
  steady : g.R.Runner.steady ≡ true → (ps : Pairs) (input : List ℕ) → g.R.Runner.answer l.runner ps input ≡ g.R.Runner.answer l.fn.runner ps input;
  holds : (S : Stacks g.row.H.Denot) → g.R.Runner.steady ≡ true
      → ((ps : Pairs) (input : List ℕ) → S (last_phase (shown l.fn.conn).lives) ps input ≡ g.R.Runner.answer l.fn.runner ps input)
      → Holds g.L.Link.seen (voice_of g.H.Hijack) S l.fn.conn
      → Holds g.L.Link.seen (voice_of g.H.Hijack) S l.conn;
}

abbrev pub decreases-loop-conn : goal.decreases-loop-conn
decreases-loop-conn g l = still_left (shown l.conn)
