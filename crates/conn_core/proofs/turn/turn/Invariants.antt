use Rattle.std.proofs.Common.{◌≡◌, ◌+◌, ℕ, List, true, false}
use Rattle.rack_types.specs.Env.{Pairs}
use Rattle.rack_types.specs.Runner.{Becomes}
use Rattle.talk_core.specs.Tail.{voice_of}
use Rattle.talk_core.specs.Teller.{Teller}
use Rattle.conn_steps.specs.Holds.{HoldsBy}
use Rattle.conn_steps.specs.Inner.{TellsFrom, budget_at, work}
use Rattle.conn_steps.specs.Ran.{Ran}
use Rattle.conn_steps.specs.Shown.{shows}
use Rattle.conn_core.proofs.MovesOfCalls.{full, Moving}
use Rattle.conn_core.proofs.RightlyLemmas.{MovingRightly}
use Rattle.conn_core.proofs.TurnLemmas.{Turning}
use Rattle.conn_core.proofs.turn.turn.Given as goal

abbrev pub invariant-loop-inside : goal.invariant-loop-inside
invariant-loop-inside g l = record {
  holds : g.R.Runner.steady ≡ true → (T : Teller g.row.H.Denot)
      → TellsFrom T (g.R.Runner.answer l.fn.runner) l.fn.inside.local l.fn.inside.peer l.inside.ending.closing l.fn.inside.calls l.inside.calls
      → HoldsBy (voice_of g.H.Hijack) T (g.L.Link.seen l.fn.link) l.fn.inside
      → HoldsBy (voice_of g.H.Hijack) T (g.L.Link.seen l.link) l.inside;
  any : (T : Teller g.row.H.Denot) → HoldsBy (voice_of g.H.Hijack) T (g.L.Link.seen l.fn.link) l.fn.inside
      → Ran (λ (U : Teller g.row.H.Denot). HoldsBy (voice_of g.H.Hijack) U (g.L.Link.seen l.link) l.inside) T g.R.Runner.answer
      l.fn.inside.calls (g.L.Link.seen l.fn.link) (g.L.Link.seen l.link) (shows l.inside)
      (g.R.Runner.answered l.fn.runner) (g.R.Runner.answered l.runner) (g.R.Runner.asked l.fn.runner) (g.R.Runner.asked l.runner);
  turning : Turning (shows l.fn.inside) (shows l.inside) (g.L.Link.seen l.fn.link) (g.L.Link.seen l.link) l.budget;
  moving : Moving l.fn.now (budget_at (shows l.fn.inside) (g.L.Link.seen l.fn.link) full false) (budget_at (shows l.inside) (g.L.Link.seen l.link) l.budget false);
  rightly : (T : Teller g.row.H.Denot) → HoldsBy (voice_of g.H.Hijack) T (g.L.Link.seen l.fn.link) l.fn.inside
      → MovingRightly l.fn.now (budget_at (shows l.fn.inside) (g.L.Link.seen l.fn.link) full false) (budget_at (shows l.inside) (g.L.Link.seen l.link) l.budget false);
  counts : g.R.Runner.runs l.runner + l.budget.runs ≡ g.R.Runner.runs l.fn.runner + 10;
  becomes : Becomes g.R.Runner.becomes l.fn.runner l.runner;
  steady : g.R.Runner.steady ≡ true → (ps : Pairs) (input : List ℕ) → g.R.Runner.answer l.runner ps input ≡ g.R.Runner.answer l.fn.runner ps input;
}

abbrev pub decreases-loop-inside : goal.decreases-loop-inside
decreases-loop-inside g l = work l.budget l.inside.at
