use Rattle.std.proofs.Common.{◌≡◌, ◌+◌, ◌-◌, length}
use Rattle.puma_ctl.specs.Order.{pauses_limit}
use Rattle.puma_ctl.proofs.TalkLemmas.{IsSaying}
use Rattle.puma_ctl.proofs.talk.say.Given as goal

abbrev pub invariant-loop-from : goal.invariant-loop-from
invariant-loop-from g l = record {
  saying : IsSaying (g.D.Link.Link.seen l.link) l.text l.from l.waits;
  same : g.D.Dial.seen l.dial ≡ g.D.Dial.seen l.fn.dial;
}

abbrev pub decreases-loop-from : goal.decreases-loop-from
decreases-loop-from g l = (length l.text - l.from) + (pauses_limit - l.waits)
