use Rattle.std.proofs.Common.{◌≡◌, ◌+◌, ◌-◌, length}
use Rattle.message_framing.specs.Request.{head_limit}
use Rattle.puma_ctl.specs.Reply.{body_limit}
use Rattle.puma_ctl.specs.Order.{pauses_limit}
use Rattle.puma_ctl.proofs.TalkLemmas.{IsHearing}
use Rattle.puma_ctl.proofs.talk.hear.Given as goal

abbrev pub invariant-loop-n : goal.invariant-loop-n
invariant-loop-n g l = record {
  hearing : IsHearing (g.D.Link.Link.seen l.link) l.fn.text l.back l.waits;
  same : g.D.Dial.seen l.dial ≡ g.D.Dial.seen l.fn.dial;
}

abbrev pub decreases-loop-n : goal.decreases-loop-n
decreases-loop-n g l = (head_limit + body_limit - length l.back) + (pauses_limit - l.waits)
