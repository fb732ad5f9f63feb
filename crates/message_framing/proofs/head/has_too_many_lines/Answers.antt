use Rattle.std.proofs.Common.{ap, ◌∙◌, nat_lt, ◌-◌}
use Rattle.message_framing.specs.Request.{has_too_many_lines}
use Rattle.message_framing.proofs.head.has_too_many_lines.Goals as goal

pub returns : goal.returns
unfolding has_too_many_lines
returns c = ap (nat_lt 64) (c.saturating_sub.ensures ∙ ap (λ n. n - 2) c.count_line_feeds.ensures)
