use Rattle.std.proofs.Common.{ap, ◌∙◌, nat_lt, ◌-◌}
use Rattle.message_framing.specs.Chunks.{has_too_many_fields}
use Rattle.message_framing.proofs.chunks.has_too_many_fields.Goals as goal

pub returns : goal.returns
unfolding has_too_many_fields
returns c = ap (nat_lt 64) (c.saturating_sub.ensures ∙ ap (λ n. n - 1) c.count_line_feeds.ensures)
