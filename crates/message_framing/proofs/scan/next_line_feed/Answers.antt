use Rattle.std.proofs.Common.{subst, List, ℕ}
use Rattle.memchr.specs.Find.{TakesFirst, is_byte}
use Rattle.message_framing.proofs.FirstPlaceLemmas.{first_place}
use Rattle.message_framing.proofs.scan.next_line_feed.Goals as goal

pub returns : goal.returns
returns c =
    first_place (is_byte 10) c.args.bytes.now c.next.result c.next.new.self
    (subst (λ (s : List ℕ). TakesFirst s c.next.result c.next.new.self) c.memchr_iter-feeds.ensures.value c.next.ensures.steps)
