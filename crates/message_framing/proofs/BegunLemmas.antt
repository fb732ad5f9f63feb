-- Where want of memory is right, the request has begun.
use Rattle.std.proofs.Common.{◌≡◌, ℕ, List, ◌++◌, sym, ◌∙◌}
use Rattle.message_framing.specs.declared.scan.Line.TheVariants.{Skipping, Ended}
use Rattle.message_framing.specs.Request.{Begun}
use Rattle.message_framing.specs.Intake.{LacksRightly}
use Rattle.message_framing.proofs.FeedHeadLemmas.{ended_line}
use Rattle.message_framing.proofs.ScanLemmas.{not_skipping}

pub lacking_begun : (b piece : List ℕ) → LacksRightly b piece → Begun (b ++ piece)
lacking_begun b piece h = not_skipping (b ++ piece) (λ is. (let clash : Ended ≡ Skipping = sym (ended_line (b ++ piece) h.n h.end) ∙ is in cc))
