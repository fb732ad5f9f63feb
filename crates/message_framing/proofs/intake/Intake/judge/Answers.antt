use Rattle.std.proofs.Common.{ap, sym, subst}
use Rattle.message_framing.specs.HeadText.{head_text}
use Rattle.message_framing.specs.Places.{StandsHead, RefusesHead}
use Rattle.message_framing.specs.Standing.{Judges}
use Rattle.message_framing.proofs.FeedHeadLemmas.{judges_head}
use Rattle.message_framing.proofs.intake.Intake.judge.Goals as goal
use Rattle.message_framing.proofs.intake.Intake.judge.Goals.{in-Ok, in-Err}

pub returns-clause-stands : goal.returns-clause-stands
returns-clause-stands c =
    let same = ap (λ v. v.items) c.replace-bytes.ensures.value in
    elim c.match-read_head.branch [
      | in-Ok w ↦
          subst (Judges c.args.self.now.bytes.items) (sym w.standing-is)
          (judges_head w.behind_head-standing.result w.in-Ok.head c.args.self.now.bytes.items
          (subst (λ bytes. StandsHead (head_text bytes) w.in-Ok.head.request w.in-Ok.head.framing) same w.in-Ok.ensures)
          w.behind_head-standing.ensures)
      | in-Err w ↦
          subst (Judges c.args.self.now.bytes.items) (sym w.standing-is)
          (subst (λ bytes. RefusesHead (head_text bytes) w.in-Err.fault) same w.in-Err.ensures)
    ]
