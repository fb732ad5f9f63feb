use Rattle.std.proofs.Common.{ℕ, sym, subst}
use Rattle.message_framing.specs.declared.intake.Intake.{Intake}
use Rattle.message_framing.proofs.IntakeLemmas.{Started, started_behind, started_open, feeds_to, answers_more}
use Rattle.message_framing.proofs.intake.Intake.feed.Goals as goal
use Rattle.message_framing.proofs.intake.Intake.feed.Goals.{in-Open+in-Some, in_default}

pub returns-in-None : goal.returns-in-None
returns-in-None c = record {
  answers = answers_more c.args.self.now c.feed_head.new.self c.args.piece.now c.in-Open.is c.in-None.ensures.0 c.in-None.ensures.1;
}

pub returns : goal.returns
returns c =
    let old = c.args.self.now in
    let piece = c.args.piece.now in
    let start : Started old c.match-self.self c.match-self.from piece = elim c.match-self.branch [
      | in-Open+in-Some w ↦
          subst (λ (m : Intake). Started old m c.match-self.from piece) (sym w.self-is)
          (subst (λ (n : ℕ). Started old w.feed_head.new.self n piece) (sym w.from-is)
          (started_open old w.feed_head.new.self w.in-Some.n piece w.in-Open.is w.in-Some.ensures.0 w.in-Some.ensures.1 w.in-Some.ensures.2))
      | in_default w ↦
          subst (λ (m : Intake). Started old m c.match-self.from piece) (sym w.self-is)
          (subst (λ (n : ℕ). Started old old n piece) (sym w.from-is) (started_behind old piece w.in_default.not-Open))
    ] in
    record { answers = feeds_to old c.match-self.self c.go_on.new.self c.match-self.from piece c.go_on.result start c.go_on.ensures }
