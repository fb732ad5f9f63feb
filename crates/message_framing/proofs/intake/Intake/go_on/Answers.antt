use Rattle.std.proofs.Common.{◌≡◌, ◌≤◌, Ok, Result, length, ap, ◌∙◌, subst, arith, length-drop}
use Rattle.std.specs.declared.alloc.AllocError.{AllocError}
use Rattle.message_framing.specs.declared.intake.Feed.{Feed}
use Rattle.message_framing.specs.declared.intake.Feed.TheVariants.{Whole}
use Rattle.message_framing.specs.Standing.{FeedsOn}
use Rattle.message_framing.proofs.IntakeLemmas.{whole_fits, stands_on}
use Rattle.message_framing.proofs.intake.Intake.go_on.Goals as goal

pub overflow_add-result : goal.overflow_add-result
overflow_add-result c =
    let answer : c.feed-standing.result.1 ≡ Ok (Whole c.in-Whole-2.n) = c.in_ok-answer.was ∙ ap Ok c.in-Whole-2.is in
    let inside : c.in-Whole-2.n ≤ length c.suffix-rest.result.now =
    whole_fits _ c.feed-standing.result.0 c.suffix-rest.result.now c.in-Whole-2.n
    (subst (λ (r : Result Feed AllocError). FeedsOn c.replace.result c.suffix-rest.result.now r c.feed-standing.result.0) answer c.feed-standing.ensures) in
    omega (arith, inside, ap length c.suffix-rest.ensures, length-drop c.args.from c.args.piece.now, c.requires)

-- a request that stands is not moved
pub returns-in-Whole : goal.returns-in-Whole
returns-in-Whole c = stands_on c.args.self.now c.args.from c.args.piece.now c.in-Whole.field-0 c.in-Whole.is
