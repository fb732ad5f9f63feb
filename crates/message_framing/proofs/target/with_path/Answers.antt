use Rattle.std.proofs.Common.{ap, ◌∙◌, ◌≡◌, ◌≤◌, length, drop}
use Rattle.std.specs.List.{position_or_len}
use Rattle.message_framing.specs.Target.{is_question}
use Rattle.message_framing.proofs.TargetLemmas.{spans_path}
use Rattle.message_framing.proofs.target.with_path.Goals as goal

pub returns : goal.returns
returns c =
    let place : c.position_of_question.result ≡ position_or_len is_question (drop c.args.from c.args.target.now) =
    c.position_of_question.ensures.value ∙ ap (position_or_len is_question) c.suffix-rest.ensures in
    let within : c.position_of_question.result ≤ length (drop c.args.from c.args.target.now) =
    rw (← c.suffix-rest.ensures) c.position_of_question.ensures.within in
    spans_path c.args.authority c.args.target.now c.args.from c.position_of_question.result c.min.result c.requires.from c.requires.authority place within c.min.ensures
