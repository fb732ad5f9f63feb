use Rattle.message_framing.specs.Target.{is_question}
use Rattle.message_framing.proofs.HeadLemmas.{place_found, place_missing}
use Rattle.message_framing.proofs.target.position_of_question.Goals as goal

pub returns-in-Some-clause-value : goal.returns-in-Some-clause-value
returns-in-Some-clause-value c = place_found is_question _ _ c.in-Some.ensures.0 c.in-Some.ensures.1

pub returns-in-None-clause-value : goal.returns-in-None-clause-value
returns-in-None-clause-value c = place_missing is_question _ c.in-None.ensures
