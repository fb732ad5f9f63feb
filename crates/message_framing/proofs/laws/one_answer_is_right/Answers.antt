use Rattle.message_framing.proofs.AnswerLemmas.{right_unique, right_behind_request, right_behind_refusal}
use Rattle.message_framing.proofs.laws.one_answer_is_right.Goals as goal

pub returns : goal.returns
returns c = record {
  same = λ bytes piece a b x y. right_unique a b bytes piece x y;
  whole = λ bytes piece r a is x. right_unique a _ bytes piece x (right_behind_request bytes piece r is);
  refused = λ bytes piece f a is x. right_unique a _ bytes piece x (right_behind_refusal bytes piece f is);
}
