use Rattle.message_framing.proofs.RequestLemmas.{begins_stays, refusal_stays, no_longer_request}
use Rattle.message_framing.proofs.laws.what_stands_stays.Goals as goal

pub returns : goal.returns
returns c = record {
  refusal = λ bytes more f x. refusal_stays bytes more f x;
  request = λ bytes more n r x. begins_stays bytes more n r x;
  prefix = λ bytes more r q x y. no_longer_request bytes more r q x y;
}
