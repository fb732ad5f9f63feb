use Rattle.message_framing.proofs.RequestLemmas.{begins_unique, begins_not_refused, refusal_unique}
use Rattle.message_framing.proofs.laws.one_thing_stands.Goals as goal

pub returns : goal.returns
returns c = record {
  request = λ bytes n m r q x y. begins_unique bytes n m r q x y;
  refusal = λ bytes f g x y. refusal_unique bytes f g x y;
  apart = λ bytes n r f x y. begins_not_refused bytes n r f x y;
}
