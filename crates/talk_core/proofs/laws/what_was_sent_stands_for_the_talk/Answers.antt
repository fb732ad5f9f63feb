use Rattle.talk_core.specs.Teller.{tell}
use Rattle.talk_core.proofs.LastLemmas.{tell_never_keeps}
use Rattle.talk_core.proofs.LawLemmas.{partly_stands}
use Rattle.talk_core.proofs.laws.what_was_sent_stands_for_the_talk.Goals as goal

pub returns : goal.returns
returns g c = λ V S lives local peer over given sent calls closing.
    partly_stands V (tell S lives local peer closing) over given sent calls closing (tell_never_keeps S lives local peer closing)
