use Rattle.message_framing.proofs.IntakeLemmas.{refused_rightly}
use Rattle.message_framing.proofs.laws.what_stands.Goals as goal

pub returns-clause-lacks : goal.returns-clause-lacks
returns-clause-lacks c = λ lacks. refused_rightly _ _ _ _ c.feed.result c.feed.ensures.answers c.requires lacks
