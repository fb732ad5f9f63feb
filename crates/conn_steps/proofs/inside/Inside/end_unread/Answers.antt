use Rattle.std.proofs.Common.{refl, sym}
use Rattle.talk_core.specs.declared.ended.Why.TheVariants as why
use Rattle.conn_steps.specs.declared.at.At.TheVariants as at
use Rattle.conn_steps.proofs.UnreadLemmas.{ends_unread}
use Rattle.conn_steps.proofs.AtLemmas.{stands_place}
use Rattle.conn_steps.proofs.inside.Inside.end_unread.Goals as goal

pub returns-clause-holds : goal.returns-clause-holds
returns-clause-holds g c = λ V T s h.
    stands_place (at.Over (why.Unread c.args.level)) c.put.new.at V T s c.args.self.now.peer _ (sym c.put.ensures)
    (ends_unread V T s c.args.self.now _ c.args.level c.requires.unread.0 c.requires.unread.1 c.requires.level refl refl refl h)
