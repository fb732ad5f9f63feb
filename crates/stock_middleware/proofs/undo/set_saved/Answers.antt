use Rattle.stock_middleware.proofs.UndoLemmas.{put_back-set_pair, CanPutBack-set_pair}
use Rattle.stock_middleware.proofs.undo.set_saved.Goals as goal

pub returns-clause-can : goal.returns-clause-can
returns-clause-can c = rw c.in_ok-was.ensures.changed (CanPutBack-set_pair _ _ _ _)

pub returns-clause-back : goal.returns-clause-back
returns-clause-back c =
    rw (c.in_ok-was.ensures.changed, c.in_ok-was.ensures.saved) (put_back-set_pair _ _ _)
