use Rattle.std.proofs.Common.{ap, ◌∙◌, codes}
use Rattle.stock_middleware.specs.Undo.{put_back}
use Rattle.builder_core.proofs.places.enter.Goals as goal

pub returns-clause-can : goal.returns-clause-can
returns-clause-can c =
    (c.in_ok-path_was.ensures.can, rw c.in_ok-path_was.ensures.back c.in_ok-script_was.ensures.can)

pub returns-clause-back : goal.returns-clause-back
returns-clause-back c =
    ap (put_back (codes "SCRIPT_NAME") c.in_ok-script_was.script_was) c.in_ok-path_was.ensures.back
    ∙ c.in_ok-script_was.ensures.back
