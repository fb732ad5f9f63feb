use Rattle.std.proofs.Common.{sym}
use Rattle.control_http.proofs.ServeLemmas.{serves_busy}
use Rattle.control_http.proofs.restart.restart.Goals as goal

pub returns-in-Some-clause-serves : goal.returns-in-Some-clause-serves
returns-in-Some-clause-serves g c =
    serves_busy c.say_busy.result _ _ c.args.master.now _ _ (sym c.in-Some.ensures) c.say_busy.ensures
