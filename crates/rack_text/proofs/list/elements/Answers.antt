use Rattle.rack_text.proofs.ListLemmas.{length-elements}
use Rattle.rack_text.proofs.list.elements.Goals as goal

pub returns-clause-few : goal.returns-clause-few
returns-clause-few c = length-elements c.args.value.now
