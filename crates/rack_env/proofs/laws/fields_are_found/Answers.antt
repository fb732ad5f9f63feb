use Rattle.rack_env.proofs.FoundLemmas.{field_found, authority_found}
use Rattle.rack_env.proofs.laws.fields_are_found.Goals as goal

pub returns : goal.returns
returns c = record { value = field_found; authority = authority_found }
