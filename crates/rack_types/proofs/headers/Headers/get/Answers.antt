use Rattle.std.proofs.Common.{◌∙◌}
use Rattle.rack_types.proofs.HeaderLemmas.{header_place-position}
use Rattle.rack_types.proofs.headers.Headers.get.Goals as goal

pub returns : goal.returns
returns c =
    rw (← c.self.view_is) (c.get_index_of.ensures.index ∙ header_place-position c.args.name.now c.self.inside.map.entries)
