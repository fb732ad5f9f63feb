-- What the answers of a watch say of the break of a body.
use Rattle.std.specs.Prelude.{Option, Some, None, option_map}
use Rattle.rack_types.specs.declared.rules.BodyRule.{BodyRule}
use Rattle.rack_types.specs.BodyRules.{Break, a_piece_later}

-- the break at the place that is reached
abbrev pub at_the_end : BodyRule → Break
at_the_end rule = record { place = 0; rule = rule }

-- the break is at the piece that is looked at, where it breaks a rule; else it is one of what follows
abbrev pub here_or_later : Option BodyRule → Option Break → Option Break
here_or_later (Some rule) later = Some (at_the_end rule)
here_or_later None later = option_map a_piece_later later
