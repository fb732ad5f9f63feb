use Rattle.std.proofs.Common.{map, take}
use Rattle.std.specs.Prelude.{codes}
use Rattle.httparse.specs.Spans.{header_bytes}
use Rattle.rack_types.specs.Fields.{values_of}
use Rattle.puma_ctl.specs.Back.{OccursAs}
use Rattle.puma_ctl.proofs.head.stated_length.Given as goal

abbrev pub invariant-loop-i : goal.invariant-loop-i
invariant-loop-i l = OccursAs l.found (values_of (codes "content-length") (map (header_bytes l.text) (take l.i l.places)))
