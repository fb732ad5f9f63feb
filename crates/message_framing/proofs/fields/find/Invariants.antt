use Rattle.std.proofs.Common.{map, take}
use Rattle.httparse.specs.Spans.{header_bytes}
use Rattle.message_framing.specs.Found.{FoundAs}
use Rattle.message_framing.proofs.fields.find.Given as goal

abbrev pub invariant-loop-i : goal.invariant-loop-i
invariant-loop-i l = FoundAs l.found (map (header_bytes l.text) (take l.i l.places))
