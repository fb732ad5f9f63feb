use Rattle.std.proofs.Common.{◌≡◌, [], codes, take}
use Rattle.rack_types.specs.Fields.{values_of}
use Rattle.rack_env.proofs.content.first_content.Given as goal

abbrev pub invariant-loop-i : goal.invariant-loop-i
invariant-loop-i l = record {
  types : values_of (codes "content-type") (take l.i l.request.fields) ≡ [];
  lengths : values_of (codes "content-length") (take l.i l.request.fields) ≡ [];
}
