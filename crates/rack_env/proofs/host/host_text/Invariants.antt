use Rattle.std.proofs.Common.{◌≡◌, take, codes, []}
use Rattle.rack_types.specs.Fields.{values_of}
use Rattle.rack_env.proofs.host.host_text.Given as goal

abbrev pub invariant-loop-i : goal.invariant-loop-i
invariant-loop-i l = values_of (codes "host") (take l.i l.request.fields) ≡ []
