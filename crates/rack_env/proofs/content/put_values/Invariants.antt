use Rattle.std.proofs.Common.{◌≡◌, take}
use Rattle.rack_types.specs.Env.{with_pairs}
use Rattle.rack_types.specs.Fields.{values_of}
use Rattle.rack_env.specs.Placing.{join_values}
use Rattle.rack_env.proofs.content.put_values.Given as goal

abbrev pub invariant-loop-i : goal.invariant-loop-i
invariant-loop-i l =
    l.env ≡ with_pairs l.fn.env (join_values l.name l.fn.env.pairs (values_of l.field (take l.i l.request.fields)))
