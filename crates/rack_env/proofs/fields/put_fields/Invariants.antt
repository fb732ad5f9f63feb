use Rattle.std.proofs.Common.{◌≡◌, codes, take}
use Rattle.std.specs.List.{fold}
use Rattle.rack_types.specs.Env.{with_pairs}
use Rattle.rack_env.specs.Placing.{place_field}
use Rattle.rack_env.proofs.fields.put_fields.Given as goal

abbrev pub invariant-loop-i : goal.invariant-loop-i
invariant-loop-i l = record {
  placed : l.env ≡ with_pairs l.fn.env (fold (place_field l.request.authority) l.fn.env.pairs (take l.i l.request.fields));
  begins : take 5 l.room.items ≡ codes "HTTP_";
}
