use Rattle.std.proofs.Common.{◌≡◌, ◌++◌, drop, map, take}
use Rattle.rack_env.specs.Fields.{name_byte}
use Rattle.rack_env.proofs.fields.raise.Given as goal

abbrev pub invariant-loop-byte : goal.invariant-loop-byte
invariant-loop-byte l = l.name ≡ map name_byte (take l.byte-index l.fn.name) ++ drop l.byte-index l.fn.name
