use Rattle.std.proofs.Common.{◌≡◌, ◌≤◌, false, length, drop}
use Rattle.std.specs.Fmt.{digits, digits_onto}
use Rattle.rack_text.proofs.number.put_hex.Given as goal

-- the digits of what is left, before those that are written, are the digits of the number
abbrev pub invariant-loop-start : goal.invariant-loop-start
invariant-loop-start l = record {
  within : l.start ≤ 64;
  size : length l.room ≡ 64;
  digits_are : digits_onto l.start 16 false l.rest (drop l.start l.room) ≡ digits 16 false l.n;
}

abbrev pub decreases-loop-start : goal.decreases-loop-start
decreases-loop-start l = l.start
