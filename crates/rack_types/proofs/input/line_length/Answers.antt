use Rattle.std.proofs.Common.{◌≡◌, ap, arith, length, sym, suc, take, add-one}
use Rattle.std.proofs.lemmas.List.{take_all, length-take-le}
use Rattle.rack_types.specs.Input.{first_line}
use Rattle.rack_types.proofs.Lines.{first_line-found, first_line-none}
use Rattle.rack_types.proofs.input.line_length.Goals as goal

pub returns-then-byte-eq10-clause-length : goal.returns-then-byte-eq10-clause-length
returns-then-byte-eq10-clause-length c =
    let found : first_line c.args.bytes.now ≡ take (suc c.loop-i.i) c.args.bytes.now = first_line-found c.args.bytes.now c.loop-i.i c.loop-i-test.true c.loop-i.invariant c.if-byte-eq10.true in
    omega (arith, ap length found, length-take-le (suc c.loop-i.i) c.args.bytes.now (omega arith))

pub returns-then-byte-eq10-clause-line : goal.returns-then-byte-eq10-clause-line
returns-then-byte-eq10-clause-line c =
    rw add-one (sym (first_line-found c.args.bytes.now c.loop-i.i c.loop-i-test.true c.loop-i.invariant c.if-byte-eq10.true))

pub returns-clause-length : goal.returns-clause-length
returns-clause-length c =
    rw (first_line-none c.args.bytes.now (λ k within. c.loop-i.invariant k (omega arith)))

pub returns-clause-line : goal.returns-clause-line
returns-clause-line c =
    rw (first_line-none c.args.bytes.now (λ k within. c.loop-i.invariant k (omega arith))) (take_all _ _ (omega arith))
