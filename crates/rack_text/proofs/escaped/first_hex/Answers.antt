use Rattle.std.proofs.Common.{◌≤◌, arith, length}
use Rattle.rack_text.proofs.EscapedLemmas.{hex_at-none, hex_at-two, reads_byte, reads_none}
use Rattle.rack_text.proofs.escaped.first_hex.Goals as goal

pub returns-then-bytes-lt4 : goal.returns-then-bytes-lt4
returns-then-bytes-lt4 c = hex_at-none c.args.bytes.now c.if-bytes-lt4.true

pub returns-in-Some : goal.returns-in-Some
returns-in-Some c =
    let four : 4 ≤ length c.args.bytes.now = omega arith in
    reads_byte _ c.args.bytes.now _ c.in-Some.byte 4 (hex_at-two c.args.bytes.now four) c.in-Some.ensures (omega arith) four

pub returns-in-None : goal.returns-in-None
returns-in-None c = reads_none _ _ c.args.bytes.now _ (hex_at-two c.args.bytes.now (omega arith)) c.in-None.ensures
