use Rattle.std.proofs.Common.{◌≤◌, arith, length}
use Rattle.rack_text.proofs.EscapedLemmas.{behind_at-none, behind_at-other, behind_at-x, reads_as, reads_byte, reads_none}
use Rattle.rack_text.proofs.escaped.first_behind.Goals as goal

pub returns-then-bytes-lt2 : goal.returns-then-bytes-lt2
returns-then-bytes-lt2 c = behind_at-none c.args.bytes.now c.if-bytes-lt2.true

pub returns-then-bytes-eq120 : goal.returns-then-bytes-eq120
returns-then-bytes-eq120 c =
    reads_as c.first_hex.result _ _ c.args.bytes.now (behind_at-x c.args.bytes.now (omega arith) c.if-bytes-eq120.true) c.first_hex.ensures

pub returns-in-Some : goal.returns-in-Some
returns-in-Some c =
    let two : 2 ≤ length c.args.bytes.now = omega arith in
    reads_byte _ c.args.bytes.now _ c.in-Some.byte 2 (behind_at-other c.args.bytes.now two c.if-bytes-eq120.false) c.in-Some.ensures (omega arith) two

pub returns-in-None : goal.returns-in-None
returns-in-None c = reads_none _ _ c.args.bytes.now _ (behind_at-other c.args.bytes.now (omega arith) c.if-bytes-eq120.false) c.in-None.ensures
