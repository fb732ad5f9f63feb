use Rattle.std.proofs.Common.{arith}
use Rattle.rack_text.proofs.EscapedLemmas.{reads_as, reads_byte, reads_none, spelled_at-backslash, spelled_at-other}
use Rattle.rack_text.proofs.escaped.first_spelled.Goals as goal

pub returns-then-bytes-eq92 : goal.returns-then-bytes-eq92
returns-then-bytes-eq92 c =
    reads_as c.first_behind.result _ _ c.args.bytes.now (spelled_at-backslash c.args.bytes.now c.requires c.if-bytes-eq92.true) c.first_behind.ensures

pub returns-in-Some : goal.returns-in-Some
returns-in-Some c =
    reads_byte _ c.args.bytes.now _ c.in-Some.byte 1 (spelled_at-other c.args.bytes.now c.requires c.if-bytes-eq92.false) c.in-Some.ensures (omega arith) c.requires

pub returns-in-None : goal.returns-in-None
returns-in-None c = reads_none _ _ c.args.bytes.now _ (spelled_at-other c.args.bytes.now c.requires c.if-bytes-eq92.false) c.in-None.ensures
