use Rattle.std.proofs.Common.{sym, ◌∙◌}
use Rattle.puma_ctl.proofs.HeadLemmas.{within_inside}
use Rattle.puma_ctl.proofs.FoundLemmas.{coming, endless, has_head, near_end, no_head}
use Rattle.puma_ctl.proofs.back.found_in.Goals as goal

pub returns-then-bytes-lt-HEAD_LIMIT : goal.returns-then-bytes-lt-HEAD_LIMIT
returns-then-bytes-lt-HEAD_LIMIT c =
    coming c.args.bytes.now (near_end c.args.bytes.now c.prefix.result.now c.min.result _ c.min.ensures c.prefix.ensures c.in_default.ensures)
    c.if-bytes-lt-HEAD_LIMIT.true

pub returns-else-bytes-lt-HEAD_LIMIT : goal.returns-else-bytes-lt-HEAD_LIMIT
returns-else-bytes-lt-HEAD_LIMIT c =
    endless c.args.bytes.now (near_end c.args.bytes.now c.prefix.result.now c.min.result _ c.min.ensures c.prefix.ensures c.in_default.ensures)
    c.if-bytes-lt-HEAD_LIMIT.false

pub prefix-head-requires : goal.prefix-head-requires
prefix-head-requires c =
    (within_inside c.args.bytes.now c.in-Some.end
    (sym (near_end c.args.bytes.now c.prefix.result.now c.min.result _ c.min.ensures c.prefix.ensures c.in-Some.ensures))).0

pub body_in-requires : goal.body_in-requires
body_in-requires c =
    has_head c.args.bytes.now c.prefix-head.result.now c.suffix.result.now c.in-Some.end c.skip.result _ _
    (near_end c.args.bytes.now c.prefix.result.now c.min.result _ c.min.ensures c.prefix.ensures c.in-Some.ensures)
    c.prefix-head.ensures c.skip.ensures.value c.suffix.ensures c.in-Some-read_head.ensures.head

pub returns-in-None : goal.returns-in-None
returns-in-None c =
    no_head c.args.bytes.now c.prefix-head.result.now c.suffix.result.now c.in-Some.end c.skip.result
    (near_end c.args.bytes.now c.prefix.result.now c.min.result _ c.min.ensures c.prefix.ensures c.in-Some.ensures)
    c.prefix-head.ensures c.skip.ensures.value c.suffix.ensures c.in-None.ensures.none
