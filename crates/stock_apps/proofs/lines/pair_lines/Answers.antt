use Rattle.std.proofs.Common.{◌∙◌}
use Rattle.stock_apps.proofs.AppLemmas.{lines_more}
use Rattle.stock_apps.proofs.lines.pair_lines.Goals as goal

pub loop-i-preserved : goal.loop-i-preserved
loop-i-preserved c =
    c.in_ok-put_line.ensures ∙ lines_more c.loop-i.lines.items c.args.env.now.pairs c.loop-i.i c.name.result.now c.value.result.now c.name.ensures c.value.ensures c.loop-i.invariant
