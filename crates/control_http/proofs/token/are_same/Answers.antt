use Rattle.std.proofs.Common.{◌∙◌, sym, arith}
use Rattle.control_http.proofs.TokenLemmas.{same-next, same-end}
use Rattle.control_http.proofs.token.are_same.Goals as goal

pub loop-i-preserved : goal.loop-i-preserved
loop-i-preserved c =
    c.loop-i.invariant ∙ same-next c.loop-i.i c.args.bytes.now c.args.token.now c.loop-i.same (omega arith) (omega arith)

pub returns : goal.returns
returns c = sym (c.loop-i.invariant ∙ same-end c.loop-i.i c.args.bytes.now c.args.token.now c.loop-i.same (omega arith) (omega arith))
