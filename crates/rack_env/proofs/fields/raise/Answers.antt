use Rattle.rack_env.proofs.RaiseLemmas.{all_mapped, one_more}
use Rattle.rack_env.proofs.fields.raise.Goals as goal

pub loop-byte-preserved : goal.loop-byte-preserved
loop-byte-preserved c =
    one_more c.loop-byte.name c.args.name.now c.loop-byte.byte-index c.name_byte.result c.loop-byte.invariant c.loop-byte-test.true c.name_byte.ensures

pub returns : goal.returns
returns c =
    all_mapped c.loop-byte.name c.args.name.now c.loop-byte.byte-index c.loop-byte.invariant c.loop-byte-test.false
