use Rattle.rack_text.proofs.EscapedLemmas.{reads_all}
use Rattle.rack_text.proofs.escaped.append_spelled.Goals as goal

pub returns-clause-text : goal.returns-clause-text
returns-clause-text c = reads_all c.args.word.now _ _ _ _ c.loop-at.invariant c.loop-at-test.false
