use Rattle.message_framing.proofs.SkipLemmas.{skip_feed, skip_return, skip_to_end, skip_to_letter, skip_to_return, skip_to_last_return}
use Rattle.message_framing.proofs.scan.skip.Goals as goal
use Rattle.message_framing.proofs.scan.skip.Goals.{else-bytes-at-eq13-via-then-bytes-at-eq13+then-at-bytes+else-bytes-at-eq10-2, else-bytes-at-eq13-via-then-bytes-at-eq13+else-at-bytes, else-bytes-at-eq13-via-else-bytes-at-eq13}

pub loop-at-preserved-then-bytes-at-eq10 : goal.loop-at-preserved-then-bytes-at-eq10
loop-at-preserved-then-bytes-at-eq10 c = skip_feed _ _ c.loop-at.invariant c.loop-at-test.true c.if-bytes-at-eq10.true

pub loop-at-preserved : goal.loop-at-preserved
loop-at-preserved c = skip_return _ _ c.loop-at.invariant c.if-at-bytes.true c.if-bytes-at-eq13.true c.if-bytes-at-eq10-2.true

pub returns-after-loop-at-clause-value : goal.returns-after-loop-at-clause-value
returns-after-loop-at-clause-value c = skip_to_end _ _ c.loop-at.invariant c.loop-at-test.false

pub returns-else-bytes-at-eq13-clause-value : goal.returns-else-bytes-at-eq13-clause-value
returns-else-bytes-at-eq13-clause-value c = elim c.else-bytes-at-eq13.branch [
  | else-bytes-at-eq13-via-then-bytes-at-eq13+then-at-bytes+else-bytes-at-eq10-2 w ↦
      skip_to_return _ _ c.loop-at.invariant w.if-at-bytes.true c.if-bytes-at-eq10.false w.if-bytes-at-eq13.true w.if-bytes-at-eq10-2.false
  | else-bytes-at-eq13-via-then-bytes-at-eq13+else-at-bytes w ↦
      skip_to_last_return _ _ c.loop-at.invariant c.loop-at-test.true w.if-at-bytes.false c.if-bytes-at-eq10.false
  | else-bytes-at-eq13-via-else-bytes-at-eq13 w ↦
      skip_to_letter _ _ c.loop-at.invariant c.loop-at-test.true c.if-bytes-at-eq10.false w.if-bytes-at-eq13.false
]
