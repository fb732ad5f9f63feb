use Rattle.std.proofs.Common.{sym, ◌∙◌, subst}
use Rattle.message_framing.specs.declared.scan.Line.{Line}
use Rattle.message_framing.proofs.ScanPieceLemmas.{IsScanned, IsReady, scan_is_over, scan_without_feed, ready_at_feed, ready_here, ready_step}
use Rattle.message_framing.proofs.ScanLemmas.{ended_behind}
use Rattle.message_framing.proofs.scan.Line.scan.Goals as goal
use Rattle.message_framing.proofs.scan.Line.scan.Goals.{in-Text+in-Some, in_default}

pub returns-in-None-clause-end : goal.returns-in-None-clause-end
returns-in-None-clause-end c =
    let text = subst (λ (l : Line). IsScanned c.args.self.now l c.args.piece.now c.loop-i.i) c.in-Text.is c.loop-i.invariant in
    sym (scan_without_feed _ _ _ _ text c.suffix.ensures c.in-None.ensures).0

pub returns-in-None-clause-line : goal.returns-in-None-clause-line
returns-in-None-clause-line c =
    let text = subst (λ (l : Line). IsScanned c.args.self.now l c.args.piece.now c.loop-i.i) c.in-Text.is c.loop-i.invariant in
    c.in-Text.is ∙ sym (scan_without_feed _ _ _ _ text c.suffix.ensures c.in-None.ensures).1

pub returns-in-Ended-clause-end : goal.returns-in-Ended-clause-end
returns-in-Ended-clause-end c =
    let ready : IsReady c.args.self.now c.loop-i.self c.args.piece.now c.match-self.i = elim c.match-self.branch [
      | in-Text+in-Some w ↦
          ready_at_feed _ _ _ _ _ _ _ c.loop-i.invariant w.in-Text.is w.suffix.ensures w.in-Some.ensures.0.high w.in-Some.ensures.0.before w.i-is
      | in_default w ↦ ready_here _ _ _ _ _ c.loop-i.invariant c.loop-i-test.true w.i-is
    ] in
    (ready_step _ _ _ _ _ ready c.next.ensures).0 c.in-Ended.is

pub returns-in-Ended-clause-line : goal.returns-in-Ended-clause-line
returns-in-Ended-clause-line c =
    let ready : IsReady c.args.self.now c.loop-i.self c.args.piece.now c.match-self.i = elim c.match-self.branch [
      | in-Text+in-Some w ↦
          ready_at_feed _ _ _ _ _ _ _ c.loop-i.invariant w.in-Text.is w.suffix.ensures w.in-Some.ensures.0.high w.in-Some.ensures.0.before w.i-is
      | in_default w ↦ ready_here _ _ _ _ _ c.loop-i.invariant c.loop-i-test.true w.i-is
    ] in
    c.in-Ended.is ∙ sym (ended_behind _ _ _ (sym ((ready_step _ _ _ _ _ ready c.next.ensures).0 c.in-Ended.is)))

pub loop-i-preserved : goal.loop-i-preserved
loop-i-preserved c =
    let ready : IsReady c.args.self.now c.loop-i.self c.args.piece.now c.match-self.i = elim c.match-self.branch [
      | in-Text+in-Some w ↦
          ready_at_feed _ _ _ _ _ _ _ c.loop-i.invariant w.in-Text.is w.suffix.ensures w.in-Some.ensures.0.high w.in-Some.ensures.0.before w.i-is
      | in_default w ↦ ready_here _ _ _ _ _ c.loop-i.invariant c.loop-i-test.true w.i-is
    ] in
    (ready_step _ _ _ _ _ ready c.next.ensures).1 c.in_default-self.not-Ended

pub returns-clause-end : goal.returns-clause-end
returns-clause-end c = sym (scan_is_over _ _ _ _ c.loop-i.invariant c.loop-i-test.false).0

pub returns-clause-line : goal.returns-clause-line
returns-clause-line c = sym (scan_is_over _ _ _ _ c.loop-i.invariant c.loop-i-test.false).1
