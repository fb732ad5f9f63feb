use Rattle.std.proofs.Common.{◌∙◌, refl, arith, ap, length, length-drop}
use Rattle.puma_ctl.proofs.TalkLemmas.{saying_first, saying_took, saying_waited, saying_out, said}
use Rattle.puma_ctl.proofs.talk.say.Goals as goal

pub loop-from-init : goal.loop-from-init
loop-from-init g c = record { saying = saying_first _ c.args.text.now c.requires.fresh; same = refl }

pub loop-from-preserved-in-Took : goal.loop-from-preserved-in-Took
loop-from-preserved-in-Took g c = record {
  saying = saying_took _ _ c.args.text.now c.suffix.result.now c.loop-from.from c.loop-from.waits c.in-Took.n c.loop-from.invariant.saying c.suffix.ensures
      c.in-Took.ensures.writes c.in-Took.ensures.keeps;
  same = c.loop-from.invariant.same;
}

pub overflow_add-waits : goal.overflow_add-waits
overflow_add-waits g c = omega (arith, c.loop-from.invariant.saying.few)

pub returns-then-waits-ge-PAUSES-clause-says : goal.returns-then-waits-ge-PAUSES-clause-says
returns-then-waits-ge-PAUSES-clause-says g c =
    saying_out (g.D.Link.Link.seen c.loop-from.link) (g.D.Link.Link.seen c.write.new.self) c.args.text.now c.suffix.result.now c.loop-from.from c.loop-from.waits c.loop-from.invariant.saying c.in-NotYet.ensures.writes
    c.if-waits-ge-PAUSES.true

pub returns-then-waits-ge-PAUSES-clause-same : goal.returns-then-waits-ge-PAUSES-clause-same
returns-then-waits-ge-PAUSES-clause-same g c = c.pause.ensures ∙ c.loop-from.invariant.same

pub loop-from-smaller : goal.loop-from-smaller
loop-from-smaller g c = omega (arith, c.loop-from.invariant.saying.few)

pub loop-from-preserved : goal.loop-from-preserved
loop-from-preserved g c = record {
  saying = saying_waited _ _ c.args.text.now c.suffix.result.now c.loop-from.from c.loop-from.waits c.loop-from.invariant.saying c.in-NotYet.ensures.writes
      c.in-NotYet.ensures.keeps c.if-waits-ge-PAUSES.false;
  same = c.pause.ensures ∙ c.loop-from.invariant.same;
}

pub returns-in-Failed-clause-same : goal.returns-in-Failed-clause-same
returns-in-Failed-clause-same g c = c.loop-from.invariant.same

pub returns-in-NoMemory-clause-same : goal.returns-in-NoMemory-clause-same
returns-in-NoMemory-clause-same g c = c.loop-from.invariant.same

pub returns-clause-says : goal.returns-clause-says
returns-clause-says g c = said _ c.args.text.now c.loop-from.from c.loop-from.waits c.loop-from.invariant.saying c.loop-from-test.false

pub returns-clause-same : goal.returns-clause-same
returns-clause-same g c = c.loop-from.invariant.same
