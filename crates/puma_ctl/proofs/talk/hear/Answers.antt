use Rattle.std.proofs.Common.{◌∙◌, refl, arith}
use Rattle.puma_ctl.proofs.TalkLemmas.{hearing_first, hearing_more, hears_some, hearing_waited, heard_out, heard_end, nearer}
use Rattle.puma_ctl.proofs.talk.hear.Goals as goal

pub loop-n-init : goal.loop-n-init
loop-n-init g c = record {
  hearing = hearing_first _ c.args.text.now c.args.back.now c.args.waits c.requires.talked c.requires.few c.requires.none;
  same = refl;
}

pub take-requires : goal.take-requires
take-requires g c = record { awaits = c.loop-n.invariant.hearing.awaits }

pub returns-in-Some-clause-hears : goal.returns-in-Some-clause-hears
returns-in-Some-clause-hears g c =
    hears_some c.in-Some.heard _ _ c.args.text.now c.loop-n.back c.take.new.back _ c.prefix.result.now c.in-Bytes.n c.loop-n.waits c.loop-n.invariant.hearing
    c.in-Bytes.ensures.reads c.in-Bytes.ensures.keeps c.prefix.ensures c.in-Some.ensures

pub returns-in-Some-clause-same : goal.returns-in-Some-clause-same
returns-in-Some-clause-same g c = c.loop-n.invariant.same

pub loop-n-smaller-in_default : goal.loop-n-smaller-in_default
loop-n-smaller-in_default g c =
    nearer c.loop-n.back c.take.new.back _ c.prefix.result.now c.in-Bytes.n c.loop-n.waits c.in_default.ensures.0 c.prefix.ensures
    c.in-Bytes.ensures.reads.0 c.in-Bytes.ensures.reads.1 c.in_default.ensures.2

pub loop-n-preserved-in_default : goal.loop-n-preserved-in_default
loop-n-preserved-in_default g c = record {
  hearing = hearing_more _ _ c.args.text.now c.loop-n.back c.take.new.back _ c.prefix.result.now c.in-Bytes.n c.loop-n.waits c.loop-n.invariant.hearing
      c.in-Bytes.ensures.reads c.in-Bytes.ensures.keeps c.prefix.ensures c.in_default.ensures;
  same = c.loop-n.invariant.same;
}

pub overflow_add-waits : goal.overflow_add-waits
overflow_add-waits g c = omega (arith, c.loop-n.invariant.hearing.few)

pub returns-then-waits-ge-PAUSES-clause-hears : goal.returns-then-waits-ge-PAUSES-clause-hears
returns-then-waits-ge-PAUSES-clause-hears g c =
    heard_out _ _ c.args.text.now c.loop-n.back c.read.new.room c.loop-n.waits c.loop-n.invariant.hearing c.in-NotYet.ensures.reads c.if-waits-ge-PAUSES.true

pub returns-then-waits-ge-PAUSES-clause-same : goal.returns-then-waits-ge-PAUSES-clause-same
returns-then-waits-ge-PAUSES-clause-same g c = c.pause.ensures ∙ c.loop-n.invariant.same

pub loop-n-smaller : goal.loop-n-smaller
loop-n-smaller g c = omega (arith, c.loop-n.invariant.hearing.few)

pub loop-n-preserved : goal.loop-n-preserved
loop-n-preserved g c = record {
  hearing = hearing_waited _ _ c.args.text.now c.loop-n.back c.read.new.room c.loop-n.waits c.loop-n.invariant.hearing c.in-NotYet.ensures.reads c.in-NotYet.ensures.keeps
      c.if-waits-ge-PAUSES.false;
  same = c.pause.ensures ∙ c.loop-n.invariant.same;
}

pub returns-in-End-clause-hears : goal.returns-in-End-clause-hears
returns-in-End-clause-hears g c = heard_end _ _ c.args.text.now c.loop-n.back c.read.new.room c.loop-n.waits c.loop-n.invariant.hearing c.in-End.ensures.reads

pub returns-in-End-clause-same : goal.returns-in-End-clause-same
returns-in-End-clause-same g c = c.loop-n.invariant.same

pub returns-in-Failed-clause-same : goal.returns-in-Failed-clause-same
returns-in-Failed-clause-same g c = c.loop-n.invariant.same
