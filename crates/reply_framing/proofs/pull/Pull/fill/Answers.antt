use Rattle.std.proofs.Common.{◌≡◌, ◌<◌, ◌∙◌}
use Rattle.std.proofs.lemmas.Result.{err_from_is_err_and}
use Rattle.reply_framing.specs.declared.types.Form.TheVariants.{Bare}
use Rattle.reply_framing.specs.declared.pull.Stage.TheVariants.{Pulling, Ended}
use Rattle.reply_framing.specs.Pull.{TakesOne, rest_of, asks_left}
use Rattle.reply_framing.proofs.FillLemmas.{so_far_none, so_far_appended, so_far_taken, fills_full, fills_done, fills_broke, fills_err}
use Rattle.reply_framing.proofs.pull.Pull.fill.Goals as goal

pub loop-rule-init : goal.loop-rule-init
loop-rule-init g c = record {
  within = c.requires;
  so_far = so_far_none (rest_of g.B.Body.content g.B.Body.taken c.args.self.now) c.args.ring.now;
}

pub returns-then-not-append-clause-fills : goal.returns-then-not-append-clause-fills
returns-then-not-append-clause-fills g c =
    let content = g.B.Body.content in
    let taken = g.B.Body.taken in
    let o = rest_of content taken c.args.self.now in
    let same = c.append.ensures.same in
    let so = so_far_appended content taken o c.loop-rule.self c.append.new.self c.args.ring.now c.loop-rule.ring c.append.new.ring
    c.loop-rule.invariant.so_far same.0 same.1 same.2 same.3 c.append.ensures.appends in
    fills_full content taken o c.append.new.self c.args.ring.now c.append.new.ring so c.if-not-append.ensures.answer

pub returns-in-Ended-clause-fills : goal.returns-in-Ended-clause-fills
returns-in-Ended-clause-fills g c =
    let content = g.B.Body.content in
    let taken = g.B.Body.taken in
    let o = rest_of content taken c.args.self.now in
    let same = c.append.ensures.same in
    let so = so_far_appended content taken o c.loop-rule.self c.append.new.self c.args.ring.now c.loop-rule.ring c.append.new.ring
    c.loop-rule.invariant.so_far same.0 same.1 same.2 same.3 c.append.ensures.appends in
    fills_done content taken o c.append.new.self c.args.ring.now c.append.new.ring so c.if-not-append.ensures.answer c.in-Ended.is

pub returns-in-Broken-clause-fills : goal.returns-in-Broken-clause-fills
returns-in-Broken-clause-fills g c =
    let content = g.B.Body.content in
    let taken = g.B.Body.taken in
    let o = rest_of content taken c.args.self.now in
    let same = c.append.ensures.same in
    let so = so_far_appended content taken o c.loop-rule.self c.append.new.self c.args.ring.now c.loop-rule.ring c.append.new.ring
    c.loop-rule.invariant.so_far same.0 same.1 same.2 same.3 c.append.ensures.appends in
    fills_broke content taken o c.append.new.self c.in-Broken.rule c.args.ring.now c.append.new.ring so c.if-not-append.ensures.answer c.in-Broken.is

pub loop-rule-preserved : goal.loop-rule-preserved
loop-rule-preserved g c =
    let content = g.B.Body.content in
    let taken = g.B.Body.taken in
    let o = rest_of content taken c.args.self.now in
    let same = c.append.ensures.same in
    let so = so_far_appended content taken o c.loop-rule.self c.append.new.self c.args.ring.now c.loop-rule.ring c.append.new.ring
    c.loop-rule.invariant.so_far same.0 same.1 same.2 same.3 c.append.ensures.appends in
    let takes : TakesOne (rest_of content taken c.append.new.self) (rest_of content taken c.pull.new.self) × (asks_left content taken c.pull.new.self < asks_left content taken c.append.new.self) =
    c.in_ok-pull-in-Pulling.ensures.takes in
    let ended : o.form ≡ Bare → c.append.new.self.stage ≡ Ended = λ bare. c.append.ensures.within.bare (so.form ∙ bare) in
    let sent : ¬ (o.form ≡ Bare) = λ bare. let e : c.append.new.self.stage ≡ Ended = ended bare in let p : c.append.new.self.stage ≡ Pulling = c.in-Pulling.is in cc in
    record {
      within = c.in_ok-pull-in-Pulling.ensures.within;
      so_far = so_far_taken o (rest_of content taken c.append.new.self) (rest_of content taken c.pull.new.self) c.args.ring.now c.append.new.ring so takes.0 sent;
    }

pub returns-in_err-pull-in-Pulling-clause-fills : goal.returns-in_err-pull-in-Pulling-clause-fills
returns-in_err-pull-in-Pulling-clause-fills g c =
    let content = g.B.Body.content in
    let taken = g.B.Body.taken in
    let o = rest_of content taken c.args.self.now in
    let same = c.append.ensures.same in
    let so = so_far_appended content taken o c.loop-rule.self c.append.new.self c.args.ring.now c.loop-rule.ring c.append.new.ring
    c.loop-rule.invariant.so_far same.0 same.1 same.2 same.3 c.append.ensures.appends in
    let p = err_from_is_err_and c.from_residual.result c.from_residual.ensures.1 in
    rw p.1 (fills_err o (rest_of content taken c.append.new.self) (rest_of content taken c.pull.new.self) p.0 c.args.ring.now c.append.new.ring so
    c.in_err-pull-in-Pulling.ensures.takes.0 c.in_err-pull-in-Pulling.ensures.takes.1)
