use Rattle.std.proofs.Common.{◌≡◌, ap, sym, ◌∙◌}
use Rattle.std.proofs.lemmas.Iterator.Consumers.{YieldsList-from_first, YieldsList-end}
use Rattle.form_urlencoded.specs.Form.{pair_text, raw_pairs}
use Rattle.form_urlencoded.specs.Parse.{raw_pairs_left}
use Rattle.stock_middleware.proofs.FormLemmas.{asked_among, asked_elsewhere, asked_here}
use Rattle.stock_middleware.proofs.form.last_asked.Goals as goal

pub loop-name-preserved-then-spells : goal.loop-name-preserved-then-spells
loop-name-preserved-then-spells c =
    asked_here c.loop-name.yielded c.in-Some.name c.in-Some.value (sym c.spells.ensures ∙ c.if-spells.true)

pub loop-name-preserved : goal.loop-name-preserved
loop-name-preserved c =
    c.loop-name.invariant ∙ asked_elsewhere c.loop-name.yielded c.in-Some.name c.in-Some.value (sym c.spells.ensures ∙ c.if-spells.false)

pub returns : goal.returns
returns c =
    let all = YieldsList-end (YieldsList-from_first pair_text raw_pairs_left (raw_pairs c.args.form.now) (cc)) c.loop-name.yielded c.loop-name.name-iterator c.loop-name.yielded_by c.next.result c.next.new.self c.in-None.is c.next.ensures.steps in
    c.loop-name.invariant ∙ ap asked_among all.0
