use Rattle.std.proofs.Common.{◌∙◌, ◌+◌, ap, sym, drop, Some}
use Rattle.stock_apps.specs.Words as spec
use Rattle.stock_apps.proofs.WordLemmas.{behind_all, rules_more, rules_none, rules_end}
use Rattle.stock_apps.proofs.words.rules_of.Goals as goal

pub returns-in_default : goal.returns-in_default
returns-in_default c = sym (rules_none c.args.texts.now _ _ _ c.loop-text-test.true
    (sym c.in_default.is ∙ c.rule_of.ensures ∙ ap spec.rule_of (c.get.ensures ∙ c.text-item.is)) c.loop-text.invariant)

pub loop-text-preserved : goal.loop-text-preserved
loop-text-preserved c =
    rules_more c.args.texts.now c.loop-text.text-index c.in-Some.number c.loop-text.numbers.items _ c.loop-text-test.true
    (sym c.in-Some.is ∙ c.rule_of.ensures ∙ ap spec.rule_of (c.get.ensures ∙ c.text-item.is)) c.loop-text.invariant
    ∙ ap (λ numbers. behind_all numbers (spec.rules_of (drop (c.loop-text.text-index + 1) c.args.texts.now))) (sym c.in_ok-push.ensures.items)

pub returns : goal.returns
returns c = ap Some c.new.ensures ∙ rules_end c.args.texts.now _ c.loop-text.numbers.items c.loop-text-test.false c.loop-text.invariant
