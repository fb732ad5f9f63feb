use Rattle.std.proofs.Common.{◌∙◌, ◌+◌, ap, sym, drop}
use Rattle.rack_text.specs.Escaped.{unescaped}
use Rattle.stack_file.specs.Said as spec
use Rattle.stack_file.proofs.LineLemmas.{behind_all, texts_more, texts_none, texts_end}
use Rattle.stack_file.proofs.texts.texts_of.Goals as goal

pub returns-in_default : goal.returns-in_default
returns-in_default c = sym (texts_none c.args.words.now _ _ _ c.loop-word-test.true
    (sym c.in_default.is ∙ c.in_ok-text.ensures ∙ ap unescaped (c.get.ensures ∙ c.word-item.is)) c.loop-word.invariant)

pub loop-word-preserved : goal.loop-word-preserved
loop-word-preserved c =
    texts_more c.args.words.now c.loop-word.word-index c.in-Some.text c.loop-word.texts.items _ c.loop-word-test.true
    (sym c.in-Some.is ∙ c.in_ok-text.ensures ∙ ap unescaped (c.get.ensures ∙ c.word-item.is)) c.loop-word.invariant
    ∙ ap (λ texts. behind_all texts (spec.texts_of (drop (c.loop-word.word-index + 1) c.args.words.now))) (sym c.in_ok-push.ensures.items)

pub returns : goal.returns
returns c = texts_end c.args.words.now _ c.loop-word.texts.items c.loop-word-test.false c.loop-word.invariant
