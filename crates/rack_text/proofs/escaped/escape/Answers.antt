use Rattle.std.proofs.Common.{◌≡◌, ◌∙◌, sym, [], rules}
use Rattle.std.proofs.lemmas.List.{nil_from_length}
use Rattle.rack_text.proofs.SpellingLemmas.{escaped-none, writes_more, writes_all}
use Rattle.rack_text.proofs.escaped.escape.Goals as goal

pub returns-then-is_empty-clause-written : goal.returns-then-is_empty-clause-written
returns-then-is_empty-clause-written c =
    let none : c.args.text.now ≡ [] = nil_from_length c.args.text.now (search rules) in
    rw (none, escaped-none) (search rules)

pub loop-at-preserved : goal.loop-at-preserved
loop-at-preserved c = writes_more _ _ _ _ _ _ _ c.loop-at.invariant (search rules)

pub returns-clause-written : goal.returns-clause-written
returns-clause-written c = writes_all c.args.text.now _ _ _ _ (sym c.is_empty.ensures ∙ c.if-is_empty.false) c.loop-at.invariant c.loop-at-test.false
