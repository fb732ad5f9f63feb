use Rattle.std.proofs.Common.{◌≡◌, ◌<◌, ◌∷◌, length, sym, ap, ◌∙◌, rules}
use Rattle.std.proofs.lemmas.List.{nil_from_length}
use Rattle.rack_text.specs.Lists.{elements}
use Rattle.rack_text.proofs.ListLemmas.{elements-nil, elements_skip, elements_first}
use Rattle.rack_text.proofs.list.ListElementsIterator.next.Goals as goal

first_element : (c : goal.Then-not-is_empty) → c.args.self.now ≡ c.trimmed-element.result.now ∷ elements c.split_at_comma.result.1.now
first_element c =
    let some : 0 < length c.trimmed-element.result.now = search rules in
    let part = c.split_at_comma.ensures in
    let element = c.trimmed-element.ensures in
    let first = elements_first c.loop-self.self-inside.rest.now (rw (← part.before, ← element) some) in
    sym c.self.view_is ∙ sym c.loop-self.invariant ∙ rw (element, part.before, part.after) first

pub returns-then-not-is_empty-clause-steps : goal.returns-then-not-is_empty-clause-steps
returns-then-not-is_empty-clause-steps c = first_element c

pub returns-then-not-is_empty-clause-goes : goal.returns-then-not-is_empty-clause-goes
returns-then-not-is_empty-clause-goes c =
    let shorter = ap length (first_element c) in
    search rules

pub loop-self-preserved : goal.loop-self-preserved
loop-self-preserved c =
    let empty : length c.trimmed-element.result.now ≡ 0 = search rules in
    let part = c.split_at_comma.ensures in
    let element = c.trimmed-element.ensures in
    let skipped = elements_skip c.loop-self.self-inside.rest.now (rw (← part.before, ← element) empty) in
    rw part.after (sym skipped ∙ c.loop-self.invariant)

pub returns-clause-steps : goal.returns-clause-steps
returns-clause-steps c =
    let ended = nil_from_length c.loop-self.self-inside.rest.now (search rules) in
    let none = ap elements ended ∙ elements-nil in
    (sym c.self.view_is ∙ sym c.loop-self.invariant ∙ none, none)
