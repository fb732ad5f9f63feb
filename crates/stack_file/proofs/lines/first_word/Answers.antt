use Rattle.std.proofs.Common.{[], ◌≡◌, ◌<◌, length, sym, ◌∙◌, arith, rules}
use Rattle.std.proofs.lemmas.List.Sums.{position_or_len_is}
use Rattle.std.proofs.lemmas.List.{take_rest, drop_all, nil_from_length}
use Rattle.stack_file.proofs.LineLemmas.{is_space, words_nothing, word_found, word_alone}
use Rattle.stack_file.proofs.lines.first_word.Goals as goal

pub returns-then-is_empty : goal.returns-then-is_empty
returns-then-is_empty c =
    let text = c.unindented-text.result.now in
    let empty : text ≡ [] = nil_from_length text (search rules) in
    words_nothing c.args.text.now (sym c.unindented-text.ensures ∙ empty)

pub returns-in-Some : goal.returns-in-Some
returns-in-Some c =
    let text = c.unindented-text.result.now in
    word_found c.args.text.now text _ c.in-Some.at c.unindented-text.ensures
    (position_or_len_is is_space text c.in-Some.at 0 (search rules) (search rules) (search rules)) (search rules)
    (take_rest text _)

pub returns-in-None : goal.returns-in-None
returns-in-None c =
    let text = c.unindented-text.result.now in
    let some : 0 < length text = search rules in
    word_alone c.args.text.now text _ c.unindented-text.ensures
    (position_or_len_is is_space text (length text) 0 (omega arith) (search rules) (search rules)) some
    (take_rest text (length text) ∙ drop_all (length text) text (omega arith))
