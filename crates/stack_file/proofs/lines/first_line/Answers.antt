use Rattle.std.proofs.Common.{ℕ, List, ◌≡◌, ◌∷◌, length, take, sym, ◌∙◌, arith, rules, subst}
use Rattle.std.proofs.lemmas.List.Sums.{position_or_len_is}
use Rattle.std.proofs.lemmas.List.{take_rest, drop_all}
use Rattle.stack_file.specs.Lines.{lines}
use Rattle.stack_file.proofs.LineLemmas.{is_feed, lines_found, line_alone}
use Rattle.stack_file.proofs.lines.first_line.Goals as goal

pub returns-in-None-clause-lines : goal.returns-in-None-clause-lines
returns-in-None-clause-lines c =
    let text = c.args.text.now in
    line_alone text _ (position_or_len_is is_feed text (length text) 0 (omega arith) (search rules) (search rules)) c.requires
    (take_rest text (length text) ∙ drop_all (length text) text (omega arith))

pub returns-in-Some-clause-lines : goal.returns-in-Some-clause-lines
returns-in-Some-clause-lines c =
    let text = c.args.text.now in
    let found = lines_found text c.in-Some.at (position_or_len_is is_feed text c.in-Some.at 0 (search rules) (search rules) (search rules)) (search rules) in
    subst (λ (w : List ℕ). lines text ≡ take c.in-Some.at text ∷ lines w) (sym (take_rest text _)) found
