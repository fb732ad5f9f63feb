use Rattle.std.proofs.Common.{◌≡◌, ◌∙◌, ap, List, ℕ, ◌+◌, ◌∷◌, true, false, is_some, Some, drop, position}
use Rattle.std.specs.Str.{bytes_eq}
use Rattle.rack_outside.specs.Cabinet.{texts_under}
use Rattle.rack_outside.specs.Files.{Turns}
use Rattle.rack_outside.proofs.CabinetLemmas.{none_under, first_under, turns_if_more, turns_if_last, answers_first, turning_of, rest_is}
use Rattle.rack_outside.proofs.mem_files.read_text.Goals as goal
use Rattle.rack_outside.proofs.mem_files.read_text.Goals.{then-is_some, else-is_some}

pub returns-in_default-clause-answers : goal.returns-in_default-clause-answers
returns-in_default-clause-answers c = none_under c.args.texts.now.items c.args.name.now (cc)

pub returns-clause-answers : goal.returns-clause-answers
returns-clause-answers c =
    let texts = c.args.texts.now.items in
    let found : position (λ held. bytes_eq held.0 c.args.name.now) texts ≡ Some c.in-Some.at = cc in
    let under = first_under texts c.args.name.now c.in-Some.at c.index.result.now found in
    let rest = texts_under (drop (c.in-Some.at + 1) texts) c.args.name.now in
    let first : texts_under texts c.args.name.now ≡ c.get.result.now ∷ rest = cc in
    answers_first _ c.args.limit c.get.result.now _ rest first c.in_ok-answer.ensures

pub returns-clause-turned : goal.returns-clause-turned
returns-clause-turned c =
    let texts = c.args.texts.now.items in
    let name = c.args.name.now in
    let found : position (λ held. bytes_eq held.0 name) texts ≡ Some c.in-Some.at = cc in
    let behind : c.first_of-2.result ≡ position (λ held. bytes_eq held.0 name) (drop (c.in-Some.at + 1) texts) =
    c.first_of-2.ensures ∙ ap (λ (xs : List (List ℕ × List ℕ)). position (λ held. bytes_eq held.0 name) xs)
    (rest_is (c.in-Some.at + 1) c.deref-2.result.now ∙ ap (λ (xs : List (List ℕ × List ℕ)). drop (c.in-Some.at + 1) xs) c.deref-2.ensures.value) in
    let turns : Turns name (texts_under texts) (texts_under c.if-is_some.texts.items) = elim c.if-is_some.branch [
      | then-is_some w ↦
          let more : is_some c.first_of-2.result ≡ true = cc in
          rw (w.texts-is, w.remove.ensures.by_index.2) (turns_if_more texts name c.in-Some.at c.first_of-2.result found behind more)
      | else-is_some w ↦
          let last : is_some c.first_of-2.result ≡ false = cc in
          rw w.texts-is (turns_if_last texts name c.in-Some.at c.first_of-2.result found behind last)
    ] in
    turning_of _ c.args.limit c.get.result.now name _ _ c.in_ok-answer.ensures turns
