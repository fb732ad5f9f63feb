use Rattle.std.proofs.Common.{◌≡◌, true, length, inl, inr, sym, ◌∙◌, rules}
use Rattle.std.specs.Char.{is_ascii_digit}
use Rattle.std.specs.List.{list_all, AllPass}
use Rattle.std.proofs.lemmas.Bool.{lt-ltb, cases_Bool, false_from_ne_true}
use Rattle.std.proofs.lemmas.List.Sums.{AllPass-from_list_all, list_all-from_AllPass}
use Rattle.rack_text.proofs.decimal.is_decimal.Goals as goal

every_digit : (c : goal.After-all) → c.all.result ≡ list_all is_ascii_digit c.args.text.now
every_digit c =
    elim (cases_Bool c.all.result) [
      | inl passes ↦
          let each : AllPass is_ascii_digit c.args.text.now = search rules in
          passes ∙ sym (list_all-from_AllPass is_ascii_digit c.args.text.now each)
      | inr fails ↦
          let other : list_all is_ascii_digit c.args.text.now ≡ true → ⊥ = λ all. let each = AllPass-from_list_all is_ascii_digit c.args.text.now all in search rules in
          fails ∙ sym (false_from_ne_true _ other)
    ]

pub returns-then-not-is_empty : goal.returns-then-not-is_empty
returns-then-not-is_empty c = rw (lt-ltb 0 (length c.args.text.now) (search rules)) (every_digit c)
