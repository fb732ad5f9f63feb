-- Lists that are gone through from the front.
use Rattle.std.proofs.Common.{◌≡◌, ℕ, ◌+◌, List, [], ◌∷◌, ◌++◌, take, ap, sym, ◌∙◌, append-nil, Some}
use Rattle.std.proofs.lemmas.Grind.{flat_map-append}
use Rattle.std.specs.Prelude.{slice_get}
use Rattle.rack_types.specs.Env.{Pairs, names, values}
use Rattle.rack_types.specs.Headers.{HeaderList}
use Rattle.rack_types.proofs.CallerLemmas.{take_field}
use Rattle.stock_apps.specs.Answers.{and_header, bad_header}
use Rattle.stock_apps.specs.Lines.{pair_line, pair_lines}

-- the headers with the value of one more number
abbrev pub with_bad : HeaderList → ℕ → HeaderList
with_bad headers n = and_header headers (bad_header n)

-- one line more
pub lines_more : (lines : List ℕ) (pairs : Pairs) (i : ℕ) (name value : List ℕ) → slice_get (names pairs) i ≡ Some name → slice_get (values pairs) i ≡ Some value
    → lines ≡ pair_lines (take i pairs) → lines ++ pair_line (name, value) ≡ pair_lines (take (i + 1) pairs)
lines_more lines pairs i name value is_name is_value so_far =
    ap (λ text. text ++ pair_line (name, value)) so_far
    ∙ ap (λ line. pair_lines (take i pairs) ++ line) (sym (append-nil (pair_line (name, value))))
    ∙ sym (flat_map-append pair_line (take i pairs) ((name, value) ∷ []))
    ∙ ap pair_lines (sym (take_field pairs i name value (record { name_is = is_name; value_is = is_value })))
