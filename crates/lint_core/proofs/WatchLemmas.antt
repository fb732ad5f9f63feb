-- What a watch answers is the break of a body, a piece at a time.
use Rattle.std.proofs.Common.{◌≡◌, ℕ, Bool, true, false, cond, List, [], ◌∷◌, length, Option, Some, None, option_map, refl, ap, sym}
use Rattle.rack_types.specs.declared.rules.BodyRule.{BodyRule}
use Rattle.rack_types.specs.BodyRules.{body_break, body_rule, a_piece_later, breaks_B1, left_behind, end_rule}
use Rattle.lint_core.specs.Watch.{here_or_later, at_the_end}

pub end_is : (promised : Option ℕ) (raises : Bool) (result : Option BodyRule) → result ≡ end_rule promised raises → body_break promised [] raises ≡ option_map at_the_end result
unfolding body_break
end_is promised raises result is = ap (option_map at_the_end) (sym is)

pub piece_is : (old new : Option ℕ) (result : Option BodyRule) (piece : List ℕ) (pieces : List (List ℕ)) (raises : Bool) (len : ℕ)
    → result ≡ cond (breaks_B1 old len) (Some (body_rule 1)) None → new ≡ cond (breaks_B1 old len) old (left_behind old len) → length piece ≡ len
    → body_break old (piece ∷ pieces) raises ≡ here_or_later result (body_break new pieces raises)
unfolding body_break
piece_is old new result piece pieces raises len rule left as_long =
    rw (rule, left, ← as_long) (by (breaks_B1 old (length piece)))
  where
    by : (t : Bool) → cond t (Some (at_the_end (body_rule 1))) (option_map a_piece_later (body_break (left_behind old (length piece)) pieces raises))
        ≡ here_or_later (cond t (Some (body_rule 1)) None) (body_break (cond t old (left_behind old (length piece))) pieces raises)
    by true = refl
    by false = refl
