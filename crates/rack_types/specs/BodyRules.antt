-- The rules that a body keeps beside the length that its `content-length` promises (this project's own;
-- what the length means is RFC 9112, section 6.2).
use Rattle.std.specs.Prelude.{ℕ, suc, ◌-◌, Bool, true, false, nat_lt, if◌then◌else◌, List, [], ◌∷◌, length, Option, None, Some, option_map}
use Rattle.rack_types.specs.declared.rules.BodyRule.{BodyRule}

-- where a body breaks a rule: at the piece with this place, from 0, or behind all of them, and the rule
pub record Break : Type 0 where
  pub place : ℕ
  pub rule : BodyRule

-- the rule with this number
abbrev pub body_rule : ℕ → BodyRule
body_rule n = record { 0 = n }

-- B1: a piece of so many bytes is more than what is left of the promise
abbrev pub breaks_B1 : Option ℕ → ℕ → Bool
breaks_B1 None n = false
breaks_B1 (Some promised) n = nat_lt promised n

-- what is left of the promise behind a piece of so many bytes
abbrev pub left_behind : Option ℕ → ℕ → Option ℕ
left_behind None n = None
left_behind (Some promised) n = Some (promised - n)

-- B2: something is left of the promise at the end
abbrev pub breaks_B2 : Option ℕ → Bool
breaks_B2 None = false
breaks_B2 (Some promised) = nat_lt 0 promised

-- the rule that a body breaks at its end: B3 where it raises, whatever is left of the promise
abbrev pub end_rule : Option ℕ → Bool → Option BodyRule
end_rule promised true = Some (body_rule 3)
end_rule promised false = if breaks_B2 promised then Some (body_rule 2) else None

-- the same break, seen from a piece earlier
abbrev pub a_piece_later : Break → Break
a_piece_later b = record { place = suc b.place; rule = b.rule }

-- the first place at which a body with such a promise breaks a rule, and the rule; none where it breaks none.
-- A piece that breaks the promise is not sent, so nothing behind it is looked at.
unfoldable pub body_break : Option ℕ → List (List ℕ) → Bool → Option Break
body_break promised [] raises = option_map (λ r. record { place = 0; rule = r }) (end_rule promised raises)
body_break promised (piece ∷ pieces) raises =
    if breaks_B1 promised (length piece) then Some (record { place = 0; rule = body_rule 1 })
    else option_map a_piece_later (body_break (left_behind promised (length piece)) pieces raises)
