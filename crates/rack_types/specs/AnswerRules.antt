-- The rules that an answer keeps (after the Rack SPEC; numbers, order and wording are this project's
-- own). Each rule is a test that is true where it is broken.
use Rattle.std.specs.Prelude.{ℕ, ◌^◌, Bool, true, false, not, ◌&&◌, ◌||◌, ◌==◌, nat_lt, nat_le, List, [], ◌∷◌, Option, None, Some, is_some, codes, bytes_eq, if◌then◌else◌}
use Rattle.std.specs.List.{list_any}
use Rattle.httparse.specs.Grammar.{is_token}
use Rattle.rack_text.specs.Decimal.{is_decimal, decimal_value}
use Rattle.rack_types.specs.declared.answer.Answer.{Answer}
use Rattle.rack_types.specs.declared.answer.Answer.TheVariants.{Reply, Raised, Taken}
use Rattle.rack_types.specs.declared.rules.Rule.{Rule}
use Rattle.rack_types.specs.declared.rules.Set.{Set}
use Rattle.rack_types.specs.declared.rules.Set.TheVariants.{Server, Full}
use Rattle.rack_types.specs.Body.{Content}
use Rattle.rack_types.specs.Env.{Pairs}
use Rattle.rack_types.specs.Headers.{HeaderList, header_values}
use Rattle.rack_types.specs.RuleWords.{has_value, first_broken}

-- a status whose reply has no body
abbrev pub is_bare : ℕ → Bool
is_bare status = (nat_le 100 status && nat_le status 199) || status == 204 || status == 304

-- A to Z
abbrev pub is_upper : ℕ → Bool
is_upper b = nat_le 65 b && nat_le b 90

-- a byte that no value holds: 0 to 31 and 127
abbrev pub is_control : ℕ → Bool
is_control b = nat_lt b 32 || b == 127

-- L1: the status is below 100 or above 999
abbrev pub breaks_L1 : ℕ → Bool
breaks_L1 status = nat_lt status 100 || nat_lt 999 status

-- L2: a header name is no token
abbrev pub breaks_L2 : HeaderList → Bool
breaks_L2 headers = list_any (λ h. not (is_token h.0)) headers

-- L3: a header name is `status`
abbrev pub breaks_L3 : HeaderList → Bool
breaks_L3 headers = list_any (λ h. bytes_eq h.0 (codes "status")) headers

-- L4: a header name holds A to Z
abbrev pub breaks_L4 : HeaderList → Bool
breaks_L4 headers = list_any (λ h. list_any is_upper h.0) headers

-- L5: a value holds a control byte
abbrev pub breaks_L5 : HeaderList → Bool
breaks_L5 headers = list_any (λ h. list_any (list_any is_control) h.1) headers

-- L6 and L7: `content-type`, `content-length` at a bare status
abbrev pub breaks_L6 : ℕ → HeaderList → Bool
breaks_L6 status headers = is_bare status && is_some (header_values (codes "content-type") headers)

abbrev pub breaks_L7 : ℕ → HeaderList → Bool
breaks_L7 status headers = is_bare status && is_some (header_values (codes "content-length") headers)

-- the one number of `content-length`, below 2^64; none where its values are not that
abbrev pub one_length : List (List ℕ) → Option ℕ
one_length [] = None
one_length (value ∷ []) = if is_decimal value && nat_lt (decimal_value value) (2 ^ 64) then Some (decimal_value value) else None
one_length (value ∷ next ∷ more) = None

-- L8: `content-length` is there and is not one such number
abbrev pub is_bad_length : Option (List (List ℕ)) → Bool
is_bad_length None = false
is_bad_length (Some values) = not (is_some (one_length values))

abbrev pub breaks_L8 : HeaderList → Bool
breaks_L8 headers = is_bad_length (header_values (codes "content-length") headers)

-- L9: a hijack where `rack.hijack?` is not `true`
abbrev pub breaks_L9 : Bool → Pairs → Bool
breaks_L9 hijack env = hijack && not (has_value (codes "rack.hijack?") (codes "true") env)

-- two numbers that are there and differ
abbrev pub differ : Option ℕ → Option ℕ → Bool
differ None known = false
differ (Some stated) None = false
differ (Some stated) (Some known) = not (stated == known)

-- the stated length
abbrev pub stated_length : Option (List (List ℕ)) → Option ℕ
stated_length None = None
stated_length (Some values) = one_length values

-- L10: the stated length and the known one differ, the method is not HEAD and the status is not bare
abbrev pub breaks_L10 : Pairs → ℕ → HeaderList → Option ℕ → Bool
breaks_L10 env status headers known =
    differ (stated_length (header_values (codes "content-length") headers)) known
    && not (has_value (codes "REQUEST_METHOD") (codes "HEAD") env) && not (is_bare status)

-- L11: the method is HEAD and the known length is above 0
abbrev pub is_above_zero : Option ℕ → Bool
is_above_zero None = false
is_above_zero (Some n) = nat_lt 0 n

abbrev pub breaks_L11 : Pairs → Option ℕ → Bool
breaks_L11 env known = has_value (codes "REQUEST_METHOD") (codes "HEAD") env && is_above_zero known

-- the set has L11
abbrev pub is_full : Set → Bool
is_full Server = false
is_full Full = true

-- the rule with this number
abbrev pub rule : ℕ → Rule
rule n = record { 0 = n }

-- the least rule of the set that a reply breaks by its status, its headers, the known length of its body
-- and whether it is a partial hijack
unfoldable pub broken_head_rule : Set → Pairs → ℕ → HeaderList → Option ℕ → Bool → Option Rule
broken_head_rule set env status headers known part = first_broken (
    (rule 1, breaks_L1 status) ∷ (rule 2, breaks_L2 headers) ∷ (rule 3, breaks_L3 headers) ∷ (rule 4, breaks_L4 headers)
    ∷ (rule 5, breaks_L5 headers) ∷ (rule 6, breaks_L6 status headers) ∷ (rule 7, breaks_L7 status headers)
    ∷ (rule 8, breaks_L8 headers) ∷ (rule 9, breaks_L9 part env) ∷ (rule 10, breaks_L10 env status headers known)
    ∷ (rule 11, is_full set && breaks_L11 env known) ∷ [])

-- the rule that a full hijack breaks
unfoldable pub broken_taken_rule : Pairs → Option Rule
broken_taken_rule env = first_broken ((rule 9, breaks_L9 true env) ∷ [])

-- the least rule of the set that an answer breaks, none where it keeps all: L0 stands where the
-- application raised
abbrev pub broken_rule : {H : Type 0} → Set → Pairs → Answer Content H → Option Rule
broken_rule set env (Reply status headers body part) = broken_head_rule set env status headers body.known (is_some part)
broken_rule set env (Raised text) = Some (rule 0)
broken_rule set env (Taken hijacker) = broken_taken_rule env
