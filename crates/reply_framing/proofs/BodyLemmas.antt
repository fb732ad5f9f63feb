-- The bytes of a body, piece by piece.
use Rattle.std.proofs.Common.{◌≡◌, ℕ, Bool, true, false, List, [], ◌∷◌, ◌++◌, length, refl, ap, sym, ◌∙◌, append_assoc, Option, None, Some}
use Rattle.std.specs.Prelude.{if◌then◌else◌, option_map}
use Rattle.std.proofs.lemmas.List.{append-nil}
use Rattle.std.specs.List.{flat_map}
use Rattle.rack_types.specs.declared.rules.BodyRule.{BodyRule}
use Rattle.rack_types.specs.BodyRules.{Break, body_break, body_rule, breaks_B1, left_behind, end_rule, a_piece_later}
use Rattle.reply_framing.specs.declared.types.Form.{Form}
use Rattle.reply_framing.specs.declared.types.Form.TheVariants.{Bare, Stated, Known, Chunked, Closing}
use Rattle.reply_framing.specs.Body.{wire, last_bytes, break_in, bytes_until, body_bytes, rule_of, rule_in}
use Rattle.reply_framing.specs.Pull.{last_by}

-- a body that is sent breaks by its promise
break_sent : (form : Form) (left : Option ℕ) (pieces : List (List ℕ)) (raises : Bool) → ¬ (form ≡ Bare) → break_in form left pieces raises ≡ body_break left pieces raises
break_sent Bare left pieces raises sent = absurd (sent refl)
break_sent Stated left pieces raises sent = refl
break_sent Known left pieces raises sent = refl
break_sent Chunked left pieces raises sent = refl
break_sent Closing left pieces raises sent = refl

-- the bytes before a break that is seen from a piece earlier
bytes_later : (b : Option Break) (form : Form) (piece : List ℕ) (pieces : List (List ℕ))
    → bytes_until (option_map a_piece_later b) form (piece ∷ pieces) ≡ wire form piece ++ bytes_until b form pieces
bytes_later None form piece pieces = append_assoc (wire form piece) (flat_map (wire form) pieces) (last_bytes form)
bytes_later (Some b) form piece pieces = refl

rule_later : (b : Option Break) → rule_of (option_map a_piece_later b) ≡ rule_of b
rule_later None = refl
rule_later (Some b) = refl

break_more : (left : Option ℕ) (piece : List ℕ) (pieces : List (List ℕ)) (raises : Bool) → breaks_B1 left (length piece) ≡ false
    → body_break left (piece ∷ pieces) raises ≡ option_map a_piece_later (body_break (left_behind left (length piece)) pieces raises)
unfolding body_break
break_more left piece pieces raises fits =
    ap (λ (b : Bool). if b then Some (record { place = 0; rule = body_rule 1 }) else option_map a_piece_later (body_break (left_behind left (length piece)) pieces raises)) fits

break_stops : (left : Option ℕ) (piece : List ℕ) (pieces : List (List ℕ)) (raises : Bool) → breaks_B1 left (length piece) ≡ true
    → body_break left (piece ∷ pieces) raises ≡ Some (record { place = 0; rule = body_rule 1 })
unfolding body_break
break_stops left piece pieces raises over =
    ap (λ (b : Bool). if b then Some (record { place = 0; rule = body_rule 1 }) else option_map a_piece_later (body_break (left_behind left (length piece)) pieces raises)) over

break_end : (left : Option ℕ) (raises : Bool) → body_break left [] raises ≡ option_map (λ r. record { place = 0; rule = r }) (end_rule left raises)
unfolding body_break
break_end left raises = refl

-- a piece that the promise holds
pub body_more : (form : Form) (left : Option ℕ) (piece : List ℕ) (pieces : List (List ℕ)) (raises : Bool) → ¬ (form ≡ Bare) → breaks_B1 left (length piece) ≡ false
    → body_bytes form left (piece ∷ pieces) raises ≡ wire form piece ++ body_bytes form (left_behind left (length piece)) pieces raises
body_more form left piece pieces raises sent fits =
    ap (λ b. bytes_until b form (piece ∷ pieces)) (break_sent form left (piece ∷ pieces) raises sent ∙ break_more left piece pieces raises fits)
    ∙ bytes_later (body_break (left_behind left (length piece)) pieces raises) form piece pieces
    ∙ ap (λ b. wire form piece ++ bytes_until b form pieces) (sym (break_sent form (left_behind left (length piece)) pieces raises sent))

pub rule_more : (form : Form) (left : Option ℕ) (piece : List ℕ) (pieces : List (List ℕ)) (raises : Bool) → ¬ (form ≡ Bare) → breaks_B1 left (length piece) ≡ false
    → rule_in form left (piece ∷ pieces) raises ≡ rule_in form (left_behind left (length piece)) pieces raises
rule_more form left piece pieces raises sent fits =
    ap rule_of (break_sent form left (piece ∷ pieces) raises sent ∙ break_more left piece pieces raises fits)
    ∙ rule_later (body_break (left_behind left (length piece)) pieces raises)
    ∙ ap rule_of (sym (break_sent form (left_behind left (length piece)) pieces raises sent))

-- a piece that passes it
pub body_stops : (form : Form) (left : Option ℕ) (piece : List ℕ) (pieces : List (List ℕ)) (raises : Bool) → ¬ (form ≡ Bare) → breaks_B1 left (length piece) ≡ true
    → body_bytes form left (piece ∷ pieces) raises ≡ []
body_stops form left piece pieces raises sent over =
    ap (λ b. bytes_until b form (piece ∷ pieces)) (break_sent form left (piece ∷ pieces) raises sent ∙ break_stops left piece pieces raises over)

pub rule_stops : (form : Form) (left : Option ℕ) (piece : List ℕ) (pieces : List (List ℕ)) (raises : Bool) → ¬ (form ≡ Bare) → breaks_B1 left (length piece) ≡ true
    → rule_in form left (piece ∷ pieces) raises ≡ Some (body_rule 1)
rule_stops form left piece pieces raises sent over =
    ap rule_of (break_sent form left (piece ∷ pieces) raises sent ∙ break_stops left piece pieces raises over)

-- behind the last piece
end_bytes : (rule : Option BodyRule) (form : Form) → bytes_until (option_map (λ r. record { place = 0; rule = r }) rule) form [] ≡ last_by rule form
end_bytes None form = refl
end_bytes (Some rule) form = refl

end_rules : (rule : Option BodyRule) → rule_of (option_map (λ r. record { place = 0; rule = r }) rule) ≡ rule
end_rules None = refl
end_rules (Some rule) = refl

pub body_end : (form : Form) (left : Option ℕ) (raises : Bool) → ¬ (form ≡ Bare) → body_bytes form left [] raises ≡ last_by (end_rule left raises) form
body_end form left raises sent =
    ap (λ b. bytes_until b form []) (break_sent form left [] raises sent ∙ break_end left raises) ∙ end_bytes (end_rule left raises) form

pub rule_end : (form : Form) (left : Option ℕ) (raises : Bool) → ¬ (form ≡ Bare) → rule_in form left [] raises ≡ end_rule left raises
rule_end form left raises sent = ap rule_of (break_sent form left [] raises sent ∙ break_end left raises) ∙ end_rules (end_rule left raises)

-- a body that isn't sent
bare_wires : (xs : List (List ℕ)) → flat_map (wire Bare) xs ≡ []
bare_wires [] = refl
bare_wires (x ∷ xs) = bare_wires xs

pub bare_bytes : (left : Option ℕ) (pieces : List (List ℕ)) (raises : Bool) → body_bytes Bare left pieces raises ≡ []
bare_bytes left pieces raises = append-nil (flat_map (wire Bare) pieces) ∙ bare_wires pieces
