-- The order in which a body is asked, as it is seen behind each `fill`: of the pieces that were taken the bytes of
-- all but the last were appended. This project's own.
use Rattle.std.specs.Prelude.{◌≡◌, ℕ, Bool, List, [], ◌∷◌, ◌++◌, length, Option, ⊤}
use Rattle.std.specs.List.{concat}
use Rattle.rack_types.specs.BodyRules.{left_behind}
use Rattle.reply_framing.specs.declared.types.Form.{Form}
use Rattle.reply_framing.specs.Body.{wire, body_bytes}
use Rattle.reply_framing.specs.Coming.{Rest}

-- the bytes that those pieces make which were not taken from the body
abbrev pub later : Rest → List ℕ
later rest = body_bytes rest.form rest.left rest.waiting rest.raises

-- the whole is some bytes and then the rest
abbrev pub IsRestOf : List ℕ → List ℕ → Type 0
IsRestOf rest whole = (front : List ℕ) × (whole ≡ front ++ rest)

-- behind these pieces, which were taken: at most the last one's bytes are still to be appended before those of
-- the pieces that were not taken
abbrev pub IsLate : List (List ℕ) → Rest → Type 0
IsLate [] rest = ⊤
IsLate (piece ∷ []) rest = IsRestOf rest.bytes (wire rest.form piece ++ later rest)
IsLate (piece ∷ next ∷ pieces) rest = IsLate (next ∷ pieces) rest

-- some pieces were taken, and the bytes of all but the last of them were appended
pub record Pulls (old new : Rest) : Type 0 where
  pub taken : List (List ℕ)
  pub given : old.waiting ≡ taken ++ new.waiting
  pub left : new.left ≡ left_behind old.left (length (concat taken))
  pub late : IsLate taken new

-- no piece was taken
pub record AskedNothing (rest : Rest) (form : Form) (promised : Option ℕ) (pieces : List (List ℕ)) (raises : Bool) : Type 0 where
  pub form_is : rest.form ≡ form
  pub left_is : rest.left ≡ promised
  pub waiting_is : rest.waiting ≡ pieces
  pub raises_is : rest.raises ≡ raises
