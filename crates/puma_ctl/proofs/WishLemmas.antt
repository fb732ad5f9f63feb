-- The test of a token, and the parts of a request.
use Rattle.std.proofs.Common.{◌≡◌, ℕ, ◌<◌, ◌≤◌, Bool, true, false, ◌&&◌, ◌==◌, nat_lt, nat_le, inl, inr, List, [], ◌∷◌, ◌++◌, length, refl, ap, sym, ◌∙◌, arith, append_assoc}
use Rattle.std.proofs.lemmas.Bool.{lt-ltb, le-leb}
use Rattle.std.proofs.lemmas.Bool.Decides.{eqb_tells}
use Rattle.std.specs.Char.{is_ascii_alphanumeric}
use Rattle.std.specs.List.{list_all}
use Rattle.puma_ctl.specs.Wish.{is_control_token}

pub token_by : (text : List ℕ) (none : Bool) → none ≡ (length text == 0) → none ≡ false → length text ≤ 64
    → is_control_token text ≡ list_all is_ascii_alphanumeric text
token_by text none is false_is few = elim (eqb_tells (length text) 0) [
  | inl here ↦ absurd (let clash : true ≡ false = sym here.0 ∙ sym is ∙ false_is in cc)
  | inr isnt ↦
      let some : 0 < length text = omega (arith, isnt.1) in
      rw (lt-ltb 0 (length text) some, le-leb (length text) 64 few) refl
]

-- six parts, one behind the other
pub joined : (o a b c d e x y z u v : List ℕ) → x ≡ o ++ a → y ≡ x ++ b → z ≡ y ++ c → u ≡ z ++ d → v ≡ u ++ e
    → v ≡ o ++ ((((a ++ b) ++ c) ++ d) ++ e)
joined o a b c d e x y z u v is_x is_y is_z is_u is_v =
    let front : x ++ b ≡ (o ++ a) ++ b = ap (λ (w : List ℕ). w ++ b) is_x in
    let next : y ++ c ≡ ((o ++ a) ++ b) ++ c = ap (λ (w : List ℕ). w ++ c) (is_y ∙ front) in
    let more : z ++ d ≡ (((o ++ a) ++ b) ++ c) ++ d = ap (λ (w : List ℕ). w ++ d) (is_z ∙ next) in
    let all : u ++ e ≡ ((((o ++ a) ++ b) ++ c) ++ d) ++ e = ap (λ (w : List ℕ). w ++ e) (is_u ∙ more) in
    is_v ∙ all ∙ simp append_assoc
