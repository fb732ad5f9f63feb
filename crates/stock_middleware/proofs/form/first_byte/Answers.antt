use Rattle.std.proofs.Common.{◌∷◌, ap, ◌∙◌, ℕ}
use Rattle.std.proofs.lemmas.List.{nil_from_length}
use Rattle.form_urlencoded.specs.Form.{decode}
use Rattle.stock_middleware.proofs.FormLemmas.{decode-nil, decode_plain, decode_plus}
use Rattle.stock_middleware.proofs.form.first_byte.Goals as goal

pub returns-in_default : goal.returns-in_default
returns-in_default c = ap decode (nil_from_length c.args.text.now c.in_default.ensures.cases) ∙ decode-nil

pub returns-then-first-eq43 : goal.returns-then-first-eq43
returns-then-first-eq43 c =
    let rest = c.in-Some.rest.now in
    ap decode (c.in-Some.ensures.cases.0 ∙ ap (λ (b : ℕ). b ∷ rest) c.if-first-eq43.true) ∙ decode_plus rest

pub returns : goal.returns
returns c =
    ap decode c.in-Some.ensures.cases.0 ∙ decode_plain c.in-Some.first.now c.in-Some.rest.now c.if-first-eq43.false c.if-first-eq37.false
