use Rattle.std.proofs.Common.{ap, ◌∷◌, ◌∙◌, sym, drop, take, length, ◌-◌, List, ℕ}
use Rattle.form_urlencoded.specs.Form.{decode}
use Rattle.stock_middleware.proofs.FormLemmas.{decode_escape, decode_percent, decode_percent_short}
use Rattle.stock_middleware.proofs.form.escaped.Goals as goal

pub returns-in-Some : goal.returns-in-Some
returns-in-Some c =
    let behind = c.args.behind.now in
    decode_escape behind c.in-len2-up.len_at_least c.in-Some.ensures.0.0 c.in-Some.ensures.0.1
    ∙ ap (λ (b : ℕ). b ∷ decode (take (length behind - 2) (drop 2 behind))) (sym c.in-Some.ensures.1)

pub returns-in-None : goal.returns-in-None
returns-in-None c = decode_percent c.args.behind.now c.in-len2-up.len_at_least c.in-None.ensures

pub returns-in_default : goal.returns-in_default
returns-in_default c = decode_percent_short c.args.behind.now c.in_default.len_below
