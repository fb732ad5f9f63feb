use Rattle.std.proofs.Common.{◌≡◌, sym, ◌∙◌}
use Rattle.std.specs.Prelude.{decimal}
use Rattle.stock_middleware.proofs.HeaderLemmas.{with_length-new}
use Rattle.stock_middleware.proofs.reply.put_length.Goals as goal

pub returns : goal.returns
returns c =
    let n = c.in-Some.n in
    let text : c.new-2.result ≡ decimal n = c.new-2.ensures ∙ c.in_ok-digits.ensures.items ∙ c.as_bytes.ensures.value ∙ c.format.ensures.text in
    let new = with_length-new c.args.status n c.args.headers.now (sym c.is_bare.ensures ∙ c.if-is_bare.false) (sym c.has_header.ensures ∙ c.if-has_header.false)
    (sym c.has_header-else-has_header.ensures ∙ c.if-has_header-2.false) in
    rw (c.in-Some.is, ← new, ← text) c.set_value.ensures.set
