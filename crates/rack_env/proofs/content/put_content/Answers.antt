use Rattle.std.proofs.Common.{sym, ◌∙◌}
use Rattle.std.proofs.lemmas.Result.{IfOk-equal, on_ok_weaker}
use Rattle.rack_env.proofs.FixedLemmas.{chunks_put, length_put, length_absent}
use Rattle.rack_env.proofs.content.put_content.Goals as goal

pub returns-then-chunked : goal.returns-then-chunked
returns-then-chunked c = λ bytes long.
    IfOk-equal c.set_static.result _ _ _ c.set_static.ensures.set
    (chunks_put c.args.env.now c.put_values.new.env c.args.request.now bytes c.args.body _ c.in_ok-put_values.ensures c.requires.no_length (sym c.chunked.ensures ∙ c.if-chunked.true) long (c.as_bytes.ensures.value ∙ c.format.ensures.text))

pub put_values-requires-2-clause-absent : goal.put_values-requires-2-clause-absent
put_values-requires-2-clause-absent c = length_absent c.args.env.now c.put_values.new.env c.args.request.now c.in_ok-put_values.ensures c.requires.no_length

pub returns : goal.returns
returns c = λ bytes long.
    on_ok_weaker c.put_values-2.result
    (λ put. length_put c.args.env.now c.put_values.new.env c.put_values-2.new.env c.args.request.now bytes c.in_ok-put_values.ensures (sym c.chunked.ensures ∙ c.if-chunked.false) put) c.put_values-2.ensures
