use Rattle.std.proofs.Common.{not, ◌||◌}
use Rattle.std.specs.Prelude.{nat_lt}
use Rattle.reply_framing.specs.Form.{wants_close, is_closing}
use Rattle.reply_framing.proofs.FramerLemmas.{no_hijack}
use Rattle.reply_framing.proofs.start.with_body.Goals as goal

pub invariant_of-result : goal.invariant_of-result
invariant_of-result g c =
    no_hijack g.B.Body.content g.B.Body.taken c.new.result c.head_after-after.result
    (not c.args.ask.persists || c.args.last || wants_close c.args.headers.now || nat_lt c.args.status 200 || is_closing c.form_of-form.result)
    c.new.ensures.within c.head_after-after.ensures
