use Rattle.std.proofs.Common.{ap, sym, ◌∙◌, codes}
use Rattle.reply_framing.specs.Form.{have_close}
use Rattle.reply_framing.proofs.PlaceLemmas.{place_values, place_none}
use Rattle.reply_framing.proofs.form.wants_close.Goals as goal

pub returns-in-Some : goal.returns-in-Some
returns-in-Some c = c.have_close.ensures ∙ sym (ap have_close (place_values (codes "connection") c.args.headers.now c.in-Some.place c.in-Some.ensures))

pub returns-in-None : goal.returns-in-None
returns-in-None c = sym (ap have_close (place_none (codes "connection") c.args.headers.now c.in-None.ensures))
