use Rattle.std.proofs.Common.{ap, sym, ◌∙◌, codes}
use Rattle.rack_types.specs.AnswerRules.{stated_length}
use Rattle.reply_framing.proofs.PlaceLemmas.{place_values, place_none}
use Rattle.reply_framing.proofs.form.promise.Goals as goal

pub returns-in-Some : goal.returns-in-Some
returns-in-Some c = c.one_length.ensures ∙ sym (ap stated_length (place_values (codes "content-length") c.args.headers.now c.in-Some.place c.in-Some.ensures))

pub returns-in-None : goal.returns-in-None
returns-in-None c = sym (ap stated_length (place_none (codes "content-length") c.args.headers.now c.in-None.ensures))
