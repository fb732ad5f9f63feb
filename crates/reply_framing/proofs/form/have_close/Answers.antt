use Rattle.std.proofs.Common.{sym, ◌∙◌}
use Rattle.rack_types.specs.Headers.{values_at}
use Rattle.reply_framing.specs.Form.{has_close}
use Rattle.reply_framing.proofs.LineLemmas.{any_here, any_more}
use Rattle.reply_framing.proofs.form.have_close.Goals as goal

pub returns-then-list_has : goal.returns-then-list_has
returns-then-list_has c =
    any_here has_close (values_at c.args.i c.args.headers.now) c.loop-j.j c.value.result.now c.value.ensures (sym c.list_has.ensures ∙ c.if-list_has.true) c.loop-j.invariant.none

pub loop-j-preserved : goal.loop-j-preserved
loop-j-preserved c = record {
  none = any_more has_close (values_at c.args.i c.args.headers.now) c.loop-j.j c.value.result.now c.value.ensures (sym c.list_has.ensures ∙ c.if-list_has.false) c.loop-j.invariant.none;
}
