use Rattle.std.proofs.Common.{◌≡◌, drop}
use Rattle.std.specs.List.{list_any}
use Rattle.rack_types.specs.Headers.{values_at}
use Rattle.reply_framing.specs.Form.{has_close}
use Rattle.reply_framing.proofs.form.have_close.Given as goal

abbrev pub invariant-loop-j : goal.invariant-loop-j
invariant-loop-j l = record {
  none : list_any has_close (drop l.j (values_at l.i l.headers)) ≡ list_any has_close (values_at l.i l.headers);
}
