use Rattle.std.proofs.Common.{◌≡◌, get_or, None, arith, rules}
use Rattle.rack_text.specs.Decimal.{decimal_number}
use Rattle.rack_text.proofs.DecimalLemmas.{ReadsOn, decimal_number_refused, decimal_number_exactly}
use Rattle.rack_text.proofs.decimal.read_decimal.Goals as goal

pub returns-in_err-number-clause-value : goal.returns-in_err-number-clause-value
returns-in_err-number-clause-value c =
    let i = c.loop-byte.byte-index in
    let text = c.args.text.now in
    let kept = c.loop-byte.invariant in
    let so_far : ReadsOn text i c.loop-byte.number = record { fits = kept.fits; value = kept.value; digits = kept.digits } in
    let refused : decimal_number text ≡ None = decimal_number_refused text i c.loop-byte.number (get_or text i 0) so_far (omega arith) (search rules) (search rules) in
    search rules

pub returns-in_err-number-clause-exactly : goal.returns-in_err-number-clause-exactly
returns-in_err-number-clause-exactly c =
    decimal_number_exactly c.args.text.now c.from_residual.result (returns-in_err-number-clause-value c)
