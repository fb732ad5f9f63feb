use Rattle.std.proofs.Common.{◌≡◌, map, option_map}
use Rattle.std.specs.Option.{option_copied}
use Rattle.form_urlencoded.specs.Form.{decode, pair_text}
use Rattle.stock_middleware.proofs.FormLemmas.{asked_among}
use Rattle.stock_middleware.proofs.form.last_asked.Given as goal

abbrev pub invariant-loop-name : goal.invariant-loop-name
invariant-loop-name l =
    option_map decode (option_copied l.found) ≡ asked_among (map pair_text l.yielded)
