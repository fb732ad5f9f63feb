use Rattle.std.proofs.Common.{◌≡◌, codes}
use Rattle.form_urlencoded.specs.Form.{parse}
use Rattle.form_urlencoded.specs.Parse.{raw_pairs_left}
use Rattle.rack_types.specs.Env.{get_pair}
use Rattle.control_http.proofs.TokenLemmas.{decoded}
use Rattle.control_http.proofs.token.is_allowed.Given as goal

abbrev pub invariant-loop-name : goal.invariant-loop-name
invariant-loop-name l =
    get_pair (codes "token") (parse l.query) ≡ get_pair (codes "token") (decoded (raw_pairs_left l.name-iterator))
