use Rattle.std.proofs.Common.{ap, sym, ◌∙◌, ◌≡◌, ◌≤◌, ◌<◌, true, Option, None, Some, subst, drop, take, length, arith}
use Rattle.std.specs.List.{position_or_len}
use Rattle.rack_text.specs.Host.{is_valid_host}
use Rattle.message_framing.specs.Target.{Target, absolute, ends_authority}
use Rattle.message_framing.specs.Places.{PartsTarget}
use Rattle.message_framing.proofs.TargetLemmas.{absolute_empty, absolute_bad, absolute_good, spans_absolute}
use Rattle.message_framing.proofs.target.absolute.Goals as goal
use Rattle.message_framing.proofs.target.absolute.Goals.{then-length-eq0-via-then-length-eq0, then-length-eq0-via-else-length-eq0+then-not-is_valid_host}

pub returns-then-length-eq0 : goal.returns-then-length-eq0
returns-then-length-eq0 c =
    let place : c.authority_len-length.result ≡ position_or_len ends_authority (drop c.args.scheme c.args.target.now) =
    c.authority_len-length.ensures.value ∙ ap (position_or_len ends_authority) c.suffix-rest.ensures in
    let within : c.authority_len-length.result ≤ length (drop c.args.scheme c.args.target.now) =
    rw (← c.suffix-rest.ensures) c.authority_len-length.ensures.within in
    let none : absolute (drop c.args.scheme c.args.target.now) ≡ None = elim c.then-length-eq0.branch [
      | then-length-eq0-via-then-length-eq0 w ↦ absolute_empty _ _ place within w.if-length-eq0.true
      | then-length-eq0-via-else-length-eq0+then-not-is_valid_host w ↦
          absolute_bad _ _ place (ap is_valid_host (sym (w.prefix.ensures ∙ ap (take c.authority_len-length.result) c.suffix-rest.ensures)) ∙ sym w.is_valid_host.ensures ∙ w.if-not-is_valid_host.true)
    ] in
    subst (λ (t : Option Target). PartsTarget None c.args.target.now t) (sym none) tt

pub returns : goal.returns
returns c =
    let place : c.authority_len-length.result ≡ position_or_len ends_authority (drop c.args.scheme c.args.target.now) =
    c.authority_len-length.ensures.value ∙ ap (position_or_len ends_authority) c.suffix-rest.ensures in
    let within : c.authority_len-length.result ≤ length (drop c.args.scheme c.args.target.now) =
    rw (← c.suffix-rest.ensures) c.authority_len-length.ensures.within in
    let some : 0 < c.authority_len-length.result = omega (arith, c.if-length-eq0.false) in
    let valid : is_valid_host (take c.authority_len-length.result (drop c.args.scheme c.args.target.now)) ≡ true =
    ap is_valid_host (sym (c.prefix.ensures ∙ ap (take c.authority_len-length.result) c.suffix-rest.ensures)) ∙ sym c.is_valid_host.ensures ∙ c.if-not-is_valid_host.false in
    subst (λ (t : Option Target). PartsTarget (Some c.with_path.result) c.args.target.now t) (sym (absolute_good _ _ place within some valid))
    (spans_absolute c.with_path.result c.args.target.now c.args.scheme c.authority_len-length.result c.requires within c.with_path.ensures)
