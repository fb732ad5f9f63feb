use Rattle.std.proofs.Common.{◌<◌, ◌≤◌, ℕ, List, sym, ap, ◌∙◌, arith, length}
use Rattle.std.proofs.lemmas.Bool.Decides.{nat_tests}
use Rattle.std.specs.Option.{unwrap_or}
use Rattle.rack_text.specs.Host.{host_parts}
use Rattle.rack_env.specs.Host.{server, host_or_local}
use Rattle.rack_env.proofs.HostLemmas.{host_named, host_empty}
use Rattle.rack_env.proofs.host.server.Goals as goal
use Rattle.rack_env.proofs.host.server.Goals.{in_default-via-in-Some+else-not-is_empty, in_default-via-in_default}

pub returns-in-Some : goal.returns-in-Some
unfolding server
returns-in-Some c =
    let local = c.args.local.now in
    let name = c.in-Some.host.name.now in
    let some : 0 < length name = grind (arith, nat_tests) in
    ap (λ (n : ℕ). (name, n)) (c.unwrap_or.ensures ∙ ap (unwrap_or c.in-Some.host.port) c.default_port.ensures)
    ∙ sym (host_named name c.in-Some.host.port local some)
    ∙ ap (λ p. host_or_local p local) c.in-Some.ensures.parts
    ∙ ap (λ (t : List ℕ). host_or_local (host_parts t) local) c.host_text.ensures

pub returns-in_default : goal.returns-in_default
unfolding server
returns-in_default c =
    let local = c.args.local.now in
    ap (λ (n : List ℕ). (n, local.port)) c.get.ensures.value
    ∙ (elim c.in_default.branch [
      | in_default-via-in-Some+else-not-is_empty w ↦
          let none : length w.in-Some.host.name.now ≤ 0 = grind (arith, nat_tests) in
          sym (host_empty w.in-Some.host.name.now w.in-Some.host.port local none) ∙ ap (λ p. host_or_local p local) w.in-Some.ensures.parts
      | in_default-via-in_default w ↦ ap (λ p. host_or_local p local) w.in_default.ensures.parts
    ])
    ∙ ap (λ (t : List ℕ). host_or_local (host_parts t) local) c.host_text.ensures
