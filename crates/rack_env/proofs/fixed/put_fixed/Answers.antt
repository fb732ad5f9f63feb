use Rattle.std.proofs.Common.{ℕ, List, [], codes, refl, ap, ◌∙◌, decimal}
use Rattle.std.proofs.lemmas.Result.{on_ok_weaker}
use Rattle.rack_types.specs.Env.{with_pairs}
use Rattle.rack_env.specs.Environment.{fixed_pairs, protocol}
use Rattle.rack_env.proofs.FixedLemmas.{set_behind}
use Rattle.rack_env.proofs.fixed.put_fixed.Goals as goal

pub returns : goal.returns
unfolding fixed_pairs
returns c =
    let e = c.args.env.now in
    let empty = ap (with_pairs e) c.requires in
    let s1 = set_behind e e _ (codes "REQUEST_METHOD") _ _ [] empty c.method.ensures c.in_ok-set_static.ensures.set in
    let s2 = set_behind e _ _ (codes "SCRIPT_NAME") _ [] _ s1 refl c.in_ok-set_static-2.ensures.set in
    let s3 = set_behind e _ _ (codes "PATH_INFO") _ _ _ s2 c.path.ensures c.in_ok-set_static-3.ensures.set in
    let s4 = set_behind e _ _ (codes "QUERY_STRING") _ _ _ s3 c.query.ensures c.in_ok-set_static-4.ensures.set in
    let s5 = set_behind e _ _ (codes "SERVER_NAME") _ _ _ s4 (ap (λ (p : List ℕ × ℕ). p.0) c.server-port.ensures) c.in_ok-set_static-5.ensures.set in
    let s6 = set_behind e _ _ (codes "SERVER_PORT") _ _ _ s5 (c.as_bytes.ensures.value ∙ c.format.ensures.text ∙ ap (λ (p : List ℕ × ℕ). decimal p.1) c.server-port.ensures) c.in_ok-set_static-6.ensures.set in
    let s7 = set_behind e _ _ (codes "SERVER_PROTOCOL") _ _ _ s6 (c.protocol.ensures ∙ ap protocol c.version.ensures) c.in_ok-set_static-7.ensures.set in
    let s8 = set_behind e _ _ (codes "REMOTE_ADDR") _ _ _ s7 c.get.ensures.value c.in_ok-set_static-8.ensures.set in
    let s9 = set_behind e _ _ (codes "rack.url_scheme") _ _ _ s8 c.scheme.ensures c.in_ok-set_static-9.ensures.set in
    let s10 = set_behind e _ _ (codes "rack.errors") _ (codes "discard") _ s9 refl c.in_ok-set_static-10.ensures.set in
    on_ok_weaker c.set_static-11.result (λ put. set_behind e _ _ (codes "rack.hijack?") _ _ _ s10 c.truth.ensures put) c.set_static-11.ensures.set
