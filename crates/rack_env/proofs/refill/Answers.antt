use Rattle.std.proofs.Common.{◌≡◌, ◌<◌, ◌^◌, arith, length, sym, ap, ◌∙◌, codes}
use Rattle.std.proofs.lemmas.Result.{on_ok_weaker}
use Rattle.rack_types.specs.Env.{Environment, get_pair, with_pairs}
use Rattle.rack_types.specs.Input.{Reading}
use Rattle.rack_types.specs.Request.{with_body}
use Rattle.rack_types.specs.Rules.{broken_env_rule}
use Rattle.rack_env.specs.Environment.{env_pairs}
use Rattle.rack_env.specs.Placing.{host_last, place_field}
use Rattle.std.specs.List.{fold}
use Rattle.rack_env.proofs.EnvLemmas.{no_type_fixed, no_length_fixed, env_whole, input_kept}
use Rattle.rack_env.proofs.RuleLemmas.{keeps_rules, sound_whole}
use Rattle.rack_env.proofs.refill.Goals as goal

pub put_content-requires-clause-no_type : goal.put_content-requires-clause-no_type
put_content-requires-clause-no_type c =
    ap (λ (e : Environment). get_pair (codes "CONTENT_TYPE") e.pairs) c.in_ok-put_fixed.ensures ∙ no_type_fixed c.args.request.now c.args.peer.now c.args.local.now

pub put_content-requires-clause-no_length : goal.put_content-requires-clause-no_length
put_content-requires-clause-no_length c =
    ap (λ (e : Environment). get_pair (codes "CONTENT_LENGTH") e.pairs) c.in_ok-put_fixed.ensures ∙ no_length_fixed c.args.request.now c.args.peer.now c.args.local.now

-- the fields were put behind the others
abbrev FieldsPut : goal.After-put_fields → Type 0
FieldsPut c = c.put_fields.new.env ≡ with_pairs c.put_content.new.env
    (host_last c.args.request.now.authority (fold (place_field c.args.request.now.authority) c.put_content.new.env.pairs c.args.request.now.fields))

all_pairs : (c : goal.After-put_fields) → FieldsPut c → c.put_fields.new.env.pairs ≡ env_pairs (with_body c.args.input.bytes c.args.request.now) c.args.peer.now c.args.local.now
all_pairs c put =
    env_whole c.clear.new.self c.put_fixed.new.env c.put_content.new.env c.put_fields.new.env c.args.request.now c.args.input.bytes c.args.peer.now c.args.local.now c.args.input
    c.clear.ensures c.in_ok-put_fixed.ensures (c.in_ok-put_content.ensures c.args.input.bytes (ap length (sym c.all-body.ensures))) put

same_input : (c : goal.After-put_fields) → FieldsPut c → c.put_fields.new.env.input ≡ c.args.input
same_input c put =
    input_kept c.clear.new.self c.put_fixed.new.env c.put_content.new.env c.put_fields.new.env c.args.input _ _ _
    c.clear.ensures c.in_ok-put_fixed.ensures (c.in_ok-put_content.ensures c.args.input.bytes (ap length (sym c.all-body.ensures))) put

pub returns-clause-pairs : goal.returns-clause-pairs
returns-clause-pairs c = on_ok_weaker c.put_fields.result (all_pairs c) c.put_fields.ensures

pub returns-clause-input : goal.returns-clause-input
returns-clause-input c = on_ok_weaker c.put_fields.result (same_input c) c.put_fields.ensures

pub returns-clause-whole : goal.returns-clause-whole
returns-clause-whole c = λ unread.
    on_ok_weaker c.put_fields.result
    (λ put. ap (λ ps. record { pairs = ps; input = c.put_fields.new.env.input }) (all_pairs c put)
    ∙ ap (λ (i : Reading). record { pairs = env_pairs (with_body c.args.input.bytes c.args.request.now) c.args.peer.now c.args.local.now; input = i }) (same_input c put ∙ unread))
    c.put_fields.ensures

pub returns-clause-rules : goal.returns-clause-rules
returns-clause-rules c = λ some.
    let small : length c.args.input.bytes < 2 ^ 64 = omega (arith, c.all-body.type_inv, ap length c.all-body.ensures) in
    on_ok_weaker c.put_fields.result
    (λ put. ap broken_env_rule (all_pairs c put)
    ∙ keeps_rules (with_body c.args.input.bytes c.args.request.now) c.args.peer.now c.args.local.now (sound_whole c.args.request.now c.args.input.bytes c.soundness.ensures) some small)
    c.put_fields.ensures
