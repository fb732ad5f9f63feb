use Rattle.std.proofs.Common.{◌≡◌, List, ℕ, None, ap, ◌∙◌, sym, arith}
use Rattle.std.proofs.lemmas.Result.{on_ok_weaker}
use Rattle.rack_types.specs.Env.{add_pair, get_pair, Pairs}
use Rattle.rack_types.specs.Name.{given_bytes}
use Rattle.rack_types.specs.Table.{standing}
use Rattle.rack_types.proofs.TableLemmas.{absent_before, add_absent}
use Rattle.rack_types.proofs.table.Table.add.Goals as goal

pub returns-in-Some-2-clause-added : goal.returns-in-Some-2-clause-added
returns-in-Some-2-clause-added c =
    let t = c.place.new.self in
    let name = c.get.result.now in
    let separator = c.args.separator.now in
    let more = c.args.more.now in
    let absent : get_pair name (standing t) ≡ None = absent_before name t.map.entries t.count c.in-Some.i c.in-Some.ensures.place.2 (omega (arith, c.if-i-self.false)) in
    on_ok_weaker c.write.result
    (λ set. set ∙ sym (add_absent name separator more (standing t) absent)
    ∙ ap (λ (n : List ℕ). add_pair n separator more (standing t)) c.get.ensures
    ∙ ap (λ (ps : Pairs). add_pair (given_bytes c.args.name) separator more ps) c.in-Some.ensures.same)
    (c.write.ensures.set name c.in-Some.ensures.place.2)

pub returns-in-None-clause-added : goal.returns-in-None-clause-added
returns-in-None-clause-added c =
    let t = c.place.new.self in
    let name = given_bytes c.args.name in
    let separator = c.args.separator.now in
    let more = c.args.more.now in
    let absent : get_pair name (standing t) ≡ None = ap (λ (n : List ℕ). get_pair n (standing t)) (sym c.get.ensures) ∙ c.in-None.ensures.absent in
    on_ok_weaker c.insert.result
    (λ set. set ∙ sym (add_absent name separator more (standing t) absent)
    ∙ ap (λ (ps : Pairs). add_pair name separator more ps) c.in-None.ensures.same)
    c.insert.ensures.set
