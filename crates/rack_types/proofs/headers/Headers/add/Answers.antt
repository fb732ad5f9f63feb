use Rattle.std.proofs.Common.{◌≡◌, refl, ap, ◌∙◌, sym, None, ◌∷◌, [], ◌++◌}
use Rattle.std.proofs.lemmas.Result.{err_from_is_err_and}
use Rattle.rack_types.specs.Headers.{header_values}
use Rattle.rack_types.specs.HeaderStore.{headers_of, kept_values}
use Rattle.rack_types.proofs.HeaderLemmas.{header_values-lookup, add_header-set_value, add_header-absent, same_values-set_value, AreDistinctNames-from_keys}
use Rattle.rack_types.proofs.headers.Headers.add.Goals as goal

pub returns-in_default-clause-added : goal.returns-in_default-clause-added
returns-in_default-clause-added c =
    let absent : header_values c.args.name.now c.args.self.now ≡ None = rw (← c.self.view_is, header_values-lookup, ← c.in_default.ensures.value) in
    rw (add_header-absent c.args.name.now c.args.value.now c.args.self.now absent, ← c.in_ok-name.ensures, ← c.in_ok-value.ensures, ← c.self.view_is) (c.in_ok-put.ensures.set ∙ rw (c.get_mut.follows.holds-at-none) refl)

pub returns-in_err-push_value-clause-unchanged : goal.returns-in_err-push_value-clause-unchanged
returns-in_err-push_value-clause-unchanged c =
    let p = err_from_is_err_and c.from_residual-in_err-push_value.result c.from_residual-in_err-push_value.ensures.1 in
    rw (p.1, ← c.self.view_is) (ap headers_of (c.get_mut.follows.holds c.push_value.new.values).0 ∙ same_values-set_value c.args.name.now c.push_value.new.values c.in-Some.values.now c.self.inside.map.entries (sym c.in-Some.ensures.value) c.in_err-push_value.ensures.unchanged)

pub invariant_of-self-2 : goal.invariant_of-self-2
invariant_of-self-2 c = AreDistinctNames-from_keys _ (c.get_mut.follows.holds c.push_value.new.values).4

pub returns-clause-added : goal.returns-clause-added
returns-clause-added c =
    let values = kept_values c.in-Some.values.now in
    let more : kept_values c.push_value.new.values ≡ values ++ c.args.value.now ∷ [] = c.in_ok-push_value.ensures.added ∙ ap (λ v. values ++ v ∷ []) c.in_ok-value.ensures in
    rw (← c.self.view_is) (ap headers_of (c.get_mut.follows.holds c.push_value.new.values).0 ∙ add_header-set_value c.args.name.now c.args.value.now c.push_value.new.values c.in-Some.values.now c.self.inside.map.entries (sym c.in-Some.ensures.value) more)
