use Rattle.std.proofs.Common.{arith, ◌≡◌, ◌||◌, suc, ◌-◌, drop, ap, sym, ◌∙◌}
use Rattle.std.specs.List.{list_any}
use Rattle.rack_types.specs.AnswerRules.{is_control}
use Rattle.rack_types.specs.Headers.{values_at}
use Rattle.lint_core.proofs.FoundLemmas.{any-drop}
use Rattle.lint_core.proofs.found.has_control.Goals as goal

pub values-preserved-then-is_control_in : goal.values-preserved-then-is_control_in
values-preserved-then-is_control_in c =
    let values = values_at c.args.i c.args.headers.now in
    let test = list_any is_control in
    let on : suc (c.values.j - 1) ≡ c.values.j = omega (arith, c.values-test.true) in
    let at : list_any test (drop (c.values.j - 1) values) ≡ (test c.value.result.now || c.values.found) =
    any-drop test values (c.values.j - 1) c.value.result.now c.value.ensures ∙ ap (λ b. test c.value.result.now || b) (ap (λ n. list_any test (drop n values)) on ∙ sym c.values.invariant.found) in
    record {
      within = omega (arith, c.values.invariant.within);
      found = c.if-is_control_in.true ∙ sym (at ∙ ap (λ b. b || c.values.found) (sym c.is_control_in.ensures ∙ c.if-is_control_in.true));
    }

pub values-preserved : goal.values-preserved
values-preserved c =
    let values = values_at c.args.i c.args.headers.now in
    let test = list_any is_control in
    let on : suc (c.values.j - 1) ≡ c.values.j = omega (arith, c.values-test.true) in
    let at : list_any test (drop (c.values.j - 1) values) ≡ (test c.value.result.now || c.values.found) =
    any-drop test values (c.values.j - 1) c.value.result.now c.value.ensures ∙ ap (λ b. test c.value.result.now || b) (ap (λ n. list_any test (drop n values)) on ∙ sym c.values.invariant.found) in
    record {
      within = omega (arith, c.values.invariant.within);
      found = sym (at ∙ ap (λ b. b || c.values.found) (sym c.is_control_in.ensures ∙ c.if-is_control_in.false));
    }
