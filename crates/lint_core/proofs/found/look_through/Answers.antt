use Rattle.std.proofs.Common.{arith, ◌≡◌, ap, ◌∙◌, sym, suc, ◌-◌, drop}
use Rattle.rack_types.specs.Headers.{values_at}
use Rattle.lint_core.specs.Found.{found_in, with_header}
use Rattle.lint_core.proofs.FoundLemmas.{found_in-drop}
use Rattle.lint_core.proofs.found.look_through.Goals as goal

pub headers-preserved : goal.headers-preserved
headers-preserved c =
    let headers = c.args.headers.now in
    let on : suc (c.headers.i - 1) ≡ c.headers.i = omega (arith, c.headers-test.true) in
    let name = c.name.result.now in
    record {
      within = omega (arith, c.headers.invariant.within);
      found = c.look_at-found.ensures
          ∙ ap (with_header name (values_at (c.headers.i - 1) headers)) (c.headers.invariant.found ∙ ap (λ n. found_in (drop n headers)) (sym on))
          ∙ found_in-drop headers (c.headers.i - 1) name (omega (arith, c.headers.invariant.within, c.headers-test.true)) c.name.ensures;
    }

pub returns : goal.returns
returns c =
    let none : c.headers.i ≡ 0 = omega (arith, c.headers-test.false) in
    c.headers.invariant.found ∙ ap (λ n. found_in (drop n c.args.headers.now)) none
