use Rattle.std.proofs.Common.{sym, ◌∙◌, ap, codes, ◌≡◌, ◌≤◌, true, false, arith, length, take}
use Rattle.std.proofs.lemmas.List.{take_all}
use Rattle.rack_text.specs.Case.{same_ignoring_case}
use Rattle.rack_types.specs.Fields.{goes_on, some_list_has, values_of}
use Rattle.rack_types.proofs.FieldLemmas.{IsFieldAt, seen_here, seen_elsewhere, field_at_name}
use Rattle.rack_types.proofs.request.Request.persists.Goals as goal
use Rattle.rack_types.proofs.request.Request.persists.Goals.{then-same_ignoring_case, else-same_ignoring_case}

pub loop-i-preserved : goal.loop-i-preserved
loop-i-preserved c = elim c.if-same_ignoring_case.branch [
  | then-same_ignoring_case w ↦
      let at : IsFieldAt c.args.self.now.fields c.loop-i.i c.field_name.result.now w.field_value-value.result.now =
      record { name_is = c.field_name.ensures; value_is = w.field_value-value.ensures } in
      let same : same_ignoring_case c.field_name.result.now (codes "connection") ≡ true = sym c.same_ignoring_case.ensures.value ∙ w.if-same_ignoring_case.true in (
        rw (w.close-is, w.list_has-close.ensures) (seen_here _ _ _ _ _ _ _ at c.loop-i.invariant.0 same),
        rw (w.keep_alive-is, w.list_has-keep_alive.ensures) (seen_here _ _ _ _ _ _ _ at c.loop-i.invariant.1 same),
      )
  | else-same_ignoring_case w ↦
      let at = field_at_name c.args.self.now.fields c.loop-i.i c.field_name.result.now c.field_name.ensures in
      let other : same_ignoring_case c.field_name.result.now (codes "connection") ≡ false = sym c.same_ignoring_case.ensures.value ∙ w.if-same_ignoring_case.false in
      (rw w.close-is (seen_elsewhere _ _ _ _ _ _ _ at.1 c.loop-i.invariant.0 other), rw w.keep_alive-is (seen_elsewhere _ _ _ _ _ _ _ at.1 c.loop-i.invariant.1 other))
]

pub returns : goal.returns
returns c =
    let past : length c.args.self.now.fields ≤ c.loop-i.i = omega (arith, c.loop-i-test.false, c.field_count-i-end.ensures) in
    let all : take c.loop-i.i c.args.self.now.fields ≡ c.args.self.now.fields = take_all c.loop-i.i c.args.self.now.fields past in
    let close = c.loop-i.invariant.0.is ∙ ap (λ fs. some_list_has (codes "close") (values_of (codes "connection") fs)) all in
    let keep_alive = c.loop-i.invariant.1.is ∙ ap (λ fs. some_list_has (codes "keep-alive") (values_of (codes "connection") fs)) all in
    c.goes_on.ensures ∙ ap (λ v. goes_on v c.loop-i.close c.loop-i.keep_alive) c.version.ensures
    ∙ ap (λ b. goes_on c.args.self.now.version b c.loop-i.keep_alive) close
    ∙ ap (λ b. goes_on c.args.self.now.version (some_list_has (codes "close") (values_of (codes "connection") c.args.self.now.fields)) b) keep_alive
