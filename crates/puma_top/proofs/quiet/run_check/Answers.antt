use Rattle.std.proofs.Common.{◌≡◌, ◌++◌, ℕ, List, ap, subst, ◌∙◌}
use Rattle.builder_core.specs.Plan.{plan}
use Rattle.stack_file.specs.Canon.{canonical}
use Rattle.puma_top.specs.QuietSteps.{Prints}
use Rattle.puma_top.specs.Seen.{sink_seen}
use Rattle.puma_top.proofs.QuietLemmas.{check_printed}
use Rattle.puma_top.proofs.quiet.run_check.Goals as goal

pub returns-in-Ok-write-clause-did : goal.returns-in-Ok-write-clause-did
returns-in-Ok-write-clause-did g c =
    let steps = plan c.in-Ok.steps in
    let text : c.deref.result.now ≡ canonical steps =
    ◌∙◌ {A = List ℕ} c.deref.ensures.value
    (◌∙◌ {A = List ℕ} c.in-Ok-write.ensures.written (ap (λ (x : List ℕ). x ++ canonical steps) c.new-text.ensures.items)) in
    let sink = sink_seen g.K.Sink.written g.K.Sink.faults c.args.out.now in
    let then = sink_seen g.K.Sink.written g.K.Sink.faults c.print.new.out in
    check_printed c.print.result c.args.name.now steps _ _ sink then c.in-Ok.ensures
    (subst (λ (t : List ℕ). Prints c.print.result t sink then) text c.print.ensures)
