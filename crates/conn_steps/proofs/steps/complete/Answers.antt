use Rattle.std.proofs.Common.{◌≡◌, Bool, true, ap, sym, subst, ◌∙◌}
use Rattle.talk_core.specs.Tail.{Voice, voice_of}
use Rattle.conn_steps.specs.declared.at.At.{At}
use Rattle.conn_steps.specs.declared.at.At.TheVariants as at
use Rattle.conn_steps.specs.Steps.{CompletesTo}
use Rattle.conn_steps.proofs.steps.complete.Goals as goal

pub returns-then-keeps-clause-completes : goal.returns-then-keeps-clause-completes
returns-then-keeps-clause-completes g c =
    let V : Voice g.row.H.Denot = voice_of g.H.Hijack in
    let is : c.args.at.now ≡ at.Writing true = c.in-Writing.is ∙ ap (λ (keeps : Bool). at.Writing keeps) c.if-keeps.true in
    subst (λ (a : At g.row.B.Denot g.row.H.Denot). CompletesTo c.args.late V a c.args.intake.now c.args.unfed.now c.feed_held.result c.feed_held.new.intake c.feed_held.new.unfed c.args.ring.now.items)
    (sym is) (c.advance.new.self, c.advance.ensures, c.feed_held.ensures, c.requires.empty)
