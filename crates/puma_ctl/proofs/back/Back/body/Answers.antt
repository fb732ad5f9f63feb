use Rattle.std.proofs.Common.{List, ℕ, take, drop, refl, subst, ap, sym, ◌∙◌}
use Rattle.puma_ctl.specs.Reply.{BeginsReply}
use Rattle.puma_ctl.proofs.FoundLemmas.{body_is, body_awaits, never_begins}
use Rattle.puma_ctl.proofs.back.Back.body.Goals as goal

pub returns-in-Whole-clause-whole : goal.returns-in-Whole-clause-whole
returns-in-Whole-clause-whole c =
    body_is c.self.inside.found c.self.inside.bytes.items _ _ _ c.in-Whole.is c.self.invariant c.args.self.now c.self.view_is _
    (c.prefix.ensures ∙ ap (λ w. take c.in-Whole.length w) (c.suffix.ensures ∙ ap (λ w. drop c.in-Whole.start w) c.deref.ensures.value))

pub returns-in-Whole-clause-none : goal.returns-in-Whole-clause-none
returns-in-Whole-clause-none c =
    body_awaits c.self.inside.found c.self.inside.bytes.items _ _ _ c.in-Whole.is c.self.invariant c.args.self.now c.self.view_is _

pub returns-in_default : goal.returns-in_default
returns-in_default c = record {
  whole = λ status body y.
      absurd (never_begins c.self.inside.found c.self.inside.bytes.items c.in_default.not-Whole c.self.invariant status body
      (subst (λ (v : List ℕ). BeginsReply v status body) (sym c.self.view_is) y));
  none = λ awaits. refl;
}
