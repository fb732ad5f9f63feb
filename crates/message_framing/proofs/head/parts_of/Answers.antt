use Rattle.std.proofs.Common.{ap, sym, ◌∙◌, ◌≡◌, ◌≤◌, length, codes, Some, subst, List, ℕ}
use Rattle.std.specs.Str.{bytes_eq}
use Rattle.message_framing.specs.Target.{target_of}
use Rattle.message_framing.specs.Places.{SpansTarget}
use Rattle.message_framing.specs.Head.{version_of}
use Rattle.message_framing.proofs.PartsLemmas.{fault_connect, fault_formless, no_target, some_target, parts_of_head}
use Rattle.message_framing.proofs.head.parts_of.Goals as goal

pub returns-then-eq-clause-parts : goal.returns-then-eq-clause-parts
returns-then-eq-clause-parts c = λ h at.
    fault_connect h (ap (λ m. bytes_eq m (codes "CONNECT")) (sym (c.of-method.ensures ∙ at.method))
    ∙ ap (bytes_eq c.of-method.result.now) (sym c.as_slice.ensures) ∙ sym c.eq.ensures ∙ c.if-eq.true)

pub returns-in_default-clause-parts : goal.returns-in_default-clause-parts
returns-in_default-clause-parts c = λ h at.
    let other = ap (λ m. bytes_eq m (codes "CONNECT")) (sym (c.of-method.ensures ∙ at.method))
    ∙ ap (bytes_eq c.of-method.result.now) (sym c.as_slice.ensures) ∙ sym c.eq.ensures ∙ c.if-eq.false in
    fault_formless h other (ap (λ m. target_of m h.target) (sym (c.of-method.ensures ∙ at.method))
    ∙ ap (target_of c.of-method.result.now) (sym (c.of.ensures ∙ at.path)) ∙ no_target c.of.result.now _ c.in_default.ensures)

pub returns-clause-parts : goal.returns-clause-parts
returns-clause-parts c = λ h at.
    let other = ap (λ m. bytes_eq m (codes "CONNECT")) (sym (c.of-method.ensures ∙ at.method))
    ∙ ap (bytes_eq c.of-method.result.now) (sym c.as_slice.ensures) ∙ sym c.eq.ensures ∙ c.if-eq.false in
    let spans = c.in-Some.target in
    let found = some_target spans c.of.result.now _ c.in-Some.ensures in
    let same : c.of.result.now ≡ h.target = c.of.ensures ∙ at.path in
    let form : target_of h.method h.target ≡ Some found.0 =
    ap (λ m. target_of m h.target) (sym (c.of-method.ensures ∙ at.method)) ∙ ap (target_of c.of-method.result.now) (sym same) ∙ found.1 in
    let cover : SpansTarget spans h.target found.0 = subst (λ (w : List ℕ). SpansTarget spans w found.0) same found.2 in
    let fits : c.args.head.now.path.end ≤ length c.args.text.now = rw (← c.requires.len) c.requires.within.path.1 in
    record {
      target = found.0;
      form = form;
      no_connect = other;
      parts = λ body. rw (c.shifted.ensures, c.shifted-2.ensures, c.shifted_if.ensures)
          (parts_of_head c.args.text.now c.args.places.now c.args.head.now spans h found.0 c.args.start c.version_of.result body at c.requires.within.path.0 fits cover (c.version_of.ensures ∙ ap version_of at.version));
    }
