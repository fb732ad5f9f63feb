use Rattle.std.proofs.Common.{ap, sym, ◌∙◌, ◌≡◌, false, ◌&&◌, List, ℕ, Option, None, Some, subst, codes, drop}
use Rattle.std.specs.Str.{bytes_eq}
use Rattle.message_framing.specs.declared.target.TargetSpans.{TargetSpans}
use Rattle.message_framing.specs.Target.{Target, absolute}
use Rattle.message_framing.specs.Places.{PartsTarget}
use Rattle.message_framing.proofs.TargetLemmas.{target_unclean, target_slash, target_scheme, target_asterisk, target_other, no_scheme, some_scheme, and_false}
use Rattle.message_framing.proofs.target.read_target.Goals as goal
use Rattle.message_framing.proofs.target.read_target.Goals.{else-eq-via-then-eq+else-eq-2, else-eq-via-else-eq}

-- the parts are right of the target that the bytes are
as_target : (spans : Option TargetSpans) (bytes : List ℕ) (found target : Option Target) → target ≡ found → PartsTarget spans bytes found → PartsTarget spans bytes target
as_target spans bytes found target is h = subst (λ (t : Option Target). PartsTarget spans bytes t) (sym is) h

pub returns-then-not-are_target_bytes : goal.returns-then-not-are_target_bytes
returns-then-not-are_target_bytes c =
    as_target None c.args.target.now None _ (target_unclean _ _ (sym c.are_target_bytes.ensures ∙ c.if-not-are_target_bytes.true)) tt

pub returns-then-begins_with_slash : goal.returns-then-begins_with_slash
returns-then-begins_with_slash c =
    as_target (Some c.with_path.result) _ _ _ (target_slash _ _ (sym c.are_target_bytes.ensures ∙ c.if-not-are_target_bytes.false)
    (sym c.begins_with_slash.ensures ∙ c.if-begins_with_slash.true)) c.with_path.ensures

pub returns-then-scheme-gt0 : goal.returns-then-scheme-gt0
returns-then-scheme-gt0 c =
    as_target c.absolute.result _ _ _ (target_scheme _ _ (sym c.are_target_bytes.ensures ∙ c.if-not-are_target_bytes.false)
    (sym c.begins_with_slash.ensures ∙ c.if-begins_with_slash.false) (some_scheme _ _ c.scheme_len-scheme.ensures.value c.if-scheme-gt0.true))
    (subst (λ (n : ℕ). PartsTarget c.absolute.result c.args.target.now (absolute (drop n c.args.target.now))) c.scheme_len-scheme.ensures.value c.absolute.ensures)

pub returns-then-eq-2 : goal.returns-then-eq-2
returns-then-eq-2 c =
    as_target (Some c.with_path-then-eq-2.result) _ _ _ (target_asterisk _ _ (sym c.are_target_bytes.ensures ∙ c.if-not-are_target_bytes.false)
    (sym c.begins_with_slash.ensures ∙ c.if-begins_with_slash.false) (no_scheme _ _ c.scheme_len-scheme.ensures.value c.if-scheme-gt0.false)
    (ap (bytes_eq c.args.target.now) (sym c.as_slice.ensures) ∙ sym c.eq.ensures ∙ c.if-eq.true)
    (ap (bytes_eq c.args.method.now) (sym c.as_slice-then-eq.ensures) ∙ sym c.eq-then-eq.ensures ∙ c.if-eq-2.true)) c.with_path-then-eq-2.ensures

pub returns : goal.returns
returns c =
    let other : (bytes_eq c.args.target.now (codes "*") && bytes_eq c.args.method.now (codes "OPTIONS")) ≡ false = elim c.else-eq.branch [
      | else-eq-via-then-eq+else-eq-2 w ↦
          and_false _ _ (ap (bytes_eq c.args.method.now) (sym w.as_slice-then-eq.ensures) ∙ sym w.eq-then-eq.ensures ∙ w.if-eq-2.false)
      | else-eq-via-else-eq w ↦
          ap (λ b. b && bytes_eq c.args.method.now (codes "OPTIONS")) (ap (bytes_eq c.args.target.now) (sym c.as_slice.ensures) ∙ sym c.eq.ensures ∙ w.if-eq.false)
    ] in
    as_target None c.args.target.now None _ (target_other _ _ (sym c.are_target_bytes.ensures ∙ c.if-not-are_target_bytes.false)
    (sym c.begins_with_slash.ensures ∙ c.if-begins_with_slash.false) (no_scheme _ _ c.scheme_len-scheme.ensures.value c.if-scheme-gt0.false) other) tt
