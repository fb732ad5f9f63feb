-- What stands of a framer behind a fill.
use Rattle.std.proofs.Common.{◌≡◌, ℕ, Bool, true, false, List, Option, None, Some, refl, ap, sym, ◌∙◌}
use Rattle.std.specs.Prelude.{is_some, IsSome, ◌↔◌, if◌then◌else◌}
use Rattle.rack_types.specs.declared.rules.BodyRule.{BodyRule}
use Rattle.rack_types.specs.Body.{Content}
use Rattle.reply_framing.specs.declared.types.After.{After}
use Rattle.reply_framing.specs.declared.types.After.TheVariants.{Keep, Close, Hijack}
use Rattle.reply_framing.specs.declared.pull.Pull.{Pull}
use Rattle.reply_framing.specs.declared.pull.Stage.TheVariants.{Ended}
use Rattle.reply_framing.specs.Body.{rule_in}
use Rattle.reply_framing.specs.Framer.{IsFramer, is_hijack}
use Rattle.reply_framing.specs.Pull.{IsIn, content_of, rest_of, rule_by}

hijack_or_not : (after : After) → ¬ (after ≡ Hijack) → is_hijack after ≡ false
hijack_or_not Keep other = refl
hijack_or_not Close other = refl
hijack_or_not Hijack other = absurd (other refl)

module _ {B H : Type 0} (content : B → Content) (taken : B → List ℕ) where
  -- a fill that met no break
  pub goes_on : (p q : Pull B) (after : After) (hijacker : Option H) → IsFramer content taken p after hijacker → IsIn content taken q
      → q.form ≡ p.form → IsFramer content taken q after hijacker
  goes_on p q after hijacker f within form = record { within = within; held = f.held; silent = λ e. form ∙ f.silent e }

  -- a fill that met one
  pub closes : (p q : Pull B) (rule : BodyRule) (after : After) (hijacker : Option H) → IsFramer content taken p after hijacker → IsIn content taken q
      → q.form ≡ p.form → (rest_of content taken q).rule ≡ Some rule → IsFramer content taken q Close hijacker
  closes p q rule after hijacker f within form broke =
      let open_after : ¬ (after ≡ Hijack) = λ e.
      let ended : q.stage ≡ Ended = within.bare (form ∙ f.silent e) in
      let none : (rest_of content taken q).rule ≡ None = ap (λ s. rule_by s (rule_in q.form q.watch (content_of content taken q.body).pieces (content_of content taken q.body).raises)) ended in
      let both : Some rule ≡ None = sym broke ∙ none in cc in
      record { within = within; held = f.held ∙ hijack_or_not after open_after; silent = λ e. let both : Close ≡ Hijack = e in cc }

-- a reply with a body is no hijack
kept_or_closed : (t : Bool) → is_hijack (if t then Close else Keep) ≡ false
kept_or_closed true = refl
kept_or_closed false = refl

pub no_hijack : {B H : Type 0} (content : B → Content) (taken : B → List ℕ) (p : Pull B) (after : After) (t : Bool) → IsIn content taken p
    → after ≡ (if t then Close else Keep) → IsFramer {H = H} content taken p after None
no_hijack content taken p after t within is =
    let no : is_hijack after ≡ false = ap is_hijack is ∙ kept_or_closed t in
    record { within = within; held = sym no; silent = λ e. let yes : is_hijack after ≡ true = ap is_hijack e in let both : true ≡ false = sym yes ∙ no in cc }

-- a hijacker is there exactly at a hijack
pub handed_out : {H : Type 0} (hijacker : Option H) (after : After) → is_some hijacker ≡ is_hijack after → (IsSome hijacker) ↔ (after ≡ Hijack)
handed_out None Keep held = (λ s. let n : false ≡ true = s in cc, λ e. let b : Keep ≡ Hijack = e in cc)
handed_out None Close held = (λ s. let n : false ≡ true = s in cc, λ e. let b : Close ≡ Hijack = e in cc)
handed_out None Hijack held = cc
handed_out (Some h) Keep held = cc
handed_out (Some h) Close held = cc
handed_out (Some h) Hijack held = (λ s. refl, λ e. refl)
