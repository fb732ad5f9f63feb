-- What crates above may cite: lemmas over the public definitions of this crate.
use Rattle.std.proofs.Common.{◌≡◌, ℕ, Bool, List, [], ◌∷◌, ◌++◌, refl, ap, sym, ◌∙◌, subst, append-nil, append_assoc}
use Rattle.hijack_core.specs.declared.never.Never.{Never}
use Rattle.master_core.specs.State.{MasterState}
use Rattle.rack_types.specs.declared.answer.Answer.{Answer}
use Rattle.rack_types.specs.Body.{Content}
use Rattle.rack_types.specs.Runner.{Asked, Becomes, BecomesBy}
use Rattle.control_http.specs.declared.control.Control.{Control}
use Rattle.control_http.specs.declared.seen.SlotSeen.{SlotSeen}
use Rattle.control_http.specs.Leads.{Leads}
use Rattle.control_http.specs.Runs.{Served, asked_in, answers_in}
use Rattle.control_http.proofs.RunsLemmas.{served-append}

-- no run leads nowhere
pub leads-none : {Ld : Type 0} (c : Control Ld) → Leads c c
leads-none c = record {
  master = refl;
  loader = refl;
  token = refl;
  seen = refl;
  given = refl;
  asked = [];
  answers = [];
  asked_is = sym (append-nil _);
  answers_is = sym (append-nil _);
  served = refl;
}

served_by : (token t : List ℕ) (seen s : List SlotSeen) (m n : MasterState) (asked : List (Asked × Bool)) (answers : List (Answer Content Never))
    → t ≡ token → s ≡ seen → Served t s m asked answers n → Served token seen m asked answers n
served_by token t seen s m n asked answers e f h =
    subst (λ (x : List ℕ). Served x seen m asked answers n) e (subst (λ (x : List SlotSeen). Served t x m asked answers n) f h)

-- runs behind runs lead on
pub leads-on : {Ld : Type 0} (a b c : Control Ld) → Leads a b → Leads b c → Leads a c
leads-on a b c h g = record {
  master = g.master ∙ h.master;
  loader = g.loader ∙ h.loader;
  token = g.token ∙ h.token;
  seen = g.seen ∙ h.seen;
  given = g.given ∙ h.given;
  asked = h.asked ++ g.asked;
  answers = h.answers ++ g.answers;
  asked_is = g.asked_is ∙ ap (λ (x : List (Asked × Bool)). x ++ g.asked) h.asked_is ∙ append_assoc (asked_in a.asked.items) h.asked g.asked;
  answers_is = g.answers_is ∙ ap (λ (x : List (Answer Content Never)). x ++ g.answers) h.answers_is ∙ append_assoc (answers_in a.answered.items) h.answers g.answers;
  served = served-append a.token.now a.seen.now h.asked g.asked h.answers g.answers a.master.now b.master.now c.master.now
      h.served (served_by a.token.now b.token.now a.seen.now b.seen.now b.master.now c.master.now g.asked g.answers h.token h.seen g.served);
}

becomes_by : {Ld : Type 0} (between : List (Control Ld)) (a c : Control Ld) → BecomesBy Leads between a c → Leads a c
becomes_by [] a c same = subst (λ (x : Control _). Leads a x) (sym same) (leads-none a)
becomes_by (b ∷ rest) a c h = leads-on a b c h.0 (becomes_by rest b c h.1)

-- what some runs make of it, it leads to
pub leads-Becomes : {Ld : Type 0} (a c : Control Ld) → Becomes Leads a c → Leads a c
leads-Becomes a c h = becomes_by h.0 a c h.1
