-- What a run that finds the master busy, or gives an order, is.
use Rattle.std.proofs.Common.{◌≡◌, ℕ, Bool, true, false, cond, not, List, Option, Some, None, Result, Ok, Err, IfOk, refl, ap, sym, ◌∙◌}
use Rattle.std.specs.declared.alloc.AllocError.{AllocError}
use Rattle.hijack_core.specs.declared.never.Never.{Never}
use Rattle.master_core.specs.declared.loader.Load.{Load}
use Rattle.master_core.specs.declared.loader.Load.TheVariants.{Read}
use Rattle.master_core.specs.declared.order.Reply.TheVariants.{Busy}
use Rattle.master_core.specs.State.{MasterState}
use Rattle.master_core.specs.Orders.{is_busy, busy_with}
use Rattle.rack_types.specs.declared.answer.Answer.{Answer}
use Rattle.rack_types.specs.Answer.{told}
use Rattle.rack_types.specs.Body.{Content}
use Rattle.rack_types.specs.Plain.{PlainBody}
use Rattle.control_http.specs.declared.seen.SlotSeen.{SlotSeen}
use Rattle.control_http.specs.declared.wish.Wish.TheVariants.{PhasedRestart}
use Rattle.control_http.specs.Said.{answer_of, busy, restarted}
use Rattle.control_http.specs.Runs.{Serves}

-- an answer with its body's content in the body's place
abbrev pub shown : Answer PlainBody Never → Answer Content Never
shown a = told (λ b. b.content) a

loads_nothing : (b : Bool) (x y : ℕ × ℕ) → cond b (Some x) None ≡ Some y → not b ≡ true → ⊥
loads_nothing true x y is idle = cc
loads_nothing false x y is idle = cc

pub serves_busy : (r : Result (Answer PlainBody Never) AllocError) (seen : List SlotSeen) (last : Option Load) (m : MasterState) (phase target : ℕ)
    → busy_with m ≡ Some (phase, target) → IfOk r (λ a. shown a ≡ answer_of (busy phase target))
    → IfOk r (λ a. Serves PhasedRestart seen last m (shown a) m)
serves_busy (Ok a) seen last m phase target is says = record {
  load = Read;
  last_is = λ idle. absurd (loads_nothing (is_busy m) _ _ is idle);
  serves = record {
    answers = says ∙ ap (λ (o : Option (ℕ × ℕ)). answer_of (restarted o Read)) (sym is);
    orders = (Busy phase target, (is, refl));
  };
}
serves_busy (Err e) seen last m phase target is says = says
