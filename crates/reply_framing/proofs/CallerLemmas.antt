-- For callers: what a framer owes of a reply, over any filling and emptying of a ring, and that replies have bytes.
use Rattle.std.proofs.Common.{◌≡◌, ◌≢◌, ℕ, Bool, true, false, if◌then◌else◌, List, [], ◌++◌, refl, ap, sym, ◌∙◌, append_assoc, Option, None, Some, Result, Ok, Err}
use Rattle.std.proofs.lemmas.List.{append-nil}
use Rattle.std.specs.declared.alloc.AllocError.{AllocError}
use Rattle.circular_buffer.specs.Buffer.{Buffer}
use Rattle.rack_types.specs.declared.rules.BodyRule.{BodyRule}
use Rattle.reply_framing.specs.declared.types.After.{After}
use Rattle.reply_framing.specs.declared.types.After.TheVariants.{Keep, Close, Hijack}
use Rattle.reply_framing.specs.declared.types.Filled.{Filled}
use Rattle.reply_framing.specs.declared.types.Filled.TheVariants.{Full, Done, Broke}
use Rattle.reply_framing.specs.Coming.{Rest, Coming}
use Rattle.reply_framing.specs.Fills.{Fills, IsFilled, after_then}
use Rattle.reply_framing.specs.Owes.{StandsFor, Owes}
use Rattle.reply_framing.specs.Reply.{WholeReply, body_after}
pub use Rattle.reply_framing.proofs.SaidLemmas.{reply_keeps_hold, reply_says, reply_some, fault_some}

-- of a framer that was just started nothing was appended
pub owes_at_start : {H : Type 0} (f : Coming H) (r : WholeReply H) → StandsFor f r → Owes f r []
owes_at_start f r s = record {
  bytes = sym s.bytes;
  rule = s.rule;
  after = ap (λ w. body_after w f.after) (sym s.rule) ∙ s.after;
  hijacker = s.hijacker;
}

-- what `after` tells behind a fill gives the same end
after_stays : (result : Result Filled AllocError) (rest : Rest) (ring : Buffer ℕ) (rule : Option BodyRule) (after : After)
    → IsFilled result rest ring → rest.rule ≡ rule → body_after rule (after_then result after) ≡ body_after rule after
after_stays (Ok Full) rest ring rule after filled same = refl
after_stays (Ok Done) rest ring rule after filled same = refl
after_stays (Ok (Broke b)) rest ring rule after filled same =
    let is : rule ≡ Some b = sym same ∙ filled.1 in
    ap (λ w. body_after w Close) is ∙ sym (ap (λ w. body_after w after) is)
after_stays (Err e) rest ring rule after filled same = refl

-- behind a fill that much more was appended
pub owes_fill : {H : Type 0} (f f' : Coming H) (r : WholeReply H) (sent : List ℕ) (result : Result Filled AllocError) (x y : Buffer ℕ)
    → Owes f r sent → (s : Fills f.rest result f'.rest x y) → f'.after ≡ after_then result f.after → f'.hijacker ≡ f.hijacker
    → Owes f' r (sent ++ s.appends.sent)
owes_fill f f' r sent result x y o s after hijacker = record {
  bytes = o.bytes ∙ ap (λ w. sent ++ w) s.appends.bytes ∙ sym (append_assoc sent s.appends.sent f'.rest.bytes);
  rule = s.rule ∙ o.rule;
  after = ap (body_after r.rule) after ∙ after_stays result f'.rest y r.rule f.after s.answer (s.rule ∙ o.rule) ∙ o.after;
  hijacker = hijacker ∙ o.hijacker;
}

-- the whole reply was appended
pub owes_done : {H : Type 0} (f : Coming H) (r : WholeReply H) (sent : List ℕ) → Owes f r sent → f.rest.bytes ≡ [] → r.bytes ≡ sent
owes_done f r sent o none = o.bytes ∙ ap (λ w. sent ++ w) none ∙ append-nil sent

-- behind a whole reply that broke no rule `after` is that of the reply
pub after_done : {H : Type 0} (f : Coming H) (r : WholeReply H) (sent : List ℕ) → Owes f r sent → f.rest.rule ≡ None → f.after ≡ r.after
after_done f r sent o none = sym (ap (λ w. body_after w f.after) (sym o.rule ∙ none)) ∙ o.after

-- behind a break the reply's is Close
pub after_broke : {H : Type 0} (f : Coming H) (r : WholeReply H) (sent : List ℕ) (rule : BodyRule) → Owes f r sent → f.rest.rule ≡ Some rule → r.after ≡ Close
after_broke f r sent rule o broke = sym o.after ∙ ap (λ w. body_after w f.after) (sym o.rule ∙ broke)

-- a fill moves bytes from what is to come into the ring, and what is owed stays
pub fill_moves : (o n : Rest) (result : Result Filled AllocError) (x y : Buffer ℕ) → Fills o result n x y → y.items ++ n.bytes ≡ x.items ++ o.bytes
fill_moves o n result x y s =
    ap (λ (w : Buffer ℕ). w.items ++ n.bytes) s.appends.ring ∙ append_assoc x.items s.appends.sent n.bytes ∙ ap (λ w. x.items ++ w) (sym s.appends.bytes)

-- and the ring's room stays
pub fill_room : (o n : Rest) (result : Result Filled AllocError) (x y : Buffer ℕ) → Fills o result n x y → y.capacity ≡ x.capacity
fill_room o n result x y s = ap (λ (w : Buffer ℕ). w.capacity) s.appends.ring

-- what neither keeps the connection nor hands it on closes it
pub close_else : (a : After) → a ≢ Keep → ¬ (a ≡ Hijack) → a ≡ Close
close_else Keep other held = absurd (other refl)
close_else Close other held = refl
close_else Hijack other held = absurd (held refl)

-- so one test tells which it is
pub after_by : (a : After) (keeps : Bool) → (keeps ≡ true → a ≡ Keep) → (keeps ≡ false → a ≢ Keep) → ¬ (a ≡ Hijack) → (if keeps then Keep else Close) ≡ a
after_by a true keeping other held = sym (keeping refl)
after_by a false keeping other held = sym (close_else a (other refl) held)

-- what becomes of the connection behind a reply, where this is still to come of it
pub owes_after : {H : Type 0} (f : Coming H) (r : WholeReply H) (sent : List ℕ) → Owes f r sent → body_after f.rest.rule f.after ≡ r.after
owes_after f r sent o = ap (λ w. body_after w f.after) o.rule ∙ o.after

-- stays over a fill
pub fill_after : (o n : Rest) (result : Result Filled AllocError) (x y : Buffer ℕ) (a : After) → Fills o result n x y
    → body_after n.rule (after_then result a) ≡ body_after o.rule a
fill_after o n result x y a s = after_stays result n y n.rule a s.answer refl ∙ ap (λ w. body_after w a) s.rule

-- and is told where all was appended
pub written_after : (o n : Rest) (filled : Filled) (x y : Buffer ℕ) (a : After) → filled ≢ Full → Fills o (Ok filled) n x y
    → after_then (Ok filled) a ≡ body_after o.rule a
written_after o n Full x y a some s = absurd (some refl)
written_after o n Done x y a some s = sym (ap (λ w. body_after w a) (sym s.rule ∙ s.answer.1))
written_after o n (Broke rule) x y a some s = sym (ap (λ w. body_after w a) (sym s.rule ∙ s.answer.1))

-- a fill makes no hijack of what is none
pub then_holds : (result : Result Filled AllocError) (a : After) → ¬ (a ≡ Hijack) → ¬ (after_then result a ≡ Hijack)
then_holds (Ok Full) a held = held
then_holds (Ok Done) a held = held
then_holds (Ok (Broke rule)) a held = λ e. let both : Close ≡ Hijack = e in cc
then_holds (Err e) a held = held
