-- Tellers that agree on the first requests, and one that is told what answers the next.
use Rattle.std.proofs.Common.{◌≡◌, ℕ, ◌<◌, ◌≤◌, ◌==◌, Bool, true, false, if◌then◌else◌, refl, sym, ap, ◌∙◌, arith}
use Rattle.std.proofs.lemmas.Bool.Decides.{nat_tests}
use Rattle.rack_types.specs.Request.{Parts}
use Rattle.reply_framing.specs.Reply.{WholeReply}
use Rattle.talk_core.specs.Teller.{Teller, AgreesBelow}

-- the reply to request n is this one, and to all others that of T
abbrev pub told_at : {H : Type 0} → Teller H → ℕ → (Parts → WholeReply H) → Teller H
told_at T n f i r = if i == n then f r else T i r

pub agrees_same : {H : Type 0} (T : Teller H) (n : ℕ) → AgreesBelow n T T
agrees_same T n i lt r = refl

pub agrees_less : {H : Type 0} (T U : Teller H) (n m : ℕ) → n ≤ m → AgreesBelow m T U → AgreesBelow n T U
agrees_less T U n m few same i lt r = same i (omega (arith, lt, few)) r

pub agrees_trans : {H : Type 0} (T U W : Teller H) (n m : ℕ) → n ≤ m → AgreesBelow n T U → AgreesBelow m U W → AgreesBelow n T W
agrees_trans T U W n m few same more i lt r = same i lt r ∙ more i (omega (arith, lt, few)) r

differs : (i n : ℕ) → i < n → (i == n) ≡ false
differs i n lt = grind (arith, nat_tests)

equals : (n : ℕ) → (n == n) ≡ true
equals n = grind (arith, nat_tests)

pub told_before : {H : Type 0} (T : Teller H) (n : ℕ) (f : Parts → WholeReply H) → AgreesBelow n T (told_at T n f)
told_before T n f i lt r = sym (ap (λ (b : Bool). if b then f r else T i r) (differs i n lt))

pub told_here : {H : Type 0} (T : Teller H) (n : ℕ) (f : Parts → WholeReply H) (r : Parts) → told_at T n f n r ≡ f r
told_here T n f r = ap (λ (b : Bool). if b then f r else T n r) (equals n)
