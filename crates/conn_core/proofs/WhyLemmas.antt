-- A place that is not Over names no why.
use Rattle.std.proofs.Common.{◌≡◌, ◌≢◌, refl, sym, ◌∙◌, None, inl, inr}
use Rattle.conn_steps.specs.declared.at.At.{At}
use Rattle.conn_steps.specs.declared.at.At.TheVariants as at
use Rattle.conn_steps.specs.declared.state.State.{State}
use Rattle.conn_steps.specs.declared.state.State.TheVariants as state
use Rattle.conn_steps.specs.Moves.{IsOwing}
use Rattle.conn_steps.specs.At.{IsSaying, state_at}
use Rattle.conn_steps.specs.Shown.{Shown, why_at}

-- a place that isn't Over names no why
pub no_why : {B H : Type 0} (a : At B H) → state_at a ≢ state.Over → why_at a ≡ None
no_why {B} {H} at.Reading h = refl
no_why {B} {H} at.Asked h = refl
no_why {B} {H} (at.Refused f) h = refl
no_why {B} {H} (at.Answering f) h = refl
no_why {B} {H} (at.Writing keeps) h = refl
no_why {B} {H} (at.Handing x) h = refl
no_why {B} {H} at.Refusing h = refl
no_why {B} {H} (at.Listening x) h = refl
no_why {B} {H} (at.Speaking x) h = refl
no_why {B} {H} at.Parting h = refl
no_why {B} {H} (at.Over w) h = absurd (h refl)

pub no_why_at : {B H : Type 0} (a : At B H) (s : State) → state_at a ≡ s → s ≢ state.Over → why_at a ≡ None
no_why_at {B} {H} a s e h = no_why a (λ over. h (sym e ∙ over))

-- so it is where bytes are owed
saying_live : {B H : Type 0} (a : At B H) → IsSaying a → state_at a ≢ state.Over
saying_live {B} {H} at.Reading is over = absurd is
saying_live {B} {H} at.Asked is over = absurd is
saying_live {B} {H} (at.Refused f) is over = absurd is
saying_live {B} {H} (at.Answering f) is over = cc
saying_live {B} {H} (at.Writing keeps) is over = cc
saying_live {B} {H} (at.Handing h) is over = cc
saying_live {B} {H} at.Refusing is over = cc
saying_live {B} {H} (at.Listening h) is over = absurd is
saying_live {B} {H} (at.Speaking h) is over = cc
saying_live {B} {H} at.Parting is over = cc
saying_live {B} {H} (at.Over w) is over = absurd is

pub no_why_saying : {B H : Type 0} (a : At B H) → IsSaying a → why_at a ≡ None
no_why_saying {B} {H} a is = no_why a (saying_live a is)

pub owing_live : (n : Shown) → IsOwing n → n.state ≢ state.Over
owing_live n owing over = elim owing [ inl x ↦ cc | inr x ↦ cc ]
