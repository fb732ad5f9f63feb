-- What answers say of a place. This serves inner contracts alone.
use Rattle.std.specs.Prelude.{◌≡◌, ◌≢◌, ℕ, ◌<◌, Bool, true, false, ◌⊎◌}
use Rattle.conn_steps.specs.declared.budget.Budget.{Budget}
use Rattle.conn_steps.specs.declared.at.At.{At}
use Rattle.conn_steps.specs.declared.state.Next.{Next}
use Rattle.conn_steps.specs.declared.state.Next.TheVariants as next
use Rattle.conn_steps.specs.declared.state.State.TheVariants as state
use Rattle.conn_steps.specs.Inner.{IsSpentBudget}
use Rattle.conn_steps.specs.At.{IsSaying, IsHearing, state_at}

-- behind a read that gave bytes or the peer's end
abbrev pub FedSo : {B H : Type 0} → Next → At B H → Type 0
FedSo {B} {H} next.Waiting a = ⊥
FedSo {B} {H} next.More a = (state_at a ≢ state.Over) × (state_at a ≢ state.Ready)
FedSo {B} {H} next.Ready a = state_at a ≡ state.Ready
FedSo {B} {H} next.TurnOver a = ⊥
FedSo {B} {H} next.Over a = state_at a ≡ state.Over

-- behind a turn, of which this is left
abbrev pub TurnedSo : {B H : Type 0} → Next → At B H → Budget → Bool → Type 0
TurnedSo {B} {H} next.Waiting a left more = (state_at a ≢ state.Over) × ¬ (IsSpentBudget left) × (left.came ≡ 0) × (more ≡ false)
TurnedSo {B} {H} next.More a left more = (state_at a ≢ state.Over) × ¬ (IsSpentBudget left) × ((0 < left.came) ⊎ (more ≡ true))
TurnedSo {B} {H} next.Ready a left more = ⊥
TurnedSo {B} {H} next.TurnOver a left more = (state_at a ≢ state.Over) × IsSpentBudget left
TurnedSo {B} {H} next.Over a left more = state_at a ≡ state.Over

-- behind so many writes, where the connection may have been handed to a hijacker
abbrev pub FlushedSo : {B H : Type 0} → Next → At B H → ℕ → Bool → Type 0
FlushedSo {B} {H} next.Waiting a writes handed =
    ((state_at a ≡ state.Answering) ⊎ ((state_at a ≡ state.Hijacked) × IsSaying a × (handed ≡ false))) × (writes ≢ 16)
FlushedSo {B} {H} next.More a writes handed =
    ((state_at a ≡ state.Reading) ⊎ ((state_at a ≡ state.Hijacked) × (IsHearing a ⊎ (handed ≡ true)))) × (writes ≢ 16)
FlushedSo {B} {H} next.Ready a writes handed = (state_at a ≡ state.Ready) × (writes ≢ 16)
FlushedSo {B} {H} next.TurnOver a writes handed = (state_at a ≢ state.Over) × (writes ≡ 16)
FlushedSo {B} {H} next.Over a writes handed = state_at a ≡ state.Over
