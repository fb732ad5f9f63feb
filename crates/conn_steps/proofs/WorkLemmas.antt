-- What falls with each step.
use Rattle.std.proofs.Common.{◌≡◌, ◌<◌, ◌≤◌, refl, arith}
use Rattle.conn_steps.specs.declared.budget.Budget.{Budget}
use Rattle.conn_steps.specs.declared.at.At.{At}
use Rattle.conn_steps.specs.declared.at.At.TheVariants as at
use Rattle.conn_steps.specs.declared.state.State.TheVariants as state
use Rattle.conn_steps.specs.Inner.{rank, work}
use Rattle.conn_steps.specs.At.{state_at}

rank_over : {B H : Type 0} (a : At B H) → state_at a ≡ state.Over → rank a ≡ 0
rank_over {B} {H} at.Reading e = cc
rank_over {B} {H} at.Asked e = cc
rank_over {B} {H} (at.Refused f) e = cc
rank_over {B} {H} (at.Answering f) e = cc
rank_over {B} {H} (at.Writing keeps) e = cc
rank_over {B} {H} (at.Handing h) e = cc
rank_over {B} {H} at.Refusing e = cc
rank_over {B} {H} (at.Listening h) e = cc
rank_over {B} {H} (at.Speaking h) e = cc
rank_over {B} {H} at.Parting e = cc
rank_over {B} {H} (at.Over ended) e = refl

rank_ready : {B H : Type 0} (a : At B H) → state_at a ≡ state.Ready → 1 ≤ rank a
rank_ready {B} {H} at.Reading e = cc
rank_ready {B} {H} at.Asked e = let one : 1 ≤ 1 = omega arith in one
rank_ready {B} {H} (at.Refused f) e = let two : 1 ≤ 2 = omega arith in two
rank_ready {B} {H} (at.Answering f) e = cc
rank_ready {B} {H} (at.Writing keeps) e = cc
rank_ready {B} {H} (at.Handing h) e = cc
rank_ready {B} {H} at.Refusing e = cc
rank_ready {B} {H} (at.Listening h) e = cc
rank_ready {B} {H} (at.Speaking h) e = cc
rank_ready {B} {H} at.Parting e = cc
rank_ready {B} {H} (at.Over ended) e = cc

-- a connection that ended has nothing to do
pub over_falls : {B H : Type 0} (l : Budget) (a b : At B H) → state_at a ≡ state.Ready → state_at b ≡ state.Over → work l b < work l a
over_falls {B} {H} l a b ready over = omega (arith, rank_over b over, rank_ready a ready)
