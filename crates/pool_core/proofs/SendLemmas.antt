-- That a lane and a pass may go to another thread, wherever their items and data may: for closures that
-- take more of them than `search` can tell apart.
use denote.RattleType.{RattleType}
use denote.Param.Send.{IsSend, IsSync, sendable, recorded_send, struct_send, AllSend}
use denote.Struct.Declared.{Declared, shape, row}
use mir.Syntax.{Dict}
use Rattle.std.proofs.Crossing.{Arc-send, send, sync, frees}
use Rattle.std_heap.specs.contracts.GlobalAllocator.TheImpl.{ghosts}
use Rattle.std_heap.specs.contracts.Global as heap
use Rattle.std.specs.contracts.option.Option as option
use Rattle.std_alloc.specs.contracts.arc.Arc as arc
use Rattle.atomic_table.specs.contracts.shared.Seat as seated
use Rattle.atomic_table.proofs.shared.Seat.TheSendSync as seat
use Rattle.crossbeam_queue.specs.contracts.array_queue.Doing as doing
use Rattle.crossbeam_queue.specs.contracts.array_queue.Slotted as slots
use Rattle.crossbeam_queue.specs.contracts.array_queue.Turns as turns
use Rattle.crossbeam_queue.specs.contracts.array_queue.TurnsTableRuleOptionDoingUnit.TheImpl as ruled
use Rattle.crossbeam_queue.proofs.array_queue.Slotted.TheSendSync as slotted
use Rattle.rack_outside.specs.declared.numbered.Numbered as numbered
use Rattle.pool_core.specs.declared.numbered.LaneRule as laws
use Rattle.pool_core.specs.contracts.view.Cargo as cargo
use Rattle.pool_core.specs.contracts.view.PassView as viewed
use Rattle.pool_core.specs.contracts.steps.OneLane as rule
use Rattle.pool_core.specs.contracts.steps.OneLaneProtocolCargoDataPassViewData.TheImpl as held_by
use Rattle.pool_core.specs.contracts.lane.LaneOver as lane
use Rattle.pool_core.specs.contracts.lane.PassOver as pass
use Rattle.pool_core.proofs.lane.LaneOver.TheSendSync as over
use Rattle.pool_core.proofs.lane.PassOver.TheSendSync as passed

-- a struct whose fields may go may go
pub struct_may : (W : Declared) → AllSend (shape W).fields → IsSend (row W)
struct_may W all = recorded_send _ _ _ W.to_one (struct_send (shape W) all)

cargo_send : (T D : RattleType) → IsSend T → IsSend D → IsSend (cargo.the_row T D)
cargo_send T D t d = search sendable depth 14

-- what lies in a place of the queue, and what a pass knows
abbrev pub Place : RattleType → RattleType → RattleType
Place T D = option.the_row (cargo.the_row T D)

abbrev pub View : RattleType → RattleType → RattleType
View T D = doing.the_row (cargo.the_row T D) (viewed.the_row D)

place_send : (T D : RattleType) → IsSend T → IsSend D → IsSend (Place T D)
place_send T D t d = let c = cargo_send T D t d in search sendable depth 14

-- a pass, for items and data of these types
abbrev pub PassRow : RattleType → RattleType → RattleType
PassRow T D = pass.the_row (seated.the_row (Place T D) (View T D))

pub pass_send : (T D : RattleType) → IsSend T → IsSend D → IsSend (PassRow T D)
pass_send T D t d = passed.the_send (seated.the_row (Place T D) (View T D)) (seat.the_send (Place T D) (View T D) (place_send T D t d))

module _ (T R D : RattleType) (n : numbered.Ghosts T.Denot) (r : laws.Ghosts R.Denot T.Denot D.Denot) (δ : Dict) where
  -- the queue of a lane, and a lane in an `Arc`
  abbrev pub QueueRow : RattleType
  QueueRow =
      slots.the_row (Place T D) (View T D) (turns.the_row (rule.the_row T R)) heap.the_row
      (ruled.ghosts (cargo.the_row T D) (viewed.the_row D) (rule.the_row T R) (held_by.ghosts T R D n δ r δ δ) δ) ghosts

  abbrev pub LaneRow : RattleType
  LaneRow = arc.the_row (lane.the_row QueueRow) heap.the_row ghosts

  pub lane_send : IsSend T → IsSend D → IsSend (lane.the_row QueueRow)
  lane_send t d =
      over.the_send QueueRow
      (slotted.the_send (Place T D) (View T D) (turns.the_row (rule.the_row T R)) heap.the_row
      (ruled.ghosts (cargo.the_row T D) (viewed.the_row D) (rule.the_row T R) (held_by.ghosts T R D n δ r δ δ) δ) ghosts (place_send T D t d) send frees)

  pub lane_sync : IsSend T → IsSend D → IsSync (lane.the_row QueueRow)
  lane_sync t d =
      over.the_sync QueueRow
      (slotted.the_sync (Place T D) (View T D) (turns.the_row (rule.the_row T R)) heap.the_row
      (ruled.ghosts (cargo.the_row T D) (viewed.the_row D) (rule.the_row T R) (held_by.ghosts T R D n δ r δ δ) δ) ghosts (place_send T D t d) send sync frees)

  pub shared_lane_send : IsSend T → IsSend D → IsSend LaneRow
  shared_lane_send t d = Arc-send (lane.the_row QueueRow) (lane_send t d) (lane_sync t d)
