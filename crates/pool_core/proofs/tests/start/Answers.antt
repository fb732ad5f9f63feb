use denote.Builtin.{u8, u32}
use denote.Exit as Exit
use denote.Param.{param, arg}
use denote.Param.Send.{IsSend, AllSend, sendable, param_send, arg_send}
use denote.RattleType.{RattleType}
use denote.Struct.Tuple.{TupleAt, type_at}
use mir.Syntax.{ty_bool, given}
use Rattle.std.proofs.Common.{List, [], ◌∷◌}
use Rattle.std.proofs.Crossing.{Vec-send}
use Rattle.std_alloc.specs.contracts.vec.Vec as vec
use Rattle.std_heap.specs.contracts.Global as heap
use Rattle.std_heap.specs.contracts.GlobalAllocator.TheImpl.{ghosts}
use Rattle.pool_core.specs.contracts.tests.Below as below
use Rattle.pool_core.specs.contracts.tests.BelowLaneRuleItem.TheImpl as below_rule
use Rattle.pool_core.specs.contracts.tests.Item as item
use Rattle.pool_core.specs.contracts.tests.start.{R-row}
use Rattle.pool_core.specs.contracts.tests.ItemNumbered.TheImpl as item_numbered
use Rattle.pool_core.proofs.SendLemmas.{struct_may, PassRow, pass_send, LaneRow, shared_lane_send}
use Rattle.pool_core.proofs.tests.start.Goals as goal

item_send : IsSend item.the_row
item_send = search sendable depth 14

number_send : IsSend u32
number_send = search sendable depth 14

byte_send : IsSend u8
byte_send = search sendable depth 14

-- the closure takes the handle, the lane, a pass, the counts and a number
pub spawn_with-requires-send-F : goal.spawn_with-requires-send-F
spawn_with-requires-send-F g c κs within =
    let R = R-row g.row.R in
    let Rs : List RattleType =
    R
    ∷ LaneRow item.the_row below.the_row u32 item_numbered.ghosts below_rule.ghosts (given 0)
    ∷ PassRow item.the_row u32
    ∷ vec.the_row u8 heap.the_row ghosts
    ∷ u32
    ∷ [] in
    let r : IsSend R = c.type_bounds.send-R in
    let all : AllSend Rs =
    (r, (shared_lane_send item.the_row below.the_row u32 item_numbered.ghosts below_rule.ghosts (given 0) item_send number_send, (pass_send item.the_row u32 item_send number_send, (Vec-send u8 byte_send, (number_send, tt))))) in
    let s : IsSend (TupleAt [] Rs) = struct_may (type_at [] Rs) all in
    let w : IsSend (param 2 (arg ty_bool Exit.no (TupleAt [] Rs))) = param_send 2 (arg ty_bool Exit.no (TupleAt [] Rs)) (arg_send ty_bool Exit.no (TupleAt [] Rs) s) in
    record { owned = w.owned; leaving = w.leaving }

-- and hands back the pass and the counts
pub spawn_with-requires-send-T : goal.spawn_with-requires-send-T
spawn_with-requires-send-T g c κs within =
    let Rs : List RattleType = PassRow item.the_row u32 ∷ vec.the_row u8 heap.the_row ghosts ∷ [] in
    let all : AllSend Rs = (pass_send item.the_row u32 item_send number_send, (Vec-send u8 byte_send, tt)) in
    let s : IsSend (TupleAt [] Rs) = struct_may (type_at [] Rs) all in
    let w : IsSend (param 3 (arg ty_bool Exit.no (TupleAt [] Rs))) = param_send 3 (arg ty_bool Exit.no (TupleAt [] Rs)) (arg_send ty_bool Exit.no (TupleAt [] Rs) s) in
    record { owned = w.owned; leaving = w.leaving }
